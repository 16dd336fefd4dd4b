-- A store into a label's link leaves what is stored elsewhere: the chains stay, so that a search along them still ends.
use Prim.Native.Nat.{ℕ, ◌+◌, ◌≤◌, ◌<◌}
use native.Mathlib.Omega.{arith}
use mathlib.Core.Path.{◌≡◌}
use mathlib.Core.Logic.{◌⊎◌, inl, inr}
use mathlib.Core.List.{List}
use lib.Dec.{ltb}
use borrow.Author.Tests.{ltb-true, ltb-false}
use lib.Seq.{sets}
use Rattle.text.specs.Bytes.{le16}
use Rattle.notation.specs.Layout.{word_size, label_count_at}
use Rattle.notation.specs.Reads.{word16, label_count}
use Rattle.stored.specs.Automaton.{hashes, heads_at, links_at, link_size, parent_in, size_in, other_in, first_in, head_entry_at, link_entry_at}
use Rattle.stored.specs.Tables.{head_at, next_at, other_at, first_at, size_of}
use Rattle.stored.specs.Usable.{After, Searchable}
use Rattle.stored.specs.Code.Parents.{word_stored}
use Rattle.text.proofs.Laws.Tests.{cases}
use Rattle.stored.proofs.Laws.Bytes.Beside.{byte-before, byte-behind, word_same}

-- the number at j does not touch the one stored at i
pub word-other : (a : List ℕ) (i v j : ℕ) → (j + 1 < i) ⊎ (i + 1 < j) → word16 (sets a i (le16 v)) j ≡ word16 a j
word-other a i v j (inl h) = word_same (sets a i (le16 v)) a j j (byte-before (le16 v) a i j (omega arith)) (byte-before (le16 v) a i (j + 1) h)
word-other a i v j (inr h) = word_same (sets a i (le16 v)) a j j (byte-behind (le16 v) a i j (omega arith)) (byte-behind (le16 v) a i (j + 1) (omega arith))

-- a store into link l, o bytes from its beginning, where neither the next label of the name nor what follows the length stands
module _ (a : List ℕ) (l o v : ℕ) (past : word_size ≤ o) (before : o + word_size ≤ other_in) where
  abbrev stored : List ℕ
  stored = sets a (link_entry_at l + o) (le16 v)

  pub count_kept : label_count stored ≡ label_count a
  unfolding links_at
  count_kept = word-other a (link_entry_at l + o) v label_count_at (inl (omega arith))

  pub head-kept : (h : ℕ) → h < hashes → head_at stored h ≡ head_at a h
  unfolding links_at heads_at hashes
  head-kept h k = word-other a (link_entry_at l + o) v (head_entry_at h) (inl (omega arith))

  pub next-kept : (m : ℕ) → next_at stored m ≡ next_at a m
  unfolding link_size
  next-kept m =
      cases (ltb l m)
      (λ t. let h : l < m = ltb-true l m t in word-other a (link_entry_at l + o) v (link_entry_at m) (inr (omega arith)))
      (λ t. let h : m ≤ l = ltb-false l m t in word-other a (link_entry_at l + o) v (link_entry_at m) (inl (omega arith)))

  behind-kept : (m i : ℕ) → other_in ≤ i → i + word_size ≤ link_size → word16 stored (link_entry_at m + i) ≡ word16 a (link_entry_at m + i)
  unfolding link_size
  behind-kept m i p q =
      cases (ltb m l)
      (λ t. let h : m < l = ltb-true m l t in word-other a (link_entry_at l + o) v (link_entry_at m + i) (inl (omega arith)))
      (λ t. let h : l ≤ m = ltb-false m l t in word-other a (link_entry_at l + o) v (link_entry_at m + i) (inr (omega arith)))

  pub other-kept : (m : ℕ) → other_at stored m ≡ other_at a m
  unfolding link_size
  other-kept m = behind-kept m other_in (omega arith) (omega arith)

  pub first-kept : (m : ℕ) → first_at stored m ≡ first_at a m
  unfolding link_size
  first-kept m = behind-kept m first_in (omega arith) (omega arith)

  after_kept : (m k : ℕ) → After a m k → After stored m k
  after_kept m k f = record { within = rw count_kept f.within; later = f.later }

  pub searchable-kept : Searchable a → Searchable stored
  searchable-kept s =
      let label : (m : ℕ) → m < label_count stored → m < label_count a = λ m k. rw count_kept at k in
      record {
        lookable = record {
          few = rw count_kept s.lookable.few;
          head = λ h k. rw (count_kept, head-kept h k) (s.lookable.head h k);
          other = λ m k. rw (other-kept m) (after_kept m (other_at a m) (s.lookable.other m (label m k)));
        };
        first = λ m k. rw (count_kept, first-kept m) (s.first m (label m k));
        next = λ m k. rw (next-kept m) (after_kept m (next_at a m) (s.next m (label m k)));
      }

pub searchable-stored : (l q : ℕ) (a : List ℕ) → Searchable a → Searchable (word_stored l q a)
searchable-stored l q a s =
    searchable-kept (sets a (link_entry_at l + parent_in) (le16 q)) l size_in (size_of a q + 1) (omega arith) (omega arith)
    (searchable-kept a l parent_in q (omega arith) (omega arith) s)
