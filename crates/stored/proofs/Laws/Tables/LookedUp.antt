-- Looking up a name on the chain of its hash, in tables that hold the chains of the labels from k on.
use Prim.Native.Nat.{ℕ, zero, suc, ◌-◌, ◌≤◌, ◌<◌}
use mathlib.Core.Path.{◌≡◌, refl, sym, ◌∙◌}
use mathlib.Core.Bool.{true, false}
use mathlib.Core.List.{List, [], ◌∷◌}
use native.Mathlib.Omega.{arith}
use borrow.Author.Tests.{eqb-true, eq-eqb}
use lib.ListN.{length, get_or, drop, drop_of_length-le}
use lib.Seq.{drop-cons}
use Rattle.text.specs.Names.{Name, same_name}
use Rattle.text.specs.Lists.{any}
use Rattle.notation.specs.Limits.{max_labels}
use Rattle.notation.specs.Reads.{label_name}
use Rattle.notation.specs.Sets.{FolderSet}
use Rattle.stored.specs.Automaton.{hashes, hash, find, all_labels, has_hash, named, is_last, last_of_hash, find_with_later}
use Rattle.stored.specs.Tables.{head_at, other_at, look_from, look_up, first_after, first_of}
use Rattle.text.proofs.Laws.Tests.{cases, clash, both, both_true}
use Rattle.model.proofs.Laws.Keywords.Words.{same-name}
use Rattle.stored.proofs.Laws.Bytes.Finding.{find-missing, last-here, last-later, last_empty}
use Rattle.stored.proofs.Laws.Tables.Chained.{Chained, chain_at, hash-small}

pub record ChainedFrom (names : List Name) (k : ℕ) (a : List ℕ) : Type 0 where
  pub few : length names ≤ max_labels
  pub head : (h : ℕ) → h < hashes → head_at a h ≡ find_with_later (last_of_hash h) (suc k) (drop k names)
  pub label : (l : ℕ) → k ≤ l → l < length names → label_name a l ≡ get_or names l []
  pub other : (l : ℕ) → k ≤ l → l < length names → other_at a l ≡ (chain_at names l).other

-- place p is that of the last label with name e, if one from k on has it
pub data LookedUp (names : List Name) (k : ℕ) (e : Name) (p : ℕ) : Type 0 where
  missing : p ≡ 0 → any (named e) (drop k names) ≡ false → LookedUp names k e p
  found : (r : ℕ) → p ≡ suc r → k ≤ r → r < length names → get_or names r [] ≡ e → is_last e (drop (suc r) names) ≡ true → LookedUp names k e p

pub look-end : (more : ℕ) (a : List ℕ) (e : Name) → look_from more a e 0 ≡ 0
unfolding look_from
look-end zero a e = refl
look-end (suc more) a e = refl

look-here : (more : ℕ) (a : List ℕ) (e : Name) (l : ℕ) → same_name (label_name a l) e ≡ true → look_from (suc more) a e (suc l) ≡ suc l
unfolding look_from
look-here more a e l h = rw h

look-on : (more : ℕ) (a : List ℕ) (e : Name) (l : ℕ) → same_name (label_name a l) e ≡ false → look_from (suc more) a e (suc l) ≡ look_from more a e (other_at a l)
unfolding look_from
look-on more a e l h = rw h

any_none : (e n : Name) (later : List Name) → named e n ≡ false → any (named e) later ≡ false → any (named e) (n ∷ later) ≡ false
unfolding any
any_none e n later h k = rw (h, k)

any-empty : (e : Name) → any (named e) [] ≡ false
unfolding any
any-empty e = refl

-- a label that is not the last of its name, or of another hash, does not have the name unless a later one has it
not_named : (e n : Name) (later : List Name) → last_of_hash (hash e) n later ≡ false → any (named e) later ≡ false → named e n ≡ false
not_named e n later h k = cases (named e n) same (λ t. t)
  where
    same : named e n ≡ true → named e n ≡ false
    same t = let i : n ≡ e = same-name n e t in clash (rw (i, k) (both_true (eq-eqb (hash e) (hash e) refl) refl)) h

module _ (names : List Name) (k : ℕ) (a : List ℕ) (c : ChainedFrom names k a) (e : Name) where
  -- label j is passed over
  passed : (j p : ℕ) → j < length names → (any (named e) (drop (suc j) names) ≡ false → named e (get_or names j []) ≡ false) → LookedUp names (suc j) e p → LookedUp names j e p
  passed j p h unlike (missing z m) = missing z (rw (drop-cons names j [] h) (any_none e (get_or names j []) (drop (suc j) names) (unlike m) m))
  passed j p h unlike (found r z i b n l) = found r z (omega arith) b n l

  along : (left j more : ℕ) → k ≤ j → left ≡ length names - j → left ≤ more
      → LookedUp names j e (look_from more a e (find_with_later (last_of_hash (hash e)) (suc j) (drop j names)))
  along zero j more i size room =
      let d : drop j names ≡ [] = drop_of_length-le names (omega arith) in
      rw (d, last_empty (last_of_hash (hash e)) (suc j)) (missing (look-end more a e) (rw d (any-empty e)))
  along (suc left) j zero i size room = absurd (omega arith)
  along (suc left) j (suc more) i size room =
      let h : j < length names = omega arith in
      let n = get_or names j [] in
      let later = drop (suc j) names in
      rw (drop-cons names j [] h)
      (cases (last_of_hash (hash e) n later)
      (λ t. let b = both (has_hash (hash e) n) (is_last n later) t in
      rw (last-here (last_of_hash (hash e)) (suc j) n later t)
      (cases (named e n)
      (λ q. let is : n ≡ e = same-name n e q in found j (look-here more a e j (rw (c.label j i h) q)) (omega arith) h is (rw is at b.1))
      (λ q. let other : other_at a j ≡ find_with_later (last_of_hash (hash e)) (suc (suc j)) later = c.other j i h ∙ rw (b.1, eqb-true (hash n) (hash e) b.0) in
      rw (look-on more a e j (rw (c.label j i h) q), other) (passed j _ h (λ m. q) (along left (suc j) more (omega arith) (omega arith) (omega arith))))))
      (λ t. rw (last-later (last_of_hash (hash e)) (suc j) n later t)
      (passed j _ h (not_named e n later t) (along left (suc j) (suc more) (omega arith) (omega arith) (omega arith)))))

  -- what a look-up finds
  pub looked-up : LookedUp names k e (look_up a e)
  unfolding look_up
  looked-up = rw (c.head (hash e) (hash-small e)) (along (length names - k) k max_labels (omega arith) refl (omega (arith, c.few)))

-- the first label of a name is the first that has it
pub first-of : (s : FolderSet) (a : List ℕ) → Chained s a → (e : Name) → first_of a e ≡ find (named e) 1 (all_labels s)
unfolding first_of
first-of s a c e = go (look_up a e) (looked-up (all_labels s) 0 a whole e)
  where
    whole : ChainedFrom (all_labels s) 0 a
    whole = record { few = c.few; head = c.head; label = λ l z h. c.label l h; other = λ l z h. c.other l h }

    go : (p : ℕ) → LookedUp (all_labels s) 0 e p → first_after a p ≡ find (named e) 1 (all_labels s)
    go p (missing z m) = rw z (sym (find-missing (named e) 1 (all_labels s) m))
    go p (found r z i b n l) = rw z (c.first r b ∙ rw (n, l))
