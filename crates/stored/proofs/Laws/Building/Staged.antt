-- An automaton in the making that has all its links but for some failure links, which are still 0: its tables can be walked.
use Prim.Native.Nat.{ℕ, suc, ◌≤◌, ◌<◌}
use mathlib.Core.Path.{◌≡◌, refl, ◌∙◌, ap}
use mathlib.Core.Logic.{◌⊎◌, inl, inr}
use mathlib.Core.List.{List, [], ◌∷◌, ◌++◌}
use native.Mathlib.Omega.{arith}
use lib.ListN.{length, get_or, length-append}
use Rattle.notation.specs.Limits.{max_steps, max_labels}
use Rattle.notation.specs.Sets.{FolderSet}
use Rattle.notation.specs.Reads.{label_count}
use Rattle.notation.proofs.Laws.Refused.Fitting.{Fitting}
use Rattle.model.specs.Words.{name, Word}
use Rattle.model.specs.Prefix.{IsPrefix, failure}
use Rattle.stored.specs.Automaton.{hashes, automaton_size, all_labels, all_words, state_of, shortened, heads, marks, Link, assembled, all_masks}
use Rattle.stored.specs.Tables.{fail_at, size_at, size_of}
use Rattle.stored.specs.Code.Fails.{Growing}
use Rattle.model.proofs.Laws.Keywords.Prefix.{failure-is}
use Rattle.stored.proofs.Laws.Bytes.Tabulate.{tabulate-length}
use Rattle.stored.proofs.Laws.Tables.Assembled.{chain_in, group_in, no_link, Sized, assembled-length, fail-read, size-read}
use Rattle.stored.proofs.Laws.Tables.Marked.{group_at}
use Rattle.stored.proofs.Laws.Tables.SetReads.{label-count}
use Rattle.stored.proofs.Laws.Tables.States.{StateKind, of_empty, of_root, of_label, state-kind, word-ends, label-parent, shortened-followed, state-within}
use Rattle.stored.proofs.Laws.Tables.Chained.{chain_at}
use Rattle.stored.proofs.Laws.Tables.Goto.{Linked}
use Rattle.stored.proofs.Laws.Tables.Linked.{linked-here}
use Rattle.stored.proofs.Laws.Tables.Searched.{chained-searchable}

abbrev pub word_at : FolderSet → ℕ → Word
word_at s l = get_or (all_words s) l []

abbrev pub failure_at : FolderSet → ℕ → ℕ
failure_at s l = state_of s (failure s (word_at s l))

-- the links are those of the set, but for failure links that are 0
pub record Links (s : FolderSet) (ls : List Link) : Type 0 where
  pub count : length ls ≡ length (all_labels s)
  pub chain : (l : ℕ) → l < length (all_labels s) → chain_in (get_or ls l no_link) ≡ chain_at (all_labels s) l
  pub group : (l : ℕ) → l < length (all_labels s) → group_in (get_or ls l no_link) ≡ group_at (marks s) l
  pub parent : (l : ℕ) → l < length (all_labels s) → (get_or ls l no_link).parent ≡ state_of s (shortened (word_at s l))
  pub fail : (l : ℕ) → l < length (all_labels s) → ((get_or ls l no_link).fail ≡ 0) ⊎ ((get_or ls l no_link).fail ≡ failure_at s l)
  pub size : (l : ℕ) → l < length (all_labels s) → (get_or ls l no_link).size ≡ length (word_at s l)

-- no word is longer than the longest path with `#`
abbrev pub Short : FolderSet → Type 0
Short s = (l : ℕ) → l < length (all_labels s) → length (word_at s l) ≤ suc max_steps

-- the words of labels and their failures
pub word_size : (s : FolderSet) (l : ℕ) → l < length (all_labels s) → length (word_at s l) ≡ suc (length (shortened (word_at s l)))
word_size s l h =
    let e = word-ends s l h in
    let n = get_or (all_labels s) l [] in
    rw (e.1, shortened-followed e.0 n) (omega (arith, length-append e.0 (name n ∷ [])))

fail-prefix : (s : FolderSet) (w : Word) → 0 < length w → IsPrefix s (failure s w) × (length (failure s w) < length w)
fail-prefix s [] h = absurd (omega arith)
fail-prefix s (t ∷ w) h = ((failure-is s t w).starts, (failure-is s t w).proper)

pub failure-prefix : (s : FolderSet) (l : ℕ) → l < length (all_labels s) → IsPrefix s (failure s (word_at s l)) × (length (failure s (word_at s l)) < length (word_at s l))
failure-prefix s l h = fail-prefix s (word_at s l) (omega (arith, word_size s l h))

module _ (s : FolderSet) (fit : Fitting s) (short : Short s) (ms : List ℕ) (f : ℕ) (masks : length ms ≡ all_masks) (rest : List ℕ) where
  abbrev pub stage : List Link → List ℕ
  stage ls = assembled s (heads (all_labels s)) ls ms f ++ rest

  module _ (ls : List Link) (k : Links s ls) where
    pub sized : Sized (heads (all_labels s)) ls ms
    sized = record { heads = tabulate-length _ hashes; links = omega (arith, k.count, fit.labels); masks = masks }

    pub staged : Linked s (stage ls)
    staged = linked-here s fit ls ms f sized rest k.count k.chain k.parent

    pub count-here : label_count (stage ls) ≡ length (all_labels s)
    count-here = label-count s fit (heads (all_labels s)) ls ms f rest

    pub size-here : (l : ℕ) → l < length (all_labels s) → size_at (stage ls) l ≡ length (word_at s l)
    unfolding max_steps
    size-here l h = size-read s fit (heads (all_labels s)) ls ms f sized rest l (rw k.count h) (rw (k.size l h) (omega (arith, short l h))) ∙ k.size l h

    fail-small : (l : ℕ) → l < length (all_labels s) → (get_or ls l no_link).fail ≤ suc (length (all_labels s))
    fail-small l h = go (k.fail l h)
      where
        go : ((get_or ls l no_link).fail ≡ 0) ⊎ ((get_or ls l no_link).fail ≡ failure_at s l) → (get_or ls l no_link).fail ≤ suc (length (all_labels s))
        go (inl e) = omega arith
        go (inr e) = rw e (state-within s (failure s (word_at s l)) (failure-prefix s l h).0)

    pub fail-here : (l : ℕ) → l < length (all_labels s) → fail_at (stage ls) l ≡ (get_or ls l no_link).fail
    unfolding max_labels
    fail-here l h = fail-read s fit (heads (all_labels s)) ls ms f sized rest l (rw k.count h) (omega (arith, fail-small l h, fit.labels))

    -- the length of a state's word
    pub size-state : (u : Word) → IsPrefix s u → size_of (stage ls) (state_of s u) ≡ length u
    unfolding size_of
    size-state u p = go (state-kind s u p)
      where
        go : StateKind s u → size_of (stage ls) (state_of s u) ≡ length u
        go (of_empty e i) = rw (i, e)
        go (of_root e i) = rw (i, e)
        go (of_label x) = rw x.is (size-here x.index x.below ∙ ap length x.word)

    size-zero : size_of (stage ls) 0 ≡ 0
    unfolding size_of
    size-zero = refl

    falls-here : (l : ℕ) → l < length (all_labels s) → size_of (stage ls) (fail_at (stage ls) l) < size_at (stage ls) l
    falls-here l h = rw (fail-here l h, size-here l h) (go (k.fail l h))
      where
        go : ((get_or ls l no_link).fail ≡ 0) ⊎ ((get_or ls l no_link).fail ≡ failure_at s l) → size_of (stage ls) (get_or ls l no_link).fail < length (word_at s l)
        go (inl e) = rw (e, size-zero) (omega (arith, word_size s l h))
        go (inr e) = let p = failure-prefix s l h in rw (e, size-state (failure s (word_at s l)) p.0) p.1

    room : automaton_size ≤ length (stage ls)
    room = omega (arith, length-append (assembled s (heads (all_labels s)) ls ms f) rest, assembled-length s fit (heads (all_labels s)) ls ms f sized)

    pub stage-grows : Growing (stage ls)
    stage-grows = record {
      room = room;
      walkable = record {
        searchable = chained-searchable s (stage ls) staged.chained count-here;
        falling = record {
          fail = λ l h. let h' : l < length (all_labels s) = rw count-here at h in rw (count-here, fail-here l h') (fail-small l h');
          size = λ l h. let h' : l < length (all_labels s) = rw count-here at h in rw (size-here l h') (short l h');
          shorter = λ l h. falls-here l (rw count-here at h);
        };
      };
      parent = λ l h. let h' : l < length (all_labels s) = rw count-here at h in rw (count-here, staged.parent l h') (state-within s (shortened (word_at s l)) (label-parent s l h'));
      grown = λ l h.
          let h' : l < length (all_labels s) = rw count-here at h in
          rw (size-here l h', staged.parent l h', size-state (shortened (word_at s l)) (label-parent s l h')) (word_size s l h');
    }
