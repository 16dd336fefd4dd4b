-- Bytes with the heads, chains and parents of a set hold its labels by name and its words.
use Prim.Native.Nat.{ℕ, suc, ◌≤◌, ◌<◌}
use mathlib.Core.Path.{◌≡◌, ◌∙◌, ap}
use mathlib.Core.List.{List, [], ◌++◌}
use native.Mathlib.Omega.{arith}
use lib.ListN.{length, get_or}
use Rattle.notation.specs.Limits.{max_labels}
use Rattle.notation.specs.Sets.{FolderSet}
use Rattle.notation.specs.Reads.{label_name}
use Rattle.notation.proofs.Laws.Refused.Fitting.{Fitting}
use Rattle.notation.proofs.Laws.Stored.ReadPaths.{label-read}
use Rattle.stored.specs.Automaton.{hashes, all_labels, all_words, state_of, shortened, head_of, heads, Chain, Link, assembled}
use Rattle.stored.specs.Tables.{parent_at}
use Rattle.stored.proofs.Laws.Tables.Assembled.{Sized, chain_in, no_link, after-set, head_read, next-read, parent-read, other-read, first_read}
use Rattle.stored.proofs.Laws.Bytes.Tabulate.{tabulate-at}
use Rattle.stored.proofs.Laws.Tables.States.{label-parent, state-within}
use Rattle.stored.proofs.Laws.Tables.Chained.{Chained, chain_at}
use Rattle.stored.proofs.Laws.Tables.Searched.{head-within, behind-within, next-behind, other-behind, first-within}
use Rattle.stored.proofs.Laws.Tables.Goto.{Linked}

-- such numbers fit two bytes
pub small : (n v : ℕ) → n ≤ max_labels → v ≤ suc n → v < 65536
unfolding max_labels
small n v h k = omega arith

module _ (s : FolderSet) (fit : Fitting s) (ls : List Link) (ms : List ℕ) (f : ℕ) (z : Sized (heads (all_labels s)) ls ms) (rest : List ℕ) (count : length ls ≡ length (all_labels s)) where
  label-name-read : (l : ℕ) → l < length (all_labels s) → label_name (assembled s (heads (all_labels s)) ls ms f ++ rest) l ≡ get_or (all_labels s) l []
  label-name-read l h =
      let x = after-set s fit (heads (all_labels s)) ls ms f rest in
      rw x.1 (label-read s fit x.0 l h).bytes

  module _ (chain : (l : ℕ) → l < length (all_labels s) → chain_in (get_or ls l no_link) ≡ chain_at (all_labels s) l) where
    -- the labels by name
    pub chained-here : Chained s (assembled s (heads (all_labels s)) ls ms f ++ rest)
    chained-here = record {
      few = fit.labels;
      head = λ h k.
          let e : get_or (heads (all_labels s)) h 0 ≡ head_of (all_labels s) h = tabulate-at (head_of (all_labels s)) hashes h k in
          head_read s fit (heads (all_labels s)) ls ms f z rest h k (rw e (fits (head-within (all_labels s) h))) ∙ e;
      label = label-name-read;
      next = λ l h.
          let e : (get_or ls l no_link).next ≡ (chain_at (all_labels s) l).next = ap (λ (c : Chain). c.next) (chain l h) in
          next-read s fit (heads (all_labels s)) ls ms f z rest l (rw count h) (rw e (fits (behind-within (all_labels s) l _ h (next-behind (all_labels s) l)))) ∙ e;
      other = λ l h.
          let e : (get_or ls l no_link).other ≡ (chain_at (all_labels s) l).other = ap (λ (c : Chain). c.other) (chain l h) in
          other-read s fit (heads (all_labels s)) ls ms f z rest l (rw count h) (rw e (fits (behind-within (all_labels s) l _ h (other-behind (all_labels s) l)))) ∙ e;
      first = λ l h.
          let e : (get_or ls l no_link).first ≡ (chain_at (all_labels s) l).first = ap (λ (c : Chain). c.first) (chain l h) in
          first_read s fit (heads (all_labels s)) ls ms f z rest l (rw count h) (rw e (fits (first-within (all_labels s) l))) ∙ e;
    }
      where
        fits : {v : ℕ} → v ≤ length (all_labels s) → v < 65536
        fits {v} h = small (length (all_labels s)) v fit.labels (omega arith)

    -- and the parent of a label, where it is stored
    pub parent-here : (l : ℕ) → l < length (all_labels s) → (get_or ls l no_link).parent ≡ state_of s (shortened (get_or (all_words s) l []))
        → parent_at (assembled s (heads (all_labels s)) ls ms f ++ rest) l ≡ state_of s (shortened (get_or (all_words s) l []))
    parent-here l h p =
        parent-read s fit (heads (all_labels s)) ls ms f z rest l (rw count h)
        (small (length (all_labels s)) _ fit.labels (rw p (state-within s (shortened (get_or (all_words s) l [])) (label-parent s l h))))
        ∙ p

    pub linked-here : ((l : ℕ) → l < length (all_labels s) → (get_or ls l no_link).parent ≡ state_of s (shortened (get_or (all_words s) l [])))
        → Linked s (assembled s (heads (all_labels s)) ls ms f ++ rest)
    linked-here p = record { chained = chained-here; parent = λ l h. parent-here l h (p l h) }
