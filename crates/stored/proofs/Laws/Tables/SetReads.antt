-- What is read of the set is read of an automaton in the making: its labels and steps.
use Prim.Native.Nat.{ℕ, ◌<◌}
use native.Mathlib.Omega.{arith}
use mathlib.Core.Path.{◌≡◌, sym, ap, subst}
use mathlib.Core.List.{List, [], ◌++◌}
use lib.ListN.{length, get_or, take}
use Rattle.std.proofs.Common.{Some}
use Rattle.std.proofs.lemmas.Option.{same_Some}
use Rattle.notation.specs.Limits.{max_labels}
use Rattle.notation.specs.Print.{print}
use Rattle.notation.specs.Sets.{label, FolderSet, test_of}
use Rattle.notation.specs.Form.{labels_of}
use Rattle.notation.specs.Layout.{set_part}
use Rattle.notation.specs.Reads.{step_count, label_count, label_name, label_at, label_step, step_at, stored_step}
use Rattle.notation.specs.declared.reads.StoredLabel.{StoredLabel}
use Rattle.notation.proofs.Laws.Stored.LabelTable.{no_step}
use Rattle.notation.proofs.Laws.Refused.Fitting.{Fitting}
use Rattle.notation.proofs.Laws.Stored.Reads.{steps-read, labels-read, there}
use Rattle.notation.proofs.Laws.Stored.ReadSteps.{step-read}
use Rattle.notation.proofs.Laws.Stored.ReadPaths.{LabelRead, label-read}
use Rattle.stored.specs.Automaton.{Link, all_steps, all_labels, assembled}
use Rattle.stored.proofs.Laws.Tables.Assembled.{after-set}

-- label l is the test of this step, with l labels before it
pub record LabelStep (s : FolderSet) (l owner : ℕ) : Type 0 where
  pub below : owner < length (all_steps s)
  pub test : test_of (get_or (all_steps s) owner no_step) ≡ label (get_or (all_labels s) l [])
  pub nth : length (labels_of (take owner (all_steps s))) ≡ l

owner : (s : FolderSet) → Fitting s → (more : List ℕ) (l : ℕ) → l < length (all_labels s) → LabelStep s l (label_step (set_part s ++ more) l)
unfolding label_at
owner s fit more l h =
    let r = label-read s fit more l h in
    let k : l < max_labels = omega (arith, fit.labels) in
    let e : label_step (set_part s ++ more) l ≡ r.index =
    ap (λ (x : StoredLabel). x.step) (same_Some _ _ (rw (labels-read s fit more, there s fit more (length (all_labels s)) max_labels l h k) at r.answer)) in
    rw e (record { below = r.below; test = r.test; nth = r.nth })

module _ (s : FolderSet) (fit : Fitting s) (hs : List ℕ) (ls : List Link) (ms : List ℕ) (f : ℕ) (rest : List ℕ) where
  -- whatever holds of a set's bytes with any bytes behind them holds here
  pub of-set : (P : List ℕ → Type 0) → ((more : List ℕ) → P (set_part s ++ more)) → P (assembled s hs ls ms f ++ rest)
  of-set P h = let a = after-set s fit hs ls ms f rest in subst P (sym a.1) (h a.0)

  pub label-count : label_count (assembled s hs ls ms f ++ rest) ≡ length (all_labels s)
  label-count = of-set (λ a. label_count a ≡ length (all_labels s)) (labels-read s fit)

  pub step_count-is : step_count (assembled s hs ls ms f ++ rest) ≡ length (all_steps s)
  step_count-is = of-set (λ a. step_count a ≡ length (all_steps s)) (steps-read s fit)

  pub label-entry : (l : ℕ) → l < length (all_labels s) → LabelRead (assembled s hs ls ms f ++ rest) (print s) (all_steps s) l (get_or (all_labels s) l [])
  label-entry l h = of-set (λ a. LabelRead a (print s) (all_steps s) l (get_or (all_labels s) l [])) (λ more. label-read s fit more l h)

  pub label-bytes : (l : ℕ) → l < length (all_labels s) → label_name (assembled s hs ls ms f ++ rest) l ≡ get_or (all_labels s) l []
  label-bytes l h = (label-entry l h).bytes

  -- its step
  pub label-owner : (l : ℕ) → l < length (all_labels s) → LabelStep s l (label_step (assembled s hs ls ms f ++ rest) l)
  label-owner l h = of-set (λ a. LabelStep s l (label_step a l)) (λ more. owner s fit more l h)

  pub step-entry : (i : ℕ) → i < length (all_steps s)
      → step_at (assembled s hs ls ms f ++ rest) i ≡ Some (stored_step (get_or (all_steps s) i no_step))
  step-entry i h =
      of-set (λ a. step_at a i ≡ Some (stored_step (get_or (all_steps s) i no_step)))
      (λ more. step-read s fit more i h)
