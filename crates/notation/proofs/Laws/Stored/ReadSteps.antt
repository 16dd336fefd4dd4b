-- On the bytes of a set, a step is read as its axis and test.
use Prim.Native.Nat.{ℕ, ◌+◌, ◌*◌, ◌/◌, ◌%◌, ◌≤◌, ◌<◌}
use mathlib.Core.Path.{◌≡◌, ap}
use mathlib.Core.List.{List, ◌++◌, map}
use native.Mathlib.Nat.{add-zero}
use Rattle.std.proofs.Common.{Some, None}
use native.Mathlib.Omega.{arith}
use lib.Dec.{eqb}
use lib.ListN.{length, get_or, length-map}
use Rattle.notation.specs.Limits.{max_paths, max_steps}
use Rattle.notation.specs.Sets.{child, descendant, label, star, Step, step, FolderSet}
use Rattle.notation.specs.Print.{print}
use Rattle.notation.specs.Layout.{steps_at, step_entry, tables_of, set_part, star_kind}
use Rattle.notation.specs.Reads.{step_at, stored_step}
use Rattle.notation.proofs.Laws.Stored.Stands.{Stands, read}
use Rattle.notation.proofs.Laws.Stored.Entries.{entry, map_at}
use Rattle.notation.proofs.Laws.Stored.Sections.{steps-stand}
use Rattle.notation.proofs.Laws.Stored.LabelTable.{no_step}
use Rattle.notation.proofs.Laws.Refused.Fitting.{Fitting, roomy, one_byte}
use Rattle.notation.proofs.Laws.Stored.Reads.{all_steps, steps-read, there, gone}

-- the two bits of a step's byte
kind-step : (x : Step) (b : ℕ) → b ≡ get_or (step_entry x) 0 0 → record { descendant = eqb (b % 2) 1; star = eqb (b / star_kind % 2) 1 } ≡ stored_step x
kind-step (step child (label n)) b e = rw e
kind-step (step child star) b e = rw e
kind-step (step descendant (label n)) b e = rw e
kind-step (step descendant star) b e = rw e

module _ (s : FolderSet) (f : Fitting s) (rest : List ℕ) where
  -- a step's axis and test
  step-stands : (i : ℕ) → i < length (all_steps s) → Stands (steps_at + i) (step_entry (get_or (all_steps s) i no_step)) (set_part s ++ rest)
  unfolding set_part tables_of
  step-stands i h =
      let k : i < length (map step_entry (all_steps s)) = rw (length-map (all_steps s) step_entry) h in
      let e : steps_at + 1 * i ≡ steps_at + i = omega arith in
      rw (← e, ← map_at step_entry no_step (all_steps s) i h) (entry i (roomy s f).step_width k (steps-stand (print s) (tables_of s) (roomy s f) rest))

  pub step-read : (i : ℕ) → i < length (all_steps s)
      → step_at (set_part s ++ rest) i ≡ Some (stored_step (get_or (all_steps s) i no_step))
  unfolding step_at
  step-read i h =
      let k : i < max_paths * max_steps = omega (arith, f.steps) in
      let x : get_or (set_part s ++ rest) (steps_at + i + 0) 0 ≡ get_or (step_entry (get_or (all_steps s) i no_step)) 0 0 =
      read 0 (omega (arith, one_byte (get_or (all_steps s) i no_step))) (step-stands i h) in
      rw ((steps-read s f rest), there s f rest (length (all_steps s)) (max_paths * max_steps) i h k)
      (ap Some (kind-step (get_or (all_steps s) i no_step) (get_or (set_part s ++ rest) (steps_at + i) 0) (rw add-zero at x)))

  pub step-missing : (i : ℕ) → length (all_steps s) ≤ i → step_at (set_part s ++ rest) i ≡ None
  unfolding step_at
  step-missing i h = rw (steps-read s f rest, gone s f rest (length (all_steps s)) (max_paths * max_steps) i h)
