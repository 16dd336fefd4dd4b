-- The loops of the pass that writes the masks and the initial state: what one turn does, and where they begin and end.
use Prim.Native.Nat.{ℕ, zero, suc, ◌+◌, ◌-◌, ◌≤◌, ◌<◌}
use mathlib.Core.Path.{◌≡◌, refl, ap}
use mathlib.Core.Bool.{Bool, true, false, ◌||◌}
use mathlib.Core.List.{List}
use native.Mathlib.Nat.{add-zero, sub-zero}
use native.Mathlib.Omega.{arith}
use borrow.Author.Tests.{eq-eqb, ne_eqb, eqb-true}
use lib.Dec.{eqb}
use Rattle.std.specs.List.{range_with_len, list_any}
use Rattle.stored.specs.Code.Masks.{flag_step, flag_steps, flag_path, flag_paths, rooted, any_rooted}
use Rattle.text.proofs.Laws.Tests.{same_test}

-- the steps of a path
module _ (steps from : ℕ) where
  pub steps-start : (part : List ℕ) → flag_steps (steps - 0) (from + 0) (eqb 0 0) part ≡ flag_steps steps from true part
  steps-start part = rw (sub-zero, add-zero)

  pub steps-turn : (k : ℕ) (part : List ℕ) → k < steps
      → flag_steps (steps - k) (from + k) (eqb k 0) part ≡ flag_steps (steps - (k + 1)) (from + (k + 1)) (eqb (k + 1) 0) (flag_step (from + k) (eqb k 0) (eqb (k + 1) steps) part)
  unfolding flag_steps
  steps-turn k part h =
      let one : steps - k ≡ suc (steps - (k + 1)) = omega arith in
      let next : from + (k + 1) ≡ suc (from + k) = omega arith in
      let later : eqb (k + 1) 0 ≡ false = ne_eqb (k + 1) 0 (omega arith) in
      let last : eqb (k + 1) steps ≡ eqb (steps - (k + 1)) 0 = same_test (eqb (k + 1) steps) (eqb (steps - (k + 1)) 0) (λ t. eq-eqb (steps - (k + 1)) 0 (omega (arith, eqb-true (k + 1) steps t))) (λ t. eq-eqb (k + 1) steps (omega (arith, eqb-true (steps - (k + 1)) 0 t))) in
      rw (one, next, later, last)

  pub steps-end : (k : ℕ) (part : List ℕ) (first : Bool) → steps ≤ k → flag_steps (steps - k) (from + k) first part ≡ part
  unfolding flag_steps
  steps-end k part first h = let none : steps - k ≡ 0 = omega arith in rw none

-- the paths
module _ (n : ℕ) where
  pub paths-start : (part : List ℕ) → flag_paths (n - 0) 0 part ≡ flag_paths n 0 part
  paths-start part = rw sub-zero

  pub paths-turn : (place : ℕ) (part : List ℕ) → place < n → flag_paths (n - place) place part ≡ flag_paths (n - (place + 1)) (place + 1) (flag_path place part)
  unfolding flag_paths
  paths-turn place part h =
      let one : n - place ≡ suc (n - (place + 1)) = omega arith in
      let next : place + 1 ≡ suc place = omega arith in
      rw (one, next)

  pub paths-end : (place : ℕ) (part : List ℕ) → n ≤ place → flag_paths (n - place) place part ≡ part
  unfolding flag_paths
  paths-end place part h = let none : n - place ≡ 0 = omega arith in rw none

-- some path of those that are left begins with `/`
pub rooted-among : (left place : ℕ) (part : List ℕ) → list_any (rooted part) (range_with_len place left) ≡ any_rooted left place part
unfolding any_rooted
rooted-among zero place part = refl
rooted-among (suc left) place part =
    let next : place + 1 ≡ suc place = omega arith in
    rw next (ap (λ b. rooted part place || b) (rooted-among left (suc place) part))
