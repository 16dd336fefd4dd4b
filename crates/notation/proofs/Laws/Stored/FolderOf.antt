-- On any bytes: where a folder is found by its number, it is there and has that number, and no folder before it has.
use Rattle.std.proofs.Common.{Some, None}
use Prim.Native.Nat.{ℕ, zero, suc, ◌+◌, ◌≤◌, ◌<◌, zero-le, min}
use mathlib.Core.Path.{◌≡◌}
use mathlib.Core.Bool.{true}
use mathlib.Core.List.{List}
use native.Mathlib.Omega.{arith}
use borrow.Author.Tests.{eqb-true, eqb-false, lt-ltb}
use lib.Dec.{eqb, leb}
use lib.ListN.{length}
use Rattle.notation.specs.Limits.{max_paths}
use Rattle.notation.specs.Layout.{set_size}
use Rattle.notation.specs.Reads.{folder_count, present, folder_there, stored_number, search_folder, folder_of}
use Rattle.notation.specs.declared.FolderNumber.{FolderNumber}
use Rattle.text.proofs.Laws.Tests.{cases}

pub record Found (part : List ℕ) (number k left i : ℕ) : Type 0 where
  pub from : k ≤ i
  pub below : i < k + left
  pub has : stored_number part i ≡ number
  pub first : (j : ℕ) → k ≤ j → j < i → stored_number part j ≡ number → ⊥

never : {i : ℕ} → None ≡ Some i → ⊥
never e = let z : ◌≡◌ {A = ℕ} 0 1 = cc in omega arith

index_of : {i j : ℕ} → Some i ≡ Some j → i ≡ j
index_of e = cc

found : (part : List ℕ) (number k left i : ℕ) → search_folder part number k left ≡ Some i → Found part number k left i
unfolding search_folder
found part number k zero i e = absurd (never e)
found part number k (suc left) i e =
    cases (eqb (stored_number part k) number)
    (λ t. let q : k ≡ i = index_of (rw t at e) in
    record {
      from = omega arith;
      below = omega arith;
      has = rw (← q) (eqb-true (stored_number part k) number t);
      first = λ j a b m. omega arith;
    })
    (λ t. let r = found part number (suc k) left i (rw t at e) in
    record {
      from = omega (arith, r.from);
      below = omega (arith, r.below);
      has = r.has;
      first = λ j a b m. cases (eqb j k)
          (λ u. eqb-false (stored_number part k) number t (rw (eqb-true j k u) at m))
          (λ u. let n : j ≡ k → ⊥ = eqb-false j k u in
          let c : suc k ≤ j = omega arith in
          r.first j c b m);
    })

-- the folder of a number, where there is one
pub folder-of-found : (part : List ℕ) (n : FolderNumber) (i : ℕ) → folder_of part n ≡ Some i
    → (folder_there part i ≡ true) × (stored_number part i ≡ n.0) × ((j : ℕ) → j < i → stored_number part j ≡ n.0 → ⊥)
unfolding folder_of present
folder-of-found part n i e =
    cases (leb set_size (length part))
    (λ t. let r = found part n.0 0 (min (folder_count part) max_paths) i (rw t at e) in
    let c : i < folder_count part = omega (arith, r.below) in
    let d : i < max_paths = omega (arith, r.below) in
    (rw (t, lt-ltb i (folder_count part) c, lt-ltb i max_paths d), r.has, λ j h. r.first j zero-le h))
    (λ t. absurd (never (rw t at e)))
