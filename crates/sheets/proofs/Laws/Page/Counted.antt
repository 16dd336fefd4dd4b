-- Parts made from counted numbers, one after the other: one more of them, more of them, and their length where all have one size.
use Prim.Native.Nat.{ℕ, zero, suc, ◌+◌, ◌*◌, ◌≤◌, ◌<◌}
use native.Mathlib.Omega.{arith}
use native.Mathlib.Nat.{zero-add, add-zero, add-suc, suc-add}
use mathlib.Core.Path.{◌≡◌, ap}
use mathlib.Core.List.{List, ◌++◌, map, append-nil, append_assoc}
use lib.ListN.{length, length-append}
use Rattle.text.specs.Bytes.{joined}
use Rattle.model.specs.Folders.{count_from}

module _ (f : ℕ → List ℕ) where
  pub joined-more : (first n : ℕ) → joined (map f (count_from first n)) ++ f (first + n) ≡ joined (map f (count_from first (suc n)))
  unfolding joined count_from
  joined-more first zero = rw (add-zero, append-nil)
  joined-more first (suc n) =
      let rest = joined (map f (count_from (suc first) n)) in
      rw (append_assoc (f first) rest (f (first + suc n)), add-suc, ← suc-add first n) (ap (λ (l : List ℕ). f first ++ l) (joined-more (suc first) n))

  pub joined-parts : (first m n : ℕ) → joined (map f (count_from first (m + n))) ≡ joined (map f (count_from first m)) ++ joined (map f (count_from (first + m) n))
  unfolding joined count_from
  joined-parts first zero n = rw (zero-add, add-zero)
  joined-parts first (suc m) n =
      rw (suc-add, append_assoc (f first) (joined (map f (count_from (suc first) m))) (joined (map f (count_from (first + suc m) n))), add-suc, ← suc-add first m)
      (ap (λ (l : List ℕ). f first ++ l) (joined-parts (suc first) m n))

  pub joined_length : (size first n : ℕ) → ((i : ℕ) → first ≤ i → i < first + n → length (f i) ≡ size) → length (joined (map f (count_from first n))) ≡ n * size
  unfolding joined count_from
  joined_length size first zero h = omega arith
  joined_length size first (suc n) h =
      omega (
        arith,
        length-append (f first) (joined (map f (count_from (suc first) n))),
        h first (omega arith) (omega arith),
        joined_length size (suc first) n (λ i low high. h i (omega arith) (omega arith)),
      )
