-- What is found along places of labels, each after the one before: the bounds of the definitions on how many labels are looked at are enough,
-- so that they never show.
use Prim.Native.Nat.{ℕ, zero, suc, ◌-◌, ◌≤◌, ◌<◌}
use mathlib.Core.Path.{◌≡◌, refl, ◌∙◌, ap}
use mathlib.Core.List.{List}
use native.Mathlib.Omega.{arith}
use Rattle.notation.specs.Limits.{max_labels}
use Rattle.notation.specs.Reads.{label_count}
use Rattle.stored.specs.Usable.{After}

-- how far the places can still go
unfoldable pub left : ℕ → ℕ → ℕ
left n zero = 0
left n (suc l) = n - l

-- the place after label l is further along
pub closer : (a : List ℕ) (l j : ℕ) → l < label_count a → After a l j → left (label_count a) j < left (label_count a) (suc l)
unfolding left
closer a l zero h f = omega arith
closer a l (suc m) h f = omega (arith, f.within, f.later m refl)

-- a function f of how many labels are looked at and the place, which puts each label to what it finds from the next place on
module _ {A : Type 0} (a : List ℕ) (few : label_count a ≤ max_labels) (next : ℕ → ℕ) (after : (l : ℕ) → l < label_count a → After a l (next l))
    (f : ℕ → ℕ → A) (put : ℕ → A → A) (end : (m n : ℕ) → f m 0 ≡ f n 0) (turn : (m l : ℕ) → f (suc m) (suc l) ≡ put l (f m (next l))) where
  enough : (m n k : ℕ) → k ≤ label_count a → left (label_count a) k ≤ m → left (label_count a) k ≤ n → f m k ≡ f n k
  unfolding left
  enough zero n zero i g h = end zero n
  enough zero n (suc l) i g h = absurd (omega arith)
  enough (suc m) n zero i g h = end (suc m) n
  enough (suc m) zero (suc l) i g h = absurd (omega arith)
  enough (suc m) (suc n) (suc l) i g h =
      let r = closer a l (next l) i (after l i) in
      rw (turn m l, turn n l) (ap (put l) (enough m n (next l) (after l i).within (omega arith) (omega arith)))

  -- one label more
  pub along : (l : ℕ) → l < label_count a → f max_labels (suc l) ≡ put l (f max_labels (next l))
  unfolding left
  along l i = enough max_labels (suc max_labels) (suc l) i (omega arith) (omega arith) ∙ turn max_labels l
