-- Tests of the numbers of a range, as an iterator goes through them.
use Prim.Native.Nat.{ℕ, zero, suc}
use mathlib.Core.Path.{◌≡◌, refl, ◌∙◌, ap}
use mathlib.Core.Bool.{Bool, ◌||◌}
use native.Mathlib.Numerals.{add-one}
use Rattle.std.specs.List.{range_with_len, list_any}
use Rattle.text.specs.Lists.{any}
use Rattle.model.specs.Folders.{count_from}

pub any-in_range : (f : ℕ → Bool) (first n : ℕ) → list_any f (range_with_len first n) ≡ any f (count_from first n)
unfolding any count_from
any-in_range f first zero = refl
any-in_range f first (suc n) = ap (λ (b : Bool). f first || b) (ap (λ (k : ℕ). list_any f (range_with_len k n)) (add-one first) ∙ any-in_range f (suc first) n)
