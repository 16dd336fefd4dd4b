-- Tests taken apart and put together: by cases with the equation kept, the halves of an `&&` and of an `||`.
use Prim.Native.Nat.{ℕ}
use native.Mathlib.Omega.{arith}
use mathlib.Core.Path.{◌≡◌, refl, sym}
use mathlib.Core.Bool.{Bool, true, false, ◌&&◌, ◌||◌}
use mathlib.Core.Logic.{◌⊎◌, inl, inr}

pub cases {ℓ} : {X : Type ℓ} (b : Bool) → (b ≡ true → X) → (b ≡ false → X) → X
cases true on off = on refl
cases false on off = off refl

pub zero_one : {X : Type 0} → ◌≡◌ {A = ℕ} 0 1 → X
zero_one z = absurd (omega arith)

pub clash : {X : Type 0} {b : Bool} → b ≡ true → b ≡ false → X
clash p q = zero_one (cc)

pub both : (a b : Bool) → (a && b) ≡ true → (a ≡ true) × (b ≡ true)
both true b e = (refl, e)
both false b e = (e, cc)

pub and_left : (a b : Bool) → (a && b) ≡ true → a ≡ true
and_left a b e = (both a b e).0

pub and_right : (a b : Bool) → (a && b) ≡ true → b ≡ true
and_right a b e = (both a b e).1

pub both_true : {a b : Bool} → a ≡ true → b ≡ true → (a && b) ≡ true
both_true p q = rw (p, q)

pub either : (a b : Bool) → (a || b) ≡ true → (a ≡ true) ⊎ (b ≡ true)
either true b h = inl refl
either false b h = inr h

pub either_left : {a : Bool} (b : Bool) → a ≡ true → (a || b) ≡ true
either_left b p = rw p

pub either-right : (a : Bool) {b : Bool} → b ≡ true → (a || b) ≡ true
either-right true p = refl
either-right false p = p

pub neither : (a b : Bool) → (a || b) ≡ false → (a ≡ false) × (b ≡ false)
neither true b e = (e, cc)
neither false b e = (refl, e)

pub or_left : (a b : Bool) → (a || b) ≡ false → a ≡ false
or_left a b e = (neither a b e).0

pub or_right : (a b : Bool) → (a || b) ≡ false → b ≡ false
or_right a b e = (neither a b e).1

-- two tests that imply each other are the same
pub same_test : (x y : Bool) → (x ≡ true → y ≡ true) → (y ≡ true → x ≡ true) → x ≡ y
same_test true true f g = refl
same_test true false f g = sym (f refl)
same_test false true f g = g refl
same_test false false f g = refl
