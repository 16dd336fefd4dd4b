-- What is said by a number and a value: the value exactly where the number is 0, else the number.
use Prim.Native.Nat.{ℕ, zero, suc}
use native.Mathlib.Omega.{arith}
use mathlib.Core.Path.{◌≡◌, refl}
use Rattle.text.specs.Answers.{refused, value, said, number_said}

pub said-value : {A : Type 0} (r : ℕ) (v : A) → r ≡ 0 → said r v ≡ value v
said-value r v z = rw z

pub said-refused : {A : Type 0} (r : ℕ) (v : A) → (r ≡ 0 → ⊥) → said r v ≡ refused r
said-refused zero v n = absurd (n refl)
said-refused (suc r) v n = refl

pub said-number : {A : Type 0} (r : ℕ) (v : A) → number_said (said r v) ≡ r
said-number zero v = refl
said-number (suc r) v = refl

-- and what it was said of
pub value-said : {A : Type 0} (r : ℕ) (u v : A) → value u ≡ said r v → (r ≡ 0) × (u ≡ v)
value-said zero u v e = (refl, cc)
value-said (suc r) u v e = absurd (let z : ◌≡◌ {A = ℕ} 0 1 = cc in omega arith)

pub refused-said : {A : Type 0} (r n : ℕ) (v : A) → refused n ≡ said r v → (n ≡ r) × (r ≡ 0 → ⊥)
refused-said zero n v e = absurd (let z : ◌≡◌ {A = ℕ} 0 1 = cc in omega arith)
refused-said (suc r) n v e = (cc, λ z. omega arith)
