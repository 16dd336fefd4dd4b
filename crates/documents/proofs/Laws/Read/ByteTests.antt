-- The byte tests, by the comparisons that the code makes.
use Prim.Native.Nat.{ℕ, ◌≤◌, ◌<◌}
use native.Mathlib.Omega.{arith}
use mathlib.Core.Path.{◌≡◌}
use mathlib.Core.Bool.{false, and-true, and-false}
use lib.Dec.{leb, eqb}
use borrow.Author.Tests.{eq-eqb, ne_eqb, le-leb}
use Rattle.documents.specs.Tokens.{blank, listed, in_text, in_value}

module _ (b : ℕ) where
  pub blank-high : 32 < b → blank b ≡ false
  unfolding blank
  blank-high h = rw (ne_eqb b 9 (λ e. omega arith), ne_eqb b 10 (λ e. omega arith), ne_eqb b 13 (λ e. omega arith), ne_eqb b 32 (λ e. omega arith))

  pub blank-last : (b ≡ 9 → ⊥) → (b ≡ 10 → ⊥) → (b ≡ 13 → ⊥) → blank b ≡ eqb b 32
  unfolding blank
  blank-last h k n = rw (ne_eqb b 9 h, ne_eqb b 10 k, ne_eqb b 13 n)

  pub listed-high : 32 ≤ b → listed b ≡ leb b 126
  unfolding listed
  listed-high h = rw (ne_eqb b 9 (λ e. omega arith), ne_eqb b 10 (λ e. omega arith), ne_eqb b 13 (λ e. omega arith), le-leb 32 b h)

  pub text-last : (b ≡ 60 → ⊥) → (b ≡ 38 → ⊥) → in_text b ≡ listed b
  unfolding in_text
  text-last h k = rw (ne_eqb b 60 h, ne_eqb b 38 k) (and-true (listed b))

  pub value-quote : (quote : ℕ) → b ≡ quote → in_value quote b ≡ false
  unfolding in_value
  value-quote quote e = rw (eq-eqb b quote e) (and-false (in_text b))

  pub value-last : (quote : ℕ) → (b ≡ quote → ⊥) → in_value quote b ≡ in_text b
  unfolding in_value
  value-last quote n = rw (ne_eqb b quote n) (and-true (in_text b))
