-- The bits of a byte under the byte-wise operations; a byte is packed from its bits.
use Prim.Native.Nat.{ℕ, zero, suc, ◌+◌, ◌*◌, ◌/◌, ◌%◌, ◌^◌, ◌<◌, min, max}
use mathlib.Core.Path.{◌≡◌, refl}
use mathlib.Core.Bool.{Bool, ◌&&◌, ◌||◌}
use native.Mathlib.Omega.{arith}
use lib.Bits.{bit_and, bit_or, and_step, or_step, and_shr, or_shr}
use lib.Dec.{eqb}
use Rattle.stored.specs.Bits.{bit_of, bit_before}
use Rattle.stored.specs.Automaton.{bit, packed}

-- numbers below 2 as truth values
min-is : (u v : ℕ) → u < 2 → v < 2 → eqb (min u v) 1 ≡ (eqb u 1 && eqb v 1)
min-is zero zero h k = refl
min-is zero (suc v) h k = let e : min 0 (suc v) ≡ 0 = omega arith in rw e
min-is (suc zero) zero h k = refl
min-is (suc zero) (suc zero) h k = refl
min-is (suc zero) (suc (suc v)) h k = absurd (omega arith)
min-is (suc (suc u)) v h k = absurd (omega arith)

max-is : (u v : ℕ) → u < 2 → v < 2 → eqb (max u v) 1 ≡ (eqb u 1 || eqb v 1)
max-is zero zero h k = refl
max-is zero (suc zero) h k = refl
max-is zero (suc (suc v)) h k = absurd (omega arith)
max-is (suc zero) zero h k = refl
max-is (suc zero) (suc zero) h k = refl
max-is (suc zero) (suc (suc v)) h k = absurd (omega arith)
max-is (suc (suc u)) v h k = absurd (omega arith)

bit_is : (u : ℕ) → u < 2 → bit (eqb u 1) ≡ u
bit_is zero h = refl
bit_is (suc zero) h = refl
bit_is (suc (suc u)) h = absurd (omega arith)

low_and : (a b : ℕ) → bit_and a b % 2 ≡ min (a % 2) (b % 2)
low_and a b = omega (arith, and_step a b)

low_or : (a b : ℕ) → bit_or a b % 2 ≡ max (a % 2) (b % 2)
low_or a b = omega (arith, or_step a b)

pub and-bit : (a b k : ℕ) → bit_of (bit_and a b) k ≡ (bit_of a k && bit_of b k)
unfolding bit_of
and-bit a b k = rw (and_shr a b k, low_and (a / 2 ^ k) (b / 2 ^ k)) (min-is (a / 2 ^ k % 2) (b / 2 ^ k % 2) (omega arith) (omega arith))

pub or-bit : (a b k : ℕ) → bit_of (bit_or a b) k ≡ (bit_of a k || bit_of b k)
unfolding bit_of
or-bit a b k = rw (or_shr a b k, low_or (a / 2 ^ k) (b / 2 ^ k)) (max-is (a / 2 ^ k % 2) (b / 2 ^ k % 2) (omega arith) (omega arith))

bit-of : (n k : ℕ) → bit (bit_of n k) ≡ n / 2 ^ k % 2
unfolding bit_of
bit-of n k = bit_is (n / 2 ^ k % 2) (omega arith)

-- a number by its eight digits
eight : (q₀ q₁ q₂ q₃ q₄ q₅ q₆ q₇ r₀ r₁ r₂ r₃ r₄ r₅ r₆ r₇ : ℕ) → q₀ ≡ 2 * q₁ + r₀ → q₁ ≡ 2 * q₂ + r₁ → q₂ ≡ 2 * q₃ + r₂ → q₃ ≡ 2 * q₄ + r₃
    → q₄ ≡ 2 * q₅ + r₄ → q₅ ≡ 2 * q₆ + r₅ → q₆ ≡ 2 * q₇ + r₆ → q₇ ≡ r₇
    → r₀ + 2 * r₁ + 4 * r₂ + 8 * r₃ + 16 * r₄ + 32 * r₅ + 64 * r₆ + 128 * r₇ ≡ q₀
eight q₀ q₁ q₂ q₃ q₄ q₅ q₆ q₇ r₀ r₁ r₂ r₃ r₄ r₅ r₆ r₇ e₀ e₁ e₂ e₃ e₄ e₅ e₆ e₇ = omega arith

-- a byte is packed from its bits
pub packed-from : (n : ℕ) (f : ℕ → Bool) → n < 256 → ((k : ℕ) → k < 8 → bit_of n k ≡ f k) → packed f ≡ n
unfolding packed
packed-from n f h e =
    rw (← e 0 (omega arith), ← e 1 (omega arith), ← e 2 (omega arith), ← e 3 (omega arith), ← e 4 (omega arith), ← e 5 (omega arith), ← e 6 (omega arith), ← e 7 (omega arith), bit-of n 0, bit-of n 1, bit-of n 2, bit-of n 3, bit-of n 4, bit-of n 5, bit-of n 6, bit-of n 7)
    (eight n (n / 2) (n / 4) (n / 8) (n / 16) (n / 32) (n / 64) (n / 128) (n / 1 % 2) (n / 2 % 2) (n / 4 % 2) (n / 8 % 2) (n / 16 % 2) (n / 32 % 2) (n / 64 % 2) (n / 128 % 2)
    (omega arith) (omega arith) (omega arith) (omega arith) (omega arith) (omega arith) (omega arith) (omega arith))

-- one place on
on-number : (b before k : ℕ) → b < 256 → before < 256 → k < 7 → (b * 2 % 256 + before / 128) / 2 ^ suc k % 2 ≡ b / 2 ^ k % 2
on-number b before zero h g l = omega arith
on-number b before (suc zero) h g l = omega arith
on-number b before (suc (suc zero)) h g l = omega arith
on-number b before (suc (suc (suc zero))) h g l = omega arith
on-number b before (suc (suc (suc (suc zero)))) h g l = omega arith
on-number b before (suc (suc (suc (suc (suc zero))))) h g l = omega arith
on-number b before (suc (suc (suc (suc (suc (suc zero)))))) h g l = omega arith
on-number b before (suc (suc (suc (suc (suc (suc (suc k))))))) h g l = absurd (omega arith)

on-first : (b before : ℕ) → b < 256 → before < 256 → (b * 2 % 256 + before / 128) / 2 ^ 0 % 2 ≡ before / 2 ^ 7 % 2
on-first b before h g = omega arith

pub one_on : (b before k : ℕ) → b < 256 → before < 256 → k < 8 → bit_of (b * 2 % 256 + before / 128) k ≡ bit_before b before k
unfolding bit_of
one_on b before zero h g l = rw (on-first b before h g)
one_on b before (suc k) h g l = rw (on-number b before k h g (omega arith))

-- a power of two has one bit
power-number : (k i : ℕ) → k < 8 → i < 8 → eqb (2 ^ k / 2 ^ i % 2) 1 ≡ eqb k i
power-number zero zero h g = refl
power-number zero (suc zero) h g = refl
power-number zero (suc (suc zero)) h g = refl
power-number zero (suc (suc (suc zero))) h g = refl
power-number zero (suc (suc (suc (suc zero)))) h g = refl
power-number zero (suc (suc (suc (suc (suc zero))))) h g = refl
power-number zero (suc (suc (suc (suc (suc (suc zero)))))) h g = refl
power-number zero (suc (suc (suc (suc (suc (suc (suc zero))))))) h g = refl
power-number zero (suc (suc (suc (suc (suc (suc (suc (suc i)))))))) h g = absurd (omega arith)
power-number (suc zero) zero h g = refl
power-number (suc zero) (suc zero) h g = refl
power-number (suc zero) (suc (suc zero)) h g = refl
power-number (suc zero) (suc (suc (suc zero))) h g = refl
power-number (suc zero) (suc (suc (suc (suc zero)))) h g = refl
power-number (suc zero) (suc (suc (suc (suc (suc zero))))) h g = refl
power-number (suc zero) (suc (suc (suc (suc (suc (suc zero)))))) h g = refl
power-number (suc zero) (suc (suc (suc (suc (suc (suc (suc zero))))))) h g = refl
power-number (suc zero) (suc (suc (suc (suc (suc (suc (suc (suc i)))))))) h g = absurd (omega arith)
power-number (suc (suc zero)) zero h g = refl
power-number (suc (suc zero)) (suc zero) h g = refl
power-number (suc (suc zero)) (suc (suc zero)) h g = refl
power-number (suc (suc zero)) (suc (suc (suc zero))) h g = refl
power-number (suc (suc zero)) (suc (suc (suc (suc zero)))) h g = refl
power-number (suc (suc zero)) (suc (suc (suc (suc (suc zero))))) h g = refl
power-number (suc (suc zero)) (suc (suc (suc (suc (suc (suc zero)))))) h g = refl
power-number (suc (suc zero)) (suc (suc (suc (suc (suc (suc (suc zero))))))) h g = refl
power-number (suc (suc zero)) (suc (suc (suc (suc (suc (suc (suc (suc i)))))))) h g = absurd (omega arith)
power-number (suc (suc (suc zero))) zero h g = refl
power-number (suc (suc (suc zero))) (suc zero) h g = refl
power-number (suc (suc (suc zero))) (suc (suc zero)) h g = refl
power-number (suc (suc (suc zero))) (suc (suc (suc zero))) h g = refl
power-number (suc (suc (suc zero))) (suc (suc (suc (suc zero)))) h g = refl
power-number (suc (suc (suc zero))) (suc (suc (suc (suc (suc zero))))) h g = refl
power-number (suc (suc (suc zero))) (suc (suc (suc (suc (suc (suc zero)))))) h g = refl
power-number (suc (suc (suc zero))) (suc (suc (suc (suc (suc (suc (suc zero))))))) h g = refl
power-number (suc (suc (suc zero))) (suc (suc (suc (suc (suc (suc (suc (suc i)))))))) h g = absurd (omega arith)
power-number (suc (suc (suc (suc zero)))) zero h g = refl
power-number (suc (suc (suc (suc zero)))) (suc zero) h g = refl
power-number (suc (suc (suc (suc zero)))) (suc (suc zero)) h g = refl
power-number (suc (suc (suc (suc zero)))) (suc (suc (suc zero))) h g = refl
power-number (suc (suc (suc (suc zero)))) (suc (suc (suc (suc zero)))) h g = refl
power-number (suc (suc (suc (suc zero)))) (suc (suc (suc (suc (suc zero))))) h g = refl
power-number (suc (suc (suc (suc zero)))) (suc (suc (suc (suc (suc (suc zero)))))) h g = refl
power-number (suc (suc (suc (suc zero)))) (suc (suc (suc (suc (suc (suc (suc zero))))))) h g = refl
power-number (suc (suc (suc (suc zero)))) (suc (suc (suc (suc (suc (suc (suc (suc i)))))))) h g = absurd (omega arith)
power-number (suc (suc (suc (suc (suc zero))))) zero h g = refl
power-number (suc (suc (suc (suc (suc zero))))) (suc zero) h g = refl
power-number (suc (suc (suc (suc (suc zero))))) (suc (suc zero)) h g = refl
power-number (suc (suc (suc (suc (suc zero))))) (suc (suc (suc zero))) h g = refl
power-number (suc (suc (suc (suc (suc zero))))) (suc (suc (suc (suc zero)))) h g = refl
power-number (suc (suc (suc (suc (suc zero))))) (suc (suc (suc (suc (suc zero))))) h g = refl
power-number (suc (suc (suc (suc (suc zero))))) (suc (suc (suc (suc (suc (suc zero)))))) h g = refl
power-number (suc (suc (suc (suc (suc zero))))) (suc (suc (suc (suc (suc (suc (suc zero))))))) h g = refl
power-number (suc (suc (suc (suc (suc zero))))) (suc (suc (suc (suc (suc (suc (suc (suc i)))))))) h g = absurd (omega arith)
power-number (suc (suc (suc (suc (suc (suc zero)))))) zero h g = refl
power-number (suc (suc (suc (suc (suc (suc zero)))))) (suc zero) h g = refl
power-number (suc (suc (suc (suc (suc (suc zero)))))) (suc (suc zero)) h g = refl
power-number (suc (suc (suc (suc (suc (suc zero)))))) (suc (suc (suc zero))) h g = refl
power-number (suc (suc (suc (suc (suc (suc zero)))))) (suc (suc (suc (suc zero)))) h g = refl
power-number (suc (suc (suc (suc (suc (suc zero)))))) (suc (suc (suc (suc (suc zero))))) h g = refl
power-number (suc (suc (suc (suc (suc (suc zero)))))) (suc (suc (suc (suc (suc (suc zero)))))) h g = refl
power-number (suc (suc (suc (suc (suc (suc zero)))))) (suc (suc (suc (suc (suc (suc (suc zero))))))) h g = refl
power-number (suc (suc (suc (suc (suc (suc zero)))))) (suc (suc (suc (suc (suc (suc (suc (suc i)))))))) h g = absurd (omega arith)
power-number (suc (suc (suc (suc (suc (suc (suc zero))))))) zero h g = refl
power-number (suc (suc (suc (suc (suc (suc (suc zero))))))) (suc zero) h g = refl
power-number (suc (suc (suc (suc (suc (suc (suc zero))))))) (suc (suc zero)) h g = refl
power-number (suc (suc (suc (suc (suc (suc (suc zero))))))) (suc (suc (suc zero))) h g = refl
power-number (suc (suc (suc (suc (suc (suc (suc zero))))))) (suc (suc (suc (suc zero)))) h g = refl
power-number (suc (suc (suc (suc (suc (suc (suc zero))))))) (suc (suc (suc (suc (suc zero))))) h g = refl
power-number (suc (suc (suc (suc (suc (suc (suc zero))))))) (suc (suc (suc (suc (suc (suc zero)))))) h g = refl
power-number (suc (suc (suc (suc (suc (suc (suc zero))))))) (suc (suc (suc (suc (suc (suc (suc zero))))))) h g = refl
power-number (suc (suc (suc (suc (suc (suc (suc zero))))))) (suc (suc (suc (suc (suc (suc (suc (suc i)))))))) h g = absurd (omega arith)
power-number (suc (suc (suc (suc (suc (suc (suc (suc k)))))))) i h g = absurd (omega arith)

pub power-bit : (k i : ℕ) → k < 8 → i < 8 → bit_of (2 ^ k) i ≡ eqb k i
unfolding bit_of
power-bit k i h g = power-number k i h g

pub power_small : (k : ℕ) → k < 8 → 2 ^ k < 256
power_small zero h = omega arith
power_small (suc zero) h = omega arith
power_small (suc (suc zero)) h = omega arith
power_small (suc (suc (suc zero))) h = omega arith
power_small (suc (suc (suc (suc zero)))) h = omega arith
power_small (suc (suc (suc (suc (suc zero))))) h = omega arith
power_small (suc (suc (suc (suc (suc (suc zero)))))) h = omega arith
power_small (suc (suc (suc (suc (suc (suc (suc zero))))))) h = omega arith
power_small (suc (suc (suc (suc (suc (suc (suc (suc k)))))))) h = absurd (omega arith)
