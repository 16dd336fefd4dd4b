-- The bits of a byte and of a row of bytes are those it was packed from.
use Prim.Native.Nat.{ℕ, zero, suc, ◌+◌, ◌*◌, ◌/◌, ◌%◌, ◌^◌, ◌≤◌, ◌<◌}
use mathlib.Core.Path.{◌≡◌, refl, ◌∙◌, ap}
use mathlib.Core.Bool.{Bool, true, false}
use native.Mathlib.Omega.{arith}
use lib.Dec.{eqb}
use lib.ListN.{get_or}
use Rattle.stored.specs.Bits.{bit_of}
use Rattle.stored.specs.Automaton.{bit, packed, byte_of, bit_bytes}
use Rattle.stored.proofs.Laws.Bytes.Tabulate.{tabulate-at}

pub bit-small : (b : Bool) → bit b ≤ 1
bit-small true = omega arith
bit-small false = omega arith

pub packed-small : (b : ℕ → Bool) → packed b < 256
unfolding packed
packed-small b = omega (arith, bit-small (b 0), bit-small (b 1), bit-small (b 2), bit-small (b 3), bit-small (b 4), bit-small (b 5), bit-small (b 6), bit-small (b 7))

-- the bit as a number
bit-number : (b : ℕ → Bool) (k : ℕ) → k < 8 → packed b / 2 ^ k % 2 ≡ bit (b k)
unfolding packed
bit-number b zero h = omega (arith, bit-small (b 0), bit-small (b 1), bit-small (b 2), bit-small (b 3), bit-small (b 4), bit-small (b 5), bit-small (b 6), bit-small (b 7))
bit-number b (suc zero) h = omega (arith, bit-small (b 0), bit-small (b 1), bit-small (b 2), bit-small (b 3), bit-small (b 4), bit-small (b 5), bit-small (b 6), bit-small (b 7))
bit-number b (suc (suc zero)) h = omega (arith, bit-small (b 0), bit-small (b 1), bit-small (b 2), bit-small (b 3), bit-small (b 4), bit-small (b 5), bit-small (b 6), bit-small (b 7))
bit-number b (suc (suc (suc zero))) h = omega (arith, bit-small (b 0), bit-small (b 1), bit-small (b 2), bit-small (b 3), bit-small (b 4), bit-small (b 5), bit-small (b 6), bit-small (b 7))
bit-number b (suc (suc (suc (suc zero)))) h = omega (arith, bit-small (b 0), bit-small (b 1), bit-small (b 2), bit-small (b 3), bit-small (b 4), bit-small (b 5), bit-small (b 6), bit-small (b 7))
bit-number b (suc (suc (suc (suc (suc zero))))) h = omega (arith, bit-small (b 0), bit-small (b 1), bit-small (b 2), bit-small (b 3), bit-small (b 4), bit-small (b 5), bit-small (b 6), bit-small (b 7))
bit-number b (suc (suc (suc (suc (suc (suc zero)))))) h = omega (arith, bit-small (b 0), bit-small (b 1), bit-small (b 2), bit-small (b 3), bit-small (b 4), bit-small (b 5), bit-small (b 6), bit-small (b 7))
bit-number b (suc (suc (suc (suc (suc (suc (suc zero))))))) h = omega (arith, bit-small (b 0), bit-small (b 1), bit-small (b 2), bit-small (b 3), bit-small (b 4), bit-small (b 5), bit-small (b 6), bit-small (b 7))
bit-number b (suc (suc (suc (suc (suc (suc (suc (suc k)))))))) h = absurd (omega arith)

bit_is : (b : Bool) → eqb (bit b) 1 ≡ b
bit_is true = refl
bit_is false = refl

pub packed-bit : (b : ℕ → Bool) (k : ℕ) → k < 8 → bit_of (packed b) k ≡ b k
unfolding bit_of
packed-bit b k h = rw (bit-number b k h) (bit_is (b k))

-- bit i % 8 of byte i / 8
pub bits-bit : (b : ℕ → Bool) (n i : ℕ) → i < 8 * n → bit_of (get_or (bit_bytes b n) (i / 8) 0) (i % 8) ≡ b i
bits-bit b n i h =
    let k : i / 8 < n = omega arith in
    let whole : 8 * (i / 8) + i % 8 ≡ i = omega arith in
    rw (tabulate-at (byte_of b) n (i / 8) k) (packed-bit (λ j. b (8 * (i / 8) + j)) (i % 8) (omega arith) ∙ ap b whole)
