-- A byte with a bit set: its bits are those of the byte and this one; a row of bits with one set.
use Prim.Native.Nat.{ℕ, ◌+◌, ◌*◌, ◌/◌, ◌%◌, ◌^◌, ◌<◌}
use mathlib.Core.Path.{◌≡◌, sym, ◌∙◌, ap}
use mathlib.Core.Bool.{Bool, ◌||◌, or_comm}
use native.Mathlib.Omega.{arith}
use borrow.Author.Tests.{eq-eqb, ne_eqb, eqb-true, eqb-false}
use lib.Bits.{or_lt}
use lib.Dec.{eqb}
use lib.ListN.{length, get_or, set, length-set}
use lib.Seq.{ext_get_or, get_or-set_same, get_or-set_other}
use Rattle.stored.specs.Bits.{bit_of, with_bit}
use Rattle.stored.specs.Automaton.{packed, byte_of, bit_bytes}
use Rattle.text.proofs.Laws.Tests.{cases, same_test}
use Rattle.stored.proofs.Laws.Bytes.Tabulate.{tabulate-length, tabulate-at}
use Rattle.stored.proofs.Laws.Bytes.Bits.{packed-bit, packed-small}
use Rattle.stored.proofs.Laws.Bytes.ByteBits.{or-bit, power-bit, power_small, packed-from}

-- its bits, and that it is a byte
pub with-bit : (b k i : ℕ) → k < 8 → i < 8 → bit_of (with_bit b k) i ≡ (bit_of b i || eqb k i)
unfolding with_bit
with-bit b k i h l = or-bit b (2 ^ k) i ∙ ap (λ (x : Bool). bit_of b i || x) (power-bit k i h l)

pub with-small : (b k : ℕ) → b < 256 → k < 8 → with_bit b k < 256
unfolding with_bit
with-small b k h l = or_lt 8 b (2 ^ k) h (power_small k l)

-- equal bits make equal bytes
pub packed-same : (b c : ℕ → Bool) → ((k : ℕ) → k < 8 → b k ≡ c k) → packed b ≡ packed c
unfolding packed
packed-same b c h =
    rw (h 0 (omega arith), h 1 (omega arith), h 2 (omega arith), h 3 (omega arith), h 4 (omega arith), h 5 (omega arith), h 6 (omega arith), h 7 (omega arith))

-- a function with the answer yes at k
abbrev pub adding : ℕ → (ℕ → Bool) → ℕ → Bool
adding k b j = eqb j k || b j

packed-with : (b : ℕ → Bool) (k : ℕ) → k < 8 → with_bit (packed b) k ≡ packed (adding k b)
packed-with b k h = sym (packed-from (with_bit (packed b) k) (adding k b) (with-small (packed b) k (packed-small b) h) same)
  where
    same_place : (i : ℕ) → eqb k i ≡ eqb i k
    same_place i = same_test (eqb k i) (eqb i k) (λ t. eq-eqb i k (sym (eqb-true k i t))) (λ t. eq-eqb k i (sym (eqb-true i k t)))

    same : (i : ℕ) → i < 8 → bit_of (with_bit (packed b) k) i ≡ adding k b i
    same i l = with-bit (packed b) k i h l ∙ rw (packed-bit b i l, same_place i) (or_comm (b i) (eqb i k))

-- one bit more in a row of bits
pub bits-with : (b : ℕ → Bool) (n i : ℕ) → i < 8 * n → set (bit_bytes b n) (i / 8) (with_bit (get_or (bit_bytes b n) (i / 8) 0) (i % 8)) ≡ bit_bytes (adding i b) n
bits-with b n i h = ext_get_or 0 (set (bit_bytes b n) (i / 8) (with_bit (get_or (bit_bytes b n) (i / 8) 0) (i % 8))) (bit_bytes (adding i b) n) sizes at
  where
    here : i / 8 < n
    here = omega arith

    size : length (set (bit_bytes b n) (i / 8) (with_bit (get_or (bit_bytes b n) (i / 8) 0) (i % 8))) ≡ n
    size = length-set (bit_bytes b n) (i / 8) (with_bit (get_or (bit_bytes b n) (i / 8) 0) (i % 8)) ∙ tabulate-length (byte_of b) n

    sizes : length (set (bit_bytes b n) (i / 8) (with_bit (get_or (bit_bytes b n) (i / 8) 0) (i % 8))) ≡ length (bit_bytes (adding i b) n)
    sizes = size ∙ sym (tabulate-length (byte_of (adding i b)) n)

    same_bit : (k : ℕ) → k < 8 → adding (i % 8) (λ j. b (8 * (i / 8) + j)) k ≡ adding i b (8 * (i / 8) + k)
    same_bit k l =
        ap (λ (t : Bool). t || b (8 * (i / 8) + k))
        (same_test (eqb k (i % 8)) (eqb (8 * (i / 8) + k) i)
        (λ t. eq-eqb (8 * (i / 8) + k) i (omega (arith, eqb-true k (i % 8) t)))
        (λ t. eq-eqb k (i % 8) (omega (arith, eqb-true (8 * (i / 8) + k) i t))))

    changed : get_or (set (bit_bytes b n) (i / 8) (with_bit (get_or (bit_bytes b n) (i / 8) 0) (i % 8))) (i / 8) 0 ≡ get_or (bit_bytes (adding i b) n) (i / 8) 0
    changed =
        get_or-set_same (bit_bytes b n) (i / 8) (with_bit (get_or (bit_bytes b n) (i / 8) 0) (i % 8)) 0 (omega (arith, here, tabulate-length (byte_of b) n))
        ∙ ap (λ (x : ℕ). with_bit x (i % 8)) (tabulate-at (byte_of b) n (i / 8) here)
        ∙ packed-with (λ j. b (8 * (i / 8) + j)) (i % 8) (omega arith)
        ∙ packed-same (adding (i % 8) (λ j. b (8 * (i / 8) + j))) (λ k. adding i b (8 * (i / 8) + k)) same_bit
        ∙ sym (tabulate-at (byte_of (adding i b)) n (i / 8) here)

    other-bit : (q : ℕ) → (q ≡ i / 8 → ⊥) → (k : ℕ) → k < 8 → b (8 * q + k) ≡ adding i b (8 * q + k)
    other-bit q ne k l = rw (ne_eqb (8 * q + k) i (λ e. ne (omega arith)))

    unchanged : (q : ℕ) → q < n → (q ≡ i / 8 → ⊥) → get_or (set (bit_bytes b n) (i / 8) (with_bit (get_or (bit_bytes b n) (i / 8) 0) (i % 8))) q 0 ≡ get_or (bit_bytes (adding i b) n) q 0
    unchanged q l ne =
        get_or-set_other (bit_bytes b n) (i / 8) q (with_bit (get_or (bit_bytes b n) (i / 8) 0) (i % 8)) 0 ne
        ∙ tabulate-at (byte_of b) n q l
        ∙ packed-same (λ k. b (8 * q + k)) (λ k. adding i b (8 * q + k)) (other-bit q ne)
        ∙ sym (tabulate-at (byte_of (adding i b)) n q l)

    at : (q : ℕ) → q < length (set (bit_bytes b n) (i / 8) (with_bit (get_or (bit_bytes b n) (i / 8) 0) (i % 8))) → get_or (set (bit_bytes b n) (i / 8) (with_bit (get_or (bit_bytes b n) (i / 8) 0) (i % 8))) q 0 ≡ get_or (bit_bytes (adding i b) n) q 0
    at q l = cases (eqb q (i / 8)) (λ e. rw (eqb-true q (i / 8) e) changed) (λ e. unchanged q (omega (arith, size)) (eqb-false q (i / 8) e))
