-- Bits of bytes.
use Rattle.std.specs.Prelude.{ℕ, zero, suc, ◌+◌, ◌/◌, ◌%◌, ◌^◌, Bool, List, eqb, get_or}
use Rattle.std.specs.Int.Bits.{bit_or}

-- bit k of a byte, the lowest first
unfoldable pub bit_of : ℕ → ℕ → Bool
bit_of n k = eqb (n / 2 ^ k % 2) 1

-- a byte with bit k set
unfoldable pub with_bit : ℕ → ℕ → ℕ
with_bit b k = bit_or b (2 ^ k)

-- bit i of the bytes from `base` on, eight to a byte
abbrev pub bit_in : List ℕ → ℕ → ℕ → Bool
bit_in bytes base i = bit_of (get_or bytes (base + i / 8) 0) (i % 8)

-- the bit before bit k; before the first of a byte stands the last of the byte before
abbrev pub bit_before : ℕ → ℕ → ℕ → Bool
bit_before byte before zero = bit_of before 7
bit_before byte before (suc k) = bit_of byte k

-- bit i of the bytes
abbrev pub bit_at : List ℕ → ℕ → Bool
bit_at bytes i = bit_of (get_or bytes (i / 8) 0) (i % 8)
