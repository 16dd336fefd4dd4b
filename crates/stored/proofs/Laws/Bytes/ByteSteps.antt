-- Steps 8 j to 8 j + 7 are byte j of a row.
use Prim.Native.Nat.{ℕ, suc, ◌+◌, ◌*◌, ◌/◌, ◌%◌, ◌<◌}
use mathlib.Core.Path.{◌≡◌}
use mathlib.Core.List.{List}
use native.Mathlib.Omega.{arith}
use lib.ListN.{get_or}
use Rattle.stored.specs.Bits.{bit_of, bit_in}
use Rattle.stored.specs.RunCalls.{shifted}

pub byte-bit : (bytes : List ℕ) (base j k : ℕ) → k < 8 → bit_of (get_or bytes (base + j) 0) k ≡ bit_in bytes base (8 * j + k)
byte-bit bytes base j k h =
    let q : (8 * j + k) / 8 ≡ j = omega arith in
    let r : (8 * j + k) % 8 ≡ k = omega arith in
    rw (q, r)

-- the last bit of the byte before
pub last-before : (bytes : List ℕ) (base j : ℕ) → bit_of (get_or bytes (base + j) 0) 7 ≡ shifted (bit_in bytes base) (8 * suc j)
last-before bytes base j =
    let e : 8 * suc j ≡ suc (8 * j + 7) = omega arith in
    rw e (byte-bit bytes base j 7 (omega arith))
