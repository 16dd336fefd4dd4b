-- Bits of a row of bytes: those of one byte joined to it.
use Prim.Native.Nat.{ℕ, ◌/◌, ◌%◌, ◌<◌}
use mathlib.Core.Path.{◌≡◌, sym}
use mathlib.Core.Bool.{◌&&◌, ◌||◌, or-false}
use mathlib.Core.List.{List}
use lib.Bits.{bit_or}
use lib.Dec.{eqb}
use lib.ListN.{length, get_or, set}
use lib.Seq.{get_or-set_same, get_or-set_other}
use borrow.Author.Tests.{eqb-true, eqb-false}
use Rattle.stored.specs.Bits.{bit_of, bit_at}
use Rattle.text.proofs.Laws.Tests.{cases}
use Rattle.stored.proofs.Laws.Bytes.ByteBits.{or-bit}

pub bits-joined : (out : List ℕ) (j b : ℕ) → j < length out → (i : ℕ) → bit_at (set out j (bit_or (get_or out j 0) b)) i ≡ (bit_at out i || (eqb j (i / 8) && bit_of b (i % 8)))
bits-joined out j b h i =
    cases (eqb j (i / 8))
    (λ t. let s : j ≡ i / 8 = eqb-true j (i / 8) t in
    rw (t, ← s, get_or-set_same out j (bit_or (get_or out j 0) b) 0 h) (or-bit (get_or out j 0) b (i % 8)))
    (λ t. let d : j ≡ i / 8 → ⊥ = eqb-false j (i / 8) t in
    rw (t, get_or-set_other out j (i / 8) (bit_or (get_or out j 0) b) 0 (λ e. d (sym e))) (sym (or-false (bit_at out i))))
