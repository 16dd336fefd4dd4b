-- The steps that the labels of a name mark, as the automaton has them, of any bytes.
use Rattle.std.specs.Prelude.{ℕ, zero, suc, ◌/◌, ◌%◌, Bool, false, ◌&&◌, ◌||◌, List, eqb}
use Rattle.text.specs.Names.{Name}
use Rattle.notation.specs.Limits.{max_labels}
use Rattle.stored.specs.Bits.{bit_of}
use Rattle.stored.specs.Tables.{far_at, bits_at, first_of}

-- label l has the bit of step i: eight bits of one byte of a mask, and the byte's number behind them
abbrev pub has_bit : List ℕ → ℕ → ℕ → Bool
has_bit a l i = eqb (bits_at a l / 256) (i / 8) && bit_of (bits_at a l % 256) (i % 8)

-- of the labels from a place on; a place is 1 more than its label, and `more` bounds how many are looked at
unfoldable pub marked_from : ℕ → List ℕ → ℕ → ℕ → Bool
marked_from zero a k i = false
marked_from (suc more) a zero i = false
marked_from (suc more) a (suc l) i = has_bit a l i || marked_from more a (far_at a l) i

abbrev pub marked : List ℕ → Name → ℕ → Bool
marked a e i = marked_from max_labels a (first_of a e) i
