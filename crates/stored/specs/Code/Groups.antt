-- The pass over an automaton's bytes that takes the labels of one name together whose steps stand in one byte, from the last label to the first.
-- It follows the code; a law says that what it leaves is the groups of the automaton's definition.
use Rattle.std.specs.Prelude.{ℕ, zero, suc, ◌+◌, ◌*◌, ◌/◌, ◌%◌, Bool, false, cond, List, eqb}
use Rattle.std.proofs.lemmas.List.Edits.{sets}
use Rattle.text.specs.Bytes.{le16}
use Rattle.notation.specs.Reads.{label_step}
use Rattle.stored.specs.Automaton.{far_in, bits_in, link_entry_at}
use Rattle.stored.specs.Bits.{with_bit}
use Rattle.stored.specs.Tables.{next_at, far_at, bits_at}

-- the label of a place has its step in byte b
abbrev pub joins : List ℕ → ℕ → ℕ → Bool
joins a b zero = false
joins a b (suc m) = eqb (label_step a m / 8) b

-- what a label takes over from the next one of its name, by its place: if they join, the group goes on
abbrev pub far_over : Bool → List ℕ → ℕ → ℕ
far_over on a zero = 0
far_over on a (suc m) = cond on (far_at a m) (suc m)

abbrev pub bits_over : Bool → List ℕ → ℕ → ℕ
bits_over on a zero = 0
bits_over on a (suc m) = cond on (bits_at a m % 256) 0

abbrev pub group_stored : ℕ → ℕ → ℕ → List ℕ → List ℕ
group_stored l far bits a = sets (sets a (link_entry_at l + far_in) (le16 far)) (link_entry_at l + bits_in) (le16 bits)

unfoldable pub grouped : ℕ → List ℕ → List ℕ
grouped l a =
    let byte = label_step a l / 8 in
    let on = joins a byte (next_at a l) in
    group_stored l (far_over on a (next_at a l)) (with_bit (bits_over on a (next_at a l)) (label_step a l % 8) + 256 * byte) a

-- the labels below l, the last first
unfoldable pub grouped_below : ℕ → List ℕ → List ℕ
grouped_below zero a = a
grouped_below (suc l) a = grouped_below l (grouped l a)
