-- The bits of an open, from those of the labels that the code marked first. Laws say that they are the bits that `RunCalls.open_run` has.
use Rattle.std.specs.Prelude.{ℕ, suc, ◌+◌, ◌≡◌, Bool, ◌&&◌, ◌||◌, List, ◌∷◌, ◌++◌, length, replicate}
use Rattle.std.proofs.lemmas.List.Edits.{sets}
use Rattle.text.specs.Names.{Name, max_name}
use Rattle.text.specs.Bytes.{le16, padded}
use Rattle.stored.specs.Automaton.{mask_size, star_mask, last_mask, bit_bytes}
use Rattle.stored.specs.Bits.{bit_at}
use Rattle.stored.specs.Run.{row_at, active_in, seen_in, matches_at}
use Rattle.stored.specs.RunCalls.{mask_bit, permitted, seen_at, matched_at}

-- step i is active, from the bits of the labels that take the name
abbrev pub taken_active : List ℕ → List ℕ → List ℕ → ℕ → ℕ → Bool
taken_active a run taken d i = (mask_bit a star_mask i || bit_at taken i) && permitted a run d i

abbrev pub taken_seen : List ℕ → List ℕ → List ℕ → ℕ → ℕ → Bool
taken_seen a run taken d i = seen_at run d i || taken_active a run taken d i

abbrev pub taken_matched : List ℕ → List ℕ → List ℕ → ℕ → ℕ → Bool
taken_matched a run taken d i = matched_at run i || (taken_active a run taken d i && mask_bit a last_mask i)

-- a block of bits, sixteen bytes
pub record Block (f : ℕ → Bool) (bytes : List ℕ) : Type 0 where
  pub is : bytes ≡ bit_bytes f 16

-- a new row before its bits
abbrev pub blank_row : Name → ℕ → List ℕ
blank_row e state = length e ∷ (padded max_name e ++ (le16 state ++ (replicate mask_size 0 ++ replicate mask_size 0)))

-- the first n bytes of active, seen and matched steps, stored; the row around the new element is that of depth d
abbrev pub stored_bits : List ℕ → ℕ → (ℕ → Bool) → (ℕ → Bool) → (ℕ → Bool) → ℕ → List ℕ
stored_bits run d active seen matched n =
    sets (sets (sets run (row_at (suc d) + active_in) (bit_bytes active n)) (row_at (suc d) + seen_in) (bit_bytes seen n))
    matches_at (bit_bytes matched n)
