-- A text that is put into a sink piece by piece: one that measures it, or the front of a lent buffer.
use Rattle.std.specs.Prelude.{ℕ, ◌+◌, ◌-◌, ◌^◌, ◌≡◌, min, cond, List, [], ◌++◌, leb, length, Result, Ok, Err}
use Rattle.std.proofs.lemmas.List.Edits.{sets}
use Rattle.text.specs.declared.output.Length.{Length}
use Rattle.text.specs.declared.output.Front.{Front}

module _ {S : Type 0} (puts : S → List ℕ → S) where
  -- these bytes, as pieces one after the other. Where the bytes are cut into pieces is the program's choice
  pub data Adds : S → List ℕ → S → Type 0 where
    no_pieces : {s : S} → Adds s [] s
    a_piece : {s t u : S} {piece bytes : List ℕ} → t ≡ puts s piece → Adds t bytes u → Adds s (piece ++ bytes) u

-- a measured length, which stays at the largest number
abbrev pub measured : Length → List ℕ → Length
measured s piece = record { bytes = min (s.bytes + length piece) (2 ^ 64 - 1) }

-- where a piece ends in a buffer of this size, if it has room; else where it would begin
abbrev pub put_at : ℕ → ℕ → List ℕ → Result ℕ ℕ
put_at size at piece = cond (leb (at + length piece) size) (Ok (at + length piece)) (Err at)

-- the whole of it is written, or the buffer is left as it was
abbrev pub written_to : Result ℕ ℕ → List ℕ → ℕ → List ℕ → List ℕ
written_to (Ok end) out at piece = sets out at piece
written_to (Err place) out at piece = out

-- after the last piece that had room
abbrev pub reached : Result ℕ ℕ → ℕ
reached (Ok at) = at
reached (Err at) = at

-- a piece into the front of a buffer: none once one had no room
abbrev pub fronted : Front → List ℕ → Front
fronted s piece = elim s.end [
  | Ok at ↦ let end = put_at (length s.out.now) at piece in record { out = record s.out { now = written_to end s.out.now at piece }; end = end }
  | Err place ↦ s
]
