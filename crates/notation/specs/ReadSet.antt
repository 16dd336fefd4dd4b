-- What the call that reads a set promises.
use Rattle.std.specs.Prelude.{ℕ, ◌≤◌, ◌<◌, ◌≡◌, List, ◌++◌, length, drop}
use Rattle.text.specs.declared.refusals.Refusal.TheVariants.{ShortBuffer}
use Rattle.text.specs.Refusals.{number_of}
use Rattle.notation.specs.Layout.{set_size, set_part}
use Rattle.notation.specs.Judged.{Verdict, refuses, accepts, Judged, verdict_number}

-- an accepted set takes the first bytes of the buffer; a refusal changes nothing
abbrev pub read_into : Verdict → List ℕ → List ℕ
read_into (refuses r) before = before
read_into (accepts s) before = set_part s ++ drop set_size before

pub record ReadSet (text before : List ℕ) (answer : ℕ) (after : List ℕ) : Type 0 where
  -- a buffer of fewer bytes than a read set takes
  pub short : length before < set_size → (answer ≡ number_of ShortBuffer) × (after ≡ before)
  -- any other: by the text's verdict
  pub judged : set_size ≤ length before → (v : Verdict) → Judged text v → (answer ≡ verdict_number v) × (after ≡ read_into v before)
