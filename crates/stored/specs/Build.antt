-- What the calls that build an automaton and write its set back promise.
use Rattle.std.specs.Prelude.{ℕ, ◌≤◌, ◌<◌, ◌≡◌, not, ◌||◌, List, [], ◌∷◌, ◌++◌, Result, ltb, length, drop}
use Rattle.notation.specs.Limits.{max_set_bytes}
use Rattle.notation.specs.Judged.{Verdict, refuses, accepts, Judged, verdict_number}
use Rattle.notation.specs.Reads.{text_of}
use Rattle.text.specs.declared.refusals.Refusal.TheVariants.{ShortBuffer, BadShape}
use Rattle.text.specs.Refusals.{number_of}
use Rattle.text.specs.Written.{TextWritten}
use Rattle.text.specs.Order.{Condition, gives}
use Rattle.stored.specs.Automaton.{automaton_of, automaton_size}
use Rattle.stored.specs.Shape.{automaton_shaped}
use Rattle.text.specs.declared.refusals.Refusal.{Refusal}

-- an accepted text fills the buffer with the automaton of its set; a refusal changes nothing
abbrev pub built_into : Verdict → List ℕ → List ℕ
built_into (refuses r) before = before
built_into (accepts s) before = automaton_of s ++ drop automaton_size before

pub record Built (text before : List ℕ) (answer : ℕ) (after : List ℕ) : Type 0 where
  -- a buffer of fewer bytes than an automaton has
  pub short : length before < automaton_size → (answer ≡ number_of ShortBuffer) × (after ≡ before)
  -- any other: by the text's verdict, of which there is exactly one
  pub judged : automaton_size ≤ length before → (v : Verdict) → Judged text v → (answer ≡ verdict_number v) × (after ≡ built_into v before)

abbrev pub write_conditions : List ℕ → List ℕ → List Condition
write_conditions a out =
    gives (ltb (length a) automaton_size || ltb (length out) max_set_bytes) ShortBuffer ∷ gives (not (automaton_shaped a)) BadShape ∷ []

-- the stored set's text is written
abbrev pub SetWritten : List ℕ → List ℕ → Result ℕ Refusal → List ℕ → Type 0
SetWritten a before answer after = TextWritten (write_conditions a before) (text_of a) before answer after
