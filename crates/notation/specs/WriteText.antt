-- What writing a stored set back promises.
use Rattle.std.specs.Prelude.{ℕ, List, [], ◌∷◌, Result, ltb, length}
use Rattle.text.specs.declared.refusals.Refusal.TheVariants.{ShortBuffer}
use Rattle.text.specs.Order.{Condition, gives}
use Rattle.text.specs.Written.{TextWritten}
use Rattle.text.specs.declared.refusals.Refusal.{Refusal}
use Rattle.notation.specs.Reads.{text_of}

-- 1 where the buffer is shorter than the text of the stored set
abbrev pub text_conditions : List ℕ → List ℕ → List Condition
text_conditions part before = gives (ltb (length before) (length (text_of part))) ShortBuffer ∷ []

-- any part and any buffer, by what is stored
abbrev pub WriteText : List ℕ → List ℕ → Result ℕ Refusal → List ℕ → Type 0
WriteText part before answer after = TextWritten (text_conditions part before) (text_of part) before answer after
