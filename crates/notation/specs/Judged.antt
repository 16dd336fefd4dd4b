-- How a set's text is judged. Every text has exactly one verdict.
use Rattle.std.specs.Prelude.{ℕ, ◌≡◌, true, false, List, [], ◌∷◌}
use Rattle.text.specs.declared.refusals.Refusal.{Refusal}
use Rattle.text.specs.declared.refusals.Refusal.TheVariants.{TooLarge, MalformedSet, OverCapacity}
use Rattle.text.specs.Refusals.{number_of}
use Rattle.notation.specs.Sets.{FolderSet}
use Rattle.notation.specs.Form.{OfForm, over_bytes, over_limits, faults}
use Rattle.notation.specs.Accepted.{Accepted}

-- the text is refused with r, in build's order: over its bytes (2); no set prints to it (3); the first fault of its set (4, 5 or 6);
-- over full (7). Each only where none of those before it holds
pub data RefusedText (text : List ℕ) (r : Refusal) : Type 0 where
  over_long : r ≡ TooLarge → over_bytes text ≡ true → RefusedText text r
  not_of_form : r ≡ MalformedSet → over_bytes text ≡ false → (OfForm text → ⊥) → RefusedText text r
  faulty : over_bytes text ≡ false → (o : OfForm text) → (later : List Refusal) → faults o.set ≡ r ∷ later → RefusedText text r
  overfull : r ≡ OverCapacity → over_bytes text ≡ false → (o : OfForm text) → faults o.set ≡ [] → over_limits o.set ≡ true → RefusedText text r

pub data Verdict : Type 0 where
  refuses : Refusal → Verdict
  accepts : FolderSet → Verdict

abbrev pub Judged : List ℕ → Verdict → Type 0
Judged text (refuses r) = RefusedText text r
Judged text (accepts s) = Accepted text s

-- what a call that judges a text answers
abbrev pub verdict_number : Verdict → ℕ
verdict_number (refuses r) = number_of r
verdict_number (accepts s) = 0
