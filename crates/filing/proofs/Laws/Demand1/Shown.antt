-- The calls of programs, whatever they show of a filed report: what they answer, and that a refusal changes nothing.
use Rattle.std.specs.Prelude.{Result}
use Prim.Native.Nat.{ℕ}
use mathlib.Core.Path.{◌≡◌, ap, ◌∙◌}
use mathlib.Core.Bool.{Bool, false, cond}
use mathlib.Core.List.{List, [], ◌∷◌}
use lib.ListN.{length}
use Rattle.text.specs.declared.refusals.Refusal.{Refusal}
use Rattle.text.specs.declared.refusals.Refusal.TheVariants.{ShortBuffer}
use Rattle.text.specs.Refusals.{number_of}
use Rattle.text.specs.Answers.{value, number_said, says}
use Rattle.text.specs.Order.{gives, given}
use Rattle.text.proofs.Laws.Order.{given-none, given-cons, answers_by}
use Rattle.text.proofs.Laws.Tests.{cases}
use Rattle.notation.specs.Sets.{FolderSet}
use Rattle.filing.specs.Shown.{too_small, PrintsBy, RefusesShort}
use Rattle.filing.proofs.Laws.Listing.Shown.{Total}
use Rattle.filing.proofs.Laws.Listing.Showing.{some-printed}

-- one condition alone
alone : (b : Bool) (r : Refusal) → given (gives b r ∷ []) ≡ cond b (number_of r) 0
alone b r = given-cons b r [] ∙ rw given-none

module _ (size : ℕ) (For : FolderSet → List ℕ → List ℕ → Type 0) (total : Total For) (text report a run out : List ℕ) (answer : Result ℕ Refusal) (a' run' out' : List ℕ)
    (p : PrintsBy size For text report a run out answer a' run' out') where
  printed-says : too_small size a run out ≡ false → (n : ℕ) × (says answer ≡ value n)
  printed-says h = let (bytes, t) = some-printed size For text report a run out answer a' run' out' p h total in (length bytes, t.answers)

  pub printed-by : RefusesShort size a run out answer a' run' out'
  printed-by =
      let small = too_small size a run out in
      let order = gives small ShortBuffer ∷ [] in
      cases small
      (λ y. (answers_by order 0 (says answer) ((p.short y).0 ∙ rw (alone small ShortBuffer, y)), λ n. (p.short y).1))
      (λ f. let (k, e) = printed-says f in (answers_by order k (says answer) (e ∙ rw (alone small ShortBuffer, f)), λ n. absurd (n (ap number_said e))))
