-- What a program in C is told is what the call below answers (Demand1): each refusal's number exactly on its condition, and a refusal leaves
-- what stands behind the pointer.
use Prim.Native.Nat.{ℕ}
use mathlib.Core.Path.{◌≡◌, refl, sym, ap, ◌∙◌}
use mathlib.Core.Bool.{Bool}
use mathlib.Core.Logic.{◌⊎◌, inl, inr}
use mathlib.Core.List.{List}
use Rattle.text.specs.declared.refusals.Refusal.{Refusal}
use Rattle.text.specs.Refusals.{number_of}
use Rattle.text.specs.Answers.{Answer, refused, value, number_said}
use Rattle.text.specs.Order.{Condition, Unmet, GivenBy, AnswersBy}
use Rattle.text.proofs.Laws.Numbers.{some_number}
use Rattle.exports.specs.Told.{Told, as_number, MatchTold}

module _ {A : Type 0} {order : List Condition} {says : Answer A} (x : AnswersBy order says) (n : ℕ) (e : n ≡ number_said says) where
  named : (r : Refusal) → n ≡ number_of r → says ≡ refused (number_of r)
  named r h = go says (sym e ∙ h)
    where
      go : (a : Answer A) → number_said a ≡ number_of r → a ≡ refused (number_of r)
      go (refused k) i = ap refused i
      go (value v) i = absurd (some_number r (sym i))

  -- a number that is given for an answer is given by the answer's order
  pub number-given : GivenBy order n
  number-given = record {
    refusals = λ r. (λ h. (x.refusals r).0 (named r h), λ f. e ∙ ap number_said ((x.refusals r).1 f));
    accepted = (λ z. none z x.either, λ u. e ∙ ap number_said (x.answered.1 u).1);
    either = both x.either;
  }
    where
      none : n ≡ 0 → ((v : A) × (says ≡ value v)) ⊎ ((r : Refusal) × (says ≡ refused (number_of r))) → Unmet order
      none z (inl y) = x.answered.0 y
      none z (inr (r, h)) = absurd (some_number r (sym (e ∙ ap number_said h) ∙ z))

      both : ((v : A) × (says ≡ value v)) ⊎ ((r : Refusal) × (says ≡ refused (number_of r))) → (n ≡ 0) ⊎ ((r : Refusal) × (n ≡ number_of r))
      both (inl (v, h)) = inl (e ∙ ap number_said h)
      both (inr (r, h)) = inr (r, e ∙ ap number_said h)

left : {before answer after : ℕ} (says : Answer ℕ) → Told says before answer after → (answer ≡ 0 → ⊥) → after ≡ before
left (refused k) t some = t.leaves
left (value v) t some = absurd (some t.number)

same_number : (says : Answer Bool) → number_said (as_number says) ≡ number_said says
same_number (refused k) = refl
same_number (value b) = refl

module _ {order : List Condition} {before answer after : ℕ} where
  pub told-by : (says : Answer ℕ) → AnswersBy order says → Told says before answer after → GivenBy order answer × ((answer ≡ 0 → ⊥) → after ≡ before)
  told-by says x t = (number-given x answer t.number, left says t)

  pub match_by : (says : Answer Bool) → AnswersBy order says → MatchTold says before answer after → GivenBy order answer × ((answer ≡ 0 → ⊥) → after ≡ before)
  match_by says x t = (number-given x answer (t.number ∙ same_number says), left (as_number says) t)
