-- Calls whose refusal is given by an order of conditions: what they answer, and that a refusal changes nothing.
use Rattle.std.specs.Prelude.{Result}
use Rattle.text.specs.declared.refusals.Refusal.{Refusal}
use Prim.Native.Nat.{ℕ}
use mathlib.Core.Path.{◌≡◌, ap, ◌∙◌}
use mathlib.Core.Bool.{cond}
use mathlib.Core.List.{List}
use lib.Dec.{eqb}
use lib.ListN.{length}
use borrow.Author.Tests.{ne_eqb}
use Rattle.text.specs.Answers.{Answer, said, number_said, says}
use Rattle.text.specs.Written.{TextWritten}
use Rattle.text.proofs.Laws.Output.{into-kept}
use Rattle.text.proofs.Laws.Said.{said-number}
use Rattle.text.specs.Order.{Condition, given, GivenBy}
use Rattle.text.proofs.Laws.Order.{given_by, answers_by}
use Rattle.filing.specs.Demand1.{WrittenBy}

pub given_is : (order : List Condition) (number : ℕ) → number ≡ given order → GivenBy order number
given_is order number e = rw e (given_by order)

-- what is changed only where nothing is given
pub kept : {A : Type 0} (n : ℕ) (x y : A) → (n ≡ 0 → ⊥) → cond (eqb n 0) x y ≡ y
kept n x y h = rw (ne_eqb n 0 h)

pub some-given : (n number : ℕ) → number ≡ n → (number ≡ 0 → ⊥) → n ≡ 0 → ⊥
some-given n number e h z = h (e ∙ z)

-- what is said is 0 only where that is given
pub some-said : {A : Type 0} (n : ℕ) (v : A) (says : Answer A) → says ≡ said n v → (number_said says ≡ 0 → ⊥) → n ≡ 0 → ⊥
some-said n v says e h z = h (ap number_said e ∙ said-number n v ∙ z)

-- a text that is written
pub written-by : (order : List Condition) (text before : List ℕ) (answer : Result ℕ Refusal) (after : List ℕ) → TextWritten order text before answer after → WrittenBy order before answer after
written-by order text before answer after w = (
  answers_by order (length text) (says answer) w.answers,
  λ n. w.leaves ∙ into-kept (given order) text before (some-said (given order) (length text) (says answer) w.answers n),
)
