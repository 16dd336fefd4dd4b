-- What the calls that write a text into a lent buffer promise: all of it from the first byte on, or a refusal.
use Rattle.std.specs.Prelude.{ℕ, zero, suc, ◌≡◌, List, Result, length}
use Rattle.std.proofs.lemmas.List.Edits.{sets}
use Rattle.text.specs.declared.refusals.Refusal.{Refusal}
use Rattle.text.specs.Answers.{said, says}
use Rattle.text.specs.Order.{Condition, given}

-- the text first, and bytes past it stay; a refusal changes nothing
abbrev pub written_into : ℕ → List ℕ → List ℕ → List ℕ
written_into zero text before = sets before 0 text
written_into (suc r) text before = before

-- a call with this order of refusals answers the first whose condition holds, or writes this text and answers its length
pub record TextWritten (order : List Condition) (text before : List ℕ) (answer : Result ℕ Refusal) (after : List ℕ) : Type 0 where
  pub answers : says answer ≡ said (given order) (length text)
  pub leaves : after ≡ written_into (given order) text before
