-- How a program in C or Rust is told an answer: the refusal's number, 0 for none, is returned, and a value is put behind a pointer.
use Rattle.std.specs.Prelude.{ℕ, ◌≡◌, Bool, cond, List, Result, get_or}
use Rattle.text.specs.declared.refusals.Refusal.{Refusal}
use Rattle.text.specs.Answers.{Answer, refused, value, number_said, says}
use Rattle.stored.specs.declared.counters.Counters.{Counters}

-- three numbers in a row
abbrev pub counters_in : List ℕ → Counters
counters_in c = record { opens = get_or c 0 0; closes = get_or c 1 0; moves = get_or c 2 0 }

-- what stands behind the pointer: a refusal leaves it
abbrev pub value_left : {A : Type 0} → Answer A → A → A
value_left (refused n) before = before
value_left (value v) before = v

pub record Told {A : Type 0} (says : Answer A) (before : A) (answer : ℕ) (after : A) : Type 0 where
  pub number : answer ≡ number_said says
  pub leaves : after ≡ value_left says before

-- 1 for yes, 0 for no
abbrev pub as_number : Answer Bool → Answer ℕ
as_number (refused n) = refused n
as_number (value b) = value (cond b 1 0)

abbrev pub MatchTold : Answer Bool → ℕ → ℕ → ℕ → Type 0
MatchTold says before answer after = Told (as_number says) before answer after

-- of a call that writes a text, by its own contract
pub record LengthTold (Writes : Result ℕ Refusal → Type 0) (before answer after : ℕ) : Type 0 where
  pub written : Result ℕ Refusal
  pub writes : Writes written
  pub told : Told (says written) before answer after
