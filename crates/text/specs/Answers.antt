-- What a call's answer says: refused with a number, or a value.
use Rattle.std.specs.Prelude.{ℕ, zero, suc, Result, Ok, Err}
use Rattle.text.specs.declared.refusals.Refusal.{Refusal}
use Rattle.text.specs.Refusals.{number_of}

pub data Answer (A : Type 0) : Type 0 where
  refused : ℕ → Answer A
  value : A → Answer A

-- what is said by a call that gives this number, 0 for none, and else has this value
abbrev pub said : {A : Type 0} → ℕ → A → Answer A
said zero v = value v
said (suc n) v = refused (suc n)

-- the number that is said, 0 for a value
abbrev pub number_said : {A : Type 0} → Answer A → ℕ
number_said (refused n) = n
number_said (value v) = 0

-- what a `Result` says
abbrev pub says : {A : Type 0} → Result A Refusal → Answer A
says (Ok v) = value v
says (Err r) = refused (number_of r)

-- the number that it refuses with, 0 for a value
abbrev pub refusal_in : {A : Type 0} → Result A Refusal → ℕ
refusal_in (Ok v) = 0
refusal_in (Err r) = number_of r
