-- A call's order of refusals (paper 01: Service codes): the refusal given is the first whose condition holds.
use Rattle.std.specs.Prelude.{ℕ, ◌≡◌, Bool, true, false, cond, ◌↔◌, ◌⊎◌}
use Rattle.std.proofs.Math.Option.{Option, none, some}
use mathlib.Core.List.{List, [], ◌∷◌, ◌++◌, Memᴰ}
use Rattle.text.specs.declared.refusals.Refusal.{Refusal}
use Rattle.text.specs.Refusals.{number_of}
use Rattle.text.specs.Answers.{Answer, refused, value}

-- a refusal with its condition, tested
pub data Condition : Type 0 where
  gives : Bool → Refusal → Condition

abbrev pub holds : Condition → Bool
holds (gives b r) = b

abbrev pub refusal_of : Condition → Refusal
refusal_of (gives b r) = r

-- no condition holds
abbrev pub Unmet : List Condition → Type 0
Unmet order = (c : Condition) → Memᴰ c order → holds c ≡ false

-- this refusal's condition holds, and none before it does
pub record FirstOf (order : List Condition) (r : Refusal) : Type 0 where
  pub before : List Condition
  pub later : List Condition
  pub joined : before ++ (gives true r ∷ later) ≡ order
  pub unmet : Unmet before

-- the same, computed
unfoldable pub first : List Condition → Option Refusal
first [] = none
first (gives b r ∷ later) = cond b (some r) (first later)

abbrev pub is_none : Option Refusal → Bool
is_none none = true
is_none (some r) = false

-- a refusal's number, 0 for none
abbrev pub number_in : Option Refusal → ℕ
number_in none = 0
number_in (some r) = number_of r

-- the number that an order gives: that of its first refusal whose condition holds, 0 for none
unfoldable pub given : List Condition → ℕ
given order = number_in (first order)

-- a number given by an order: a refusal's exactly if it is the first whose condition holds, 0 exactly if no condition holds, and no other
pub record GivenBy (order : List Condition) (number : ℕ) : Type 0 where
  pub refusals : (r : Refusal) → (number ≡ number_of r) ↔ FirstOf order r
  pub accepted : (number ≡ 0) ↔ Unmet order
  pub either : (number ≡ 0) ⊎ ((r : Refusal) × (number ≡ number_of r))

-- the same of an answer: a value exactly if no condition holds
pub record AnswersBy {A : Type 0} (order : List Condition) (says : Answer A) : Type 0 where
  pub refusals : (r : Refusal) → (says ≡ refused (number_of r)) ↔ FirstOf order r
  pub answered : ((v : A) × (says ≡ value v)) ↔ Unmet order
  pub either : ((v : A) × (says ≡ value v)) ⊎ ((r : Refusal) × (says ≡ refused (number_of r)))
