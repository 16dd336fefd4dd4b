-- The numbers of the refusals: those from 1 to 15, each that of one refusal.
use Prim.Native.Nat.{ℕ, zero, suc, ◌≤◌, ◌<◌}
use native.Mathlib.Omega.{arith}
use mathlib.Core.Path.{◌≡◌, refl, sym, ap, ◌∙◌}
use mathlib.Core.Logic.{◌↔◌}
use mathlib.Core.List.{List, [], ◌∷◌}
use lib.ListN.{get_or}
use lib.Dec.{eqb}
use borrow.Author.Tests.{eqb-true}
use mathlib.Core.Bool.{true}
use Rattle.std.proofs.lemmas.Bool.{agree_below_at}
use Rattle.text.specs.declared.refusals.Refusal.{Refusal}
use Rattle.text.specs.declared.refusals.Refusal.TheVariants.{ShortBuffer, TooLarge, MalformedSet, OutOfOrder, NameTooLong, PathTooLong, OverCapacity, InvalidByte, SyntaxError, NotOneRoot, TooDeep, MismatchedClose, NotFound, BadShape, RepeatedAttribute}
use Rattle.text.specs.Refusals.{number_of}

by_number : List Refusal
by_number =
    ShortBuffer ∷ ShortBuffer ∷ TooLarge ∷ MalformedSet ∷ OutOfOrder ∷ NameTooLong ∷ PathTooLong ∷ OverCapacity ∷ InvalidByte ∷ SyntaxError ∷ NotOneRoot ∷ TooDeep ∷ MismatchedClose ∷ NotFound ∷ BadShape ∷ RepeatedAttribute ∷ []

number-back : (r : Refusal) → get_or by_number (number_of r) ShortBuffer ≡ r
unfolding by_number
number-back ShortBuffer = refl
number-back TooLarge = refl
number-back MalformedSet = refl
number-back OutOfOrder = refl
number-back NameTooLong = refl
number-back PathTooLong = refl
number-back OverCapacity = refl
number-back InvalidByte = refl
number-back SyntaxError = refl
number-back NotOneRoot = refl
number-back TooDeep = refl
number-back MismatchedClose = refl
number-back NotFound = refl
number-back BadShape = refl
number-back RepeatedAttribute = refl

pub one-refusal : (q r : Refusal) → number_of q ≡ number_of r → q ≡ r
one-refusal q r e = sym (number-back q) ∙ ap (λ (n : ℕ). get_or by_number n ShortBuffer) e ∙ number-back r

pub number-within : (r : Refusal) → (1 ≤ number_of r) × (number_of r ≤ 15)
number-within ShortBuffer = (omega arith, omega arith)
number-within TooLarge = (omega arith, omega arith)
number-within MalformedSet = (omega arith, omega arith)
number-within OutOfOrder = (omega arith, omega arith)
number-within NameTooLong = (omega arith, omega arith)
number-within PathTooLong = (omega arith, omega arith)
number-within OverCapacity = (omega arith, omega arith)
number-within InvalidByte = (omega arith, omega arith)
number-within SyntaxError = (omega arith, omega arith)
number-within NotOneRoot = (omega arith, omega arith)
number-within TooDeep = (omega arith, omega arith)
number-within MismatchedClose = (omega arith, omega arith)
number-within NotFound = (omega arith, omega arith)
number-within BadShape = (omega arith, omega arith)
number-within RepeatedAttribute = (omega arith, omega arith)

number_at : (k : ℕ) → k < 15 → number_of (get_or by_number (suc k) ShortBuffer) ≡ suc k
unfolding by_number
number_at k h = eqb-true _ (suc k) (agree_below_at (λ n. eqb (number_of (get_or by_number (suc n) ShortBuffer)) (suc n)) (λ n. true) 15 k refl h)

refusal-of : (n : ℕ) → (1 ≤ n) × (n ≤ 15) → (r : Refusal) × (number_of r ≡ n)
refusal-of zero h = absurd (omega arith)
refusal-of (suc k) h = (get_or by_number (suc k) ShortBuffer, number_at k (omega arith))

pub fifteen-numbers : (n : ℕ) → ((r : Refusal) × (number_of r ≡ n)) ↔ ((1 ≤ n) × (n ≤ 15))
fifteen-numbers n = (λ p. rw p.1 at (number-within p.0), refusal-of n)

pub some_number : (r : Refusal) → number_of r ≡ 0 → ⊥
some_number r e = omega (arith, (number-within r).0)
