-- What a `Result` says, and the number that it refuses with: a refusal's at `Err`, 0 at `Ok`.
use Prim.Native.Nat.{ℕ}
use mathlib.Core.Path.{◌≡◌, refl, sym, ◌∙◌, ap}
use Rattle.std.specs.Prelude.{Result, Ok, Err}
use Rattle.std.specs.Result.{IsErrAnd}
use Rattle.std.proofs.lemmas.Result.{err_from_is_err_and}
use Rattle.text.specs.declared.refusals.Refusal.{Refusal}
use Rattle.text.specs.Refusals.{number_of}
use Rattle.text.specs.Answers.{said, number_said, says, refusal_in}
use Rattle.text.proofs.Laws.Numbers.{some_number}
use Rattle.text.proofs.Laws.Said.{said-value, said-refused, said-number}

-- where a function returns its own refusal, or its value

pub err_says : {A : Type 0} (q : Refusal) (n : ℕ) (v : A) → number_of q ≡ n → says {A = A} (Err q) ≡ said n v
err_says q n v e = sym (rw (sym e) (said-refused (number_of q) v (some_number q)))

pub ok_says : {A : Type 0} (n : ℕ) (v : A) → 0 ≡ n → says (Ok v) ≡ said n v
ok_says n v e = sym (said-value n v (sym e))

-- where a `?` hands on the refusal of a call: `c.from_residual.ensures.1` is its premise on what is returned

pub handed_on : {B : Type 0} (r : Result B Refusal) (q : Refusal) → IsErrAnd r (λ x. x ≡ q) → r ≡ Err q
handed_on r q h = let p = err_from_is_err_and r h in p.1 ∙ ap Err p.2

pub handed_number : {B : Type 0} (r : Result B Refusal) (q : Refusal) (n : ℕ) → IsErrAnd r (λ x. x ≡ q) → number_of q ≡ n → refusal_in r ≡ n
handed_number r q n h e = ap refusal_in (handed_on r q h) ∙ e

pub handed_says : {B : Type 0} (r : Result B Refusal) (q : Refusal) (n : ℕ) (v : B) → IsErrAnd r (λ x. x ≡ q) → number_of q ≡ n → says r ≡ said n v
handed_says r q n v h e = ap says (handed_on r q h) ∙ err_says q n v e

-- from what is said to the number, and from the number to the `Result`

pub says_number : {A : Type 0} (r : Result A Refusal) → number_said (says r) ≡ refusal_in r
says_number (Ok v) = refl
says_number (Err q) = refl

pub number_in_said : {A : Type 0} (r : Result A Refusal) (n : ℕ) (v : A) → says r ≡ said n v → refusal_in r ≡ n
number_in_said r n v e = sym (says_number r) ∙ ap number_said e ∙ said-number n v
