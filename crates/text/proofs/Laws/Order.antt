-- The computed first refusal is the first whose condition holds, and there is none exactly where no condition holds. The number that an
-- order gives is its number.
use Prim.Native.Nat.{ℕ}
use mathlib.Core.Path.{◌≡◌, refl, sym, ◌∙◌, ap}
use mathlib.Core.Bool.{Bool, true, false, cond}
use mathlib.Core.Logic.{◌⊎◌, inl, inr, ◌↔◌}
use mathlib.Core.Option.{Option, none, some, none-ne-some, some-injective, some-ne-none}
use mathlib.Core.List.Memᴰ
use mathlib.Core.List.{List, [], ◌∷◌, ◌++◌, Memᴰ}
use lib.Dec.{eqb}
use borrow.Author.Tests.{ne_eqb}
use Rattle.text.specs.Lists.{every}
use Rattle.text.specs.declared.refusals.Refusal.{Refusal}
use Rattle.text.specs.Refusals.{number_of}
use Rattle.text.specs.Answers.{Answer, refused, said, says}
use Rattle.text.proofs.Laws.Numbers.{one-refusal, some_number}
use Rattle.text.proofs.Laws.Results.{err_says, ok_says, handed_number, handed_says}
use Rattle.text.proofs.Laws.Said.{said-value, said-refused, value-said, refused-said}
use Rattle.text.specs.Order.{Condition, gives, holds, FirstOf, first, is_none, number_in, given, GivenBy, AnswersBy}
use Rattle.text.proofs.Laws.Tests.{clash, and_left, and_right}

pub is-none : (o : Option Refusal) → is_none o ≡ true → o ≡ none
is-none none h = refl
is-none (some r) h = clash h refl

pub none_is : (o : Option Refusal) → o ≡ none → is_none o ≡ true
none_is o e = ap is_none e

none_first : (order : List Condition) → first order ≡ none → (c : Condition) → Memᴰ c order → holds c ≡ false
unfolding first
none_first [] h c m = absurd (Memᴰ.not-nil m)
none_first (gives true r ∷ later) h c m = absurd (some-ne-none r h)
none_first (gives false r ∷ later) h c m = elim (Memᴰ.cases_cons m) [ inl e ↦ ap holds e | inr t ↦ none_first later h c t ]

unmet-none : (order : List Condition) → ((c : Condition) → Memᴰ c order → holds c ≡ false) → first order ≡ none
unfolding first
unmet-none [] u = refl
unmet-none (gives b r ∷ later) u = rw (u (gives b r) (Memᴰ.head refl)) (unmet-none later (λ c m. u c (Memᴰ.tail m)))

-- no refusal exactly where no condition holds
pub first-none : (order : List Condition) → (first order ≡ none) ↔ ((c : Condition) → Memᴰ c order → holds c ≡ false)
first-none order = (none_first order, unmet-none order)

find_first : (order : List Condition) (r : Refusal) → first order ≡ some r → FirstOf order r
unfolding first
find_first [] r h = absurd (none-ne-some r h)
find_first (gives true q ∷ later) r h = record { before = []; later = later; joined = ap (λ (x : Refusal). gives true x ∷ later) (sym (some-injective q r h)); unmet = λ c m. absurd (Memᴰ.not-nil m) }
find_first (gives false q ∷ later) r h =
    let f = find_first later r h in
    record {
      before = gives false q ∷ f.before;
      later = f.later;
      joined = ap (λ (l : List Condition). gives false q ∷ l) f.joined;
      unmet = λ c m. elim (Memᴰ.cases_cons m) [ inl e ↦ ap holds e | inr t ↦ f.unmet c t ];
    }

past-unmet : (before later : List Condition) (r : Refusal) → ((c : Condition) → Memᴰ c before → holds c ≡ false) → first (before ++ (gives true r ∷ later)) ≡ some r
unfolding first
past-unmet [] later r u = refl
past-unmet (gives b q ∷ before) later r u = rw (u (gives b q) (Memᴰ.head refl)) (past-unmet before later r (λ c m. u c (Memᴰ.tail m)))

-- a refusal is given exactly where its condition holds and none before it does
pub first-is : (order : List Condition) (r : Refusal) → (first order ≡ some r) ↔ FirstOf order r
first-is order r = (find_first order r, λ f. ap first (sym f.joined) ∙ past-unmet f.before f.later r f.unmet)

-- the number given

pub number-none : (o : Option Refusal) → eqb (number_in o) 0 ≡ is_none o
number-none none = refl
number-none (some r) = ne_eqb (number_of r) 0 (some_number r)

pub number-some : (o : Option Refusal) (r : Refusal) → (number_in o ≡ number_of r) ↔ (o ≡ some r)
number-some none r = (λ e. absurd (some_number r (sym e)), λ e. absurd (none-ne-some r e))
number-some (some q) r = (λ e. ap some (one-refusal q r e), λ e. ap number_of (some-injective q r e))

pub number-zero : (o : Option Refusal) → (number_in o ≡ 0) ↔ (o ≡ none)
number-zero none = (λ e. refl, λ e. refl)
number-zero (some q) = (λ e. absurd (some_number q e), λ e. absurd (some-ne-none q e))

number-either : (o : Option Refusal) → (number_in o ≡ 0) ⊎ ((r : Refusal) × (number_in o ≡ number_of r))
number-either none = inl refl
number-either (some r) = inr (r, refl)

pub given_by : (order : List Condition) → GivenBy order (given order)
unfolding given
given_by order = record {
  refusals = λ r.
      let n = number-some (first order) r in
      let f = first-is order r in
      (λ e. f.0 (n.0 e), λ h. n.1 (f.1 h));
  accepted =
      let n = number-zero (first order) in
      let f = first-none order in
      (λ e. f.0 (n.0 e), λ h. n.1 (f.1 h));
  either = number-either (first order);
}

-- an answer that an order gives, or a value
pub answers_by : {A : Type 0} (order : List Condition) (v : A) (says : Answer A) → says ≡ said (given order) v → AnswersBy order says
answers_by order v says is =
    let g = given_by order in
    record {
      refusals = λ r. (
        λ e. (g.refusals r).0 (sym (refused-said (given order) (number_of r) v (sym e ∙ is)).0),
        λ f. let n = (g.refusals r).1 f in is ∙ said-refused (given order) v (λ z. some_number r (sym n ∙ z)) ∙ ap refused n,
      );
      answered = (
        λ e. g.accepted.0 (value-said (given order) e.0 v (sym e.1 ∙ is)).0,
        λ u. (v, is ∙ said-value (given order) v (g.accepted.1 u)),
      );
      either = elim g.either [
        | inl z ↦ inl (v, is ∙ said-value (given order) v z)
        | inr (r, n) ↦ inr (r, is ∙ said-refused (given order) v (λ z. some_number r (sym n ∙ z)) ∙ ap refused n)
      ];
    }

-- condition by condition
pub given-none : given [] ≡ 0
unfolding given first
given-none = refl

pub given-cons : (b : Bool) (r : Refusal) (later : List Condition) → given (gives b r ∷ later) ≡ cond b (number_of r) (given later)
unfolding given first
given-cons true r later = refl
given-cons false r later = refl

-- with nothing given, a first condition does not hold, and the later ones give nothing
pub not-given : (b : Bool) (r : Refusal) (later : List Condition) → given (gives b r ∷ later) ≡ 0 → (b ≡ false) × (given later ≡ 0)
not-given true r later h = absurd (some_number r (sym (given-cons true r later) ∙ h))
not-given false r later h = (refl, sym (given-cons false r later) ∙ h)

pub unmet : (b : Bool) (r : Refusal) (later : List Condition) → first (gives b r ∷ later) ≡ none → b ≡ false
unmet b r later h = none_first (gives b r ∷ later) h (gives b r) (Memᴰ.head refl)

-- what all conditions of an order have, that which refuses has
pub first-has : (f : Condition → Bool) (order : List Condition) (r : Refusal) → every f order ≡ true → first order ≡ some r → f (gives true r) ≡ true
unfolding every first
first-has f [] r h e = absurd (none-ne-some r e)
first-has f (gives true q ∷ later) r h e = rw (some-injective q r e) at (and_left (f (gives true q)) (every f later) h)
first-has f (gives false q ∷ later) r h e = first-has f later r (and_right (f (gives false q)) (every f later) h) e

-- one order after another
pub first_then : (order later : List Condition) → first order ≡ none → first (order ++ later) ≡ first later
unfolding first
first_then [] later h = refl
first_then (gives true q ∷ order) later h = absurd (some-ne-none q h)
first_then (gives false q ∷ order) later h = first_then order later h

pub first-before : (order later : List Condition) (r : Refusal) → first order ≡ some r → first (order ++ later) ≡ some r
unfolding first
first-before [] later r h = absurd (none-ne-some r h)
first-before (gives true q ∷ order) later r h = h
first-before (gives false q ∷ order) later r h = first-before order later r h

pub later-unmet : (order later : List Condition) → first (order ++ later) ≡ none → first later ≡ none
unfolding first
later-unmet [] later h = h
later-unmet (gives true q ∷ order) later h = absurd (some-ne-none q h)
later-unmet (gives false q ∷ order) later h = later-unmet order later h

pub given-then : (order later : List Condition) → given order ≡ 0 → given (order ++ later) ≡ given later
unfolding given
given-then order later z = ap number_in (first_then order later ((number-zero (first order)).0 z))

pub given-first : (order later : List Condition) → (given order ≡ 0 → ⊥) → given (order ++ later) ≡ given order
unfolding given
given-first order later n = go (first order) refl
  where
    go : (o : Option Refusal) → first order ≡ o → number_in (first (order ++ later)) ≡ number_in (first order)
    go none e = absurd (n (ap number_in e))
    go (some r) e = ap number_in (first-before order later r e ∙ sym e)

-- the same of a refusal that one order gives: that of the two is the same
pub refused_first : (order later : List Condition) (q : Refusal) → number_of q ≡ given order → number_of q ≡ given (order ++ later)
refused_first order later q e = e ∙ sym (given-first order later (λ z. some_number q (e ∙ z)))

-- and where the first gives none, the number is the later one's
pub then_given : (order later : List Condition) (n : ℕ) → 0 ≡ given order → n ≡ given later → n ≡ given (order ++ later)
then_given order later n z e = e ∙ sym (given-then order later (sym z))

-- for the exits of a function that returns a `Result`: `#[tactic(auto, using(text::proofs::Laws::Order::refusing))]`
pub ruleset refusing = (refused_first, then_given, given-cons, given-none, err_says, ok_says, handed_number, handed_says)
