-- The longest front of bytes that pass a test, and what is after it.
use Prim.Native.Nat.{ℕ}
use mathlib.Core.Path.{◌≡◌, refl, sym, ap, ◌∙◌}
use mathlib.Core.Bool.{Bool, true, false, not, true≢false}
use mathlib.Core.List.{List, [], ◌∷◌, ◌++◌}
use lib.Dec.{eqb}
use borrow.Author.Tests.{ne_eqb, not-true}
use Rattle.text.specs.Lists.{every}
use Rattle.text.specs.Read.{front, back}
use Rattle.text.proofs.Laws.Tests.{cases}
use Rattle.text.proofs.Laws.Lists.{every-head, every_rest}

-- a byte that passes a test is none that does not
pub differs : (ok : ℕ → Bool) (b c : ℕ) → ok b ≡ true → ok c ≡ false → eqb b c ≡ false
differs ok b c h n = ne_eqb b c (λ e. true≢false (sym h ∙ ap ok e ∙ n))

pub front-back : (ok : ℕ → Bool) (l : List ℕ) → front ok l ++ back ok l ≡ l
unfolding front back
front-back ok [] = refl
front-back ok (b ∷ l) = cases (ok b) (λ t. rw t (ap (◌∷◌ b) (front-back ok l))) (λ f. rw f)

pub front-every : (ok : ℕ → Bool) (l : List ℕ) → every ok (front ok l) ≡ true
unfolding front every
front-every ok [] = refl
front-every ok (b ∷ l) = cases (ok b) (λ t. rw (t, t) (front-every ok l)) (λ f. rw f)

-- the bytes are at their end, or begin with one that fails the test
abbrev pub stops : (ℕ → Bool) → List ℕ → Bool
stops ok [] = true
stops ok (b ∷ l) = not (ok b)

module _ (ok : ℕ → Bool) where
  pub front-stop : (r : List ℕ) → stops ok r ≡ true → front ok r ≡ []
  unfolding front
  front-stop [] s = refl
  front-stop (b ∷ l) s = rw (not-true (ok b) s)

  pub back-stop : (r : List ℕ) → stops ok r ≡ true → back ok r ≡ r
  unfolding back
  back-stop [] s = refl
  back-stop (b ∷ l) s = rw (not-true (ok b) s)

  pub front_of : (a r : List ℕ) → every ok a ≡ true → stops ok r ≡ true → front ok (a ++ r) ≡ a
  unfolding every front
  front_of [] r h s = front-stop r s
  front_of (b ∷ a) r h s =
      let now : ok b ≡ true = every-head ok b a h in
      let rest = every_rest ok b a h in
      rw (now, front_of a r rest s)

  pub back-of : (a r : List ℕ) → every ok a ≡ true → stops ok r ≡ true → back ok (a ++ r) ≡ r
  unfolding every back
  back-of [] r h s = back-stop r s
  back-of (b ∷ a) r h s =
      let now : ok b ≡ true = every-head ok b a h in
      let rest = every_rest ok b a h in
      rw (now, back-of a r rest s)
