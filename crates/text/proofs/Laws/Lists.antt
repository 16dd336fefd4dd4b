-- Facts of tests of lists, and of a list's length.
use Prim.Native.Nat.{ℕ, ◌≤◌}
use mathlib.Core.Path.{◌≡◌, refl, sym, ◌∙◌, ap}
use mathlib.Core.Bool.{Bool, true}
use mathlib.Core.Logic.{inl, inr}
use mathlib.Core.List.Memᴰ
use mathlib.Core.List.{List, [], ◌∷◌, ◌++◌, Memᴰ}
use native.Mathlib.Omega.{arith}
use lib.ListN.{length, length-append}
use Rattle.text.specs.Lists.{every, any}
use Rattle.text.proofs.Laws.Tests.{and_left, and_right, both_true, either, either_left, either-right}

pub every-head : {A : Type 0} (ok : A → Bool) (b : A) (l : List A) → every ok (b ∷ l) ≡ true → ok b ≡ true
unfolding every
every-head ok b l h = and_left _ _ h

pub every_rest : {A : Type 0} (ok : A → Bool) (b : A) (l : List A) → every ok (b ∷ l) ≡ true → every ok l ≡ true
unfolding every
every_rest ok b l h = and_right (ok b) _ h

pub every_append : {A : Type 0} (ok : A → Bool) (k l : List A) → every ok k ≡ true → every ok l ≡ true → every ok (k ++ l) ≡ true
unfolding every
every_append ok [] l g h = h
every_append ok (a ∷ k) l g h = both_true (every-head ok a k g) (every_append ok k l (every_rest ok a k g) h)

-- a test that follows from another
pub every-weaker : {A : Type 0} (ok weak : A → Bool) → ((a : A) → ok a ≡ true → weak a ≡ true) → (l : List A) → every ok l ≡ true → every weak l ≡ true
unfolding every
every-weaker ok weak f [] h = refl
every-weaker ok weak f (a ∷ l) h = both_true (f a (every-head ok a l h)) (every-weaker ok weak f l (every_rest ok a l h))

-- a test that holds of some element
pub any-is : {A : Type 0} (f : A → Bool) (l : List A) → any f l ≡ true → (a : A) × Memᴰ a l × (f a ≡ true)
unfolding any
any-is f [] h = absurd (let z : ◌≡◌ {A = ℕ} 0 1 = cc in omega arith)
any-is f (a ∷ l) h = elim (either (f a) (any f l) h) [ inl p ↦ (a, Memᴰ.head refl, p) | inr q ↦ let r = any-is f l q in (r.0, Memᴰ.tail r.1, r.2) ]

pub is_any : {A : Type 0} (f : A → Bool) {a : A} (l : List A) → Memᴰ a l → f a ≡ true → any f l ≡ true
unfolding any
is_any f [] m p = absurd (Memᴰ.not-nil m)
is_any f (b ∷ l) m p = elim (Memᴰ.cases_cons m) [ inl e ↦ either_left (any f l) (ap f (sym e) ∙ p) | inr r ↦ either-right (f b) (is_any f l r p) ]

-- a longer end of a list is not shorter
pub length-end : {A : Type 0} (u v w : List A) → u ++ v ≡ w → length v ≤ length w
length-end u v w e = omega (arith, length-append u v, ap length e)
