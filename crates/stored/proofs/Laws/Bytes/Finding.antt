-- What `find` finds, and `find_with_later`: the first element that passes, and 0 where none does.
use Prim.Native.Nat.{ℕ, suc, ◌+◌, ◌≤◌, ◌<◌}
use mathlib.Core.Path.{◌≡◌, refl, sym, ◌∙◌, ap}
use mathlib.Core.Bool.{Bool, true, false}
use mathlib.Core.Logic.{◌⊎◌, inl, inr}
use mathlib.Core.List.Memᴰ
use mathlib.Core.List.{List, [], ◌∷◌, Memᴰ}
use native.Mathlib.Omega.{arith}
use lib.ListN.{length, get_or}
use Rattle.text.specs.Names.{Name}
use Rattle.text.specs.Lists.{any}
use Rattle.stored.specs.Automaton.{find, find_with_later}
use Rattle.text.proofs.Laws.Tests.{cases, clash}
use Rattle.text.proofs.Laws.Lists.{is_any}

module _ {A : Type 0} (test : A → Bool) where
  pub find-here : (k : ℕ) (a : A) (l : List A) → test a ≡ true → find test k (a ∷ l) ≡ k
  unfolding find
  find-here k a l h = rw h

  pub find-later : (k : ℕ) (a : A) (l : List A) → test a ≡ false → find test k (a ∷ l) ≡ find test (suc k) l
  unfolding find
  find-later k a l h = rw h

  pub find-empty : (k : ℕ) → find test k [] ≡ 0
  unfolding find
  find-empty k = refl

  pub find_none : (k : ℕ) (l : List A) → ((x : A) → Memᴰ x l → test x ≡ false) → find test k l ≡ 0
  find_none k [] h = find-empty k
  find_none k (a ∷ l) h = find-later k a l (h a (Memᴰ.head refl)) ∙ find_none (suc k) l (λ x m. h x (Memᴰ.tail m))

  pub find-missing : (k : ℕ) (l : List A) → any test l ≡ false → find test k l ≡ 0
  find-missing k l h = find_none k l (λ x m. cases (test x) (λ t. clash (is_any test l m t) h) (λ t. t))

module _ (test : Name → List Name → Bool) where
  pub last-here : (k : ℕ) (n : Name) (later : List Name) → test n later ≡ true → find_with_later test k (n ∷ later) ≡ k
  unfolding find_with_later
  last-here k n later h = rw h

  pub last-later : (k : ℕ) (n : Name) (later : List Name) → test n later ≡ false → find_with_later test k (n ∷ later) ≡ find_with_later test (suc k) later
  unfolding find_with_later
  last-later k n later h = rw h

  pub last_empty : (k : ℕ) → find_with_later test k [] ≡ 0
  unfolding find_with_later
  last_empty k = refl

-- what is found is 0 or one of the places
pub data Ranged (k n p : ℕ) : Type 0 where
  nowhere : p ≡ 0 → Ranged k n p
  somewhere : k ≤ p → p < k + n → Ranged k n p

ranged-later : {k n p : ℕ} → Ranged (suc k) n p → Ranged k (suc n) p
ranged-later (nowhere e) = nowhere e
ranged-later (somewhere p q) = somewhere (omega arith) (omega arith)

pub find-range : {A : Type 0} (test : A → Bool) (k : ℕ) (l : List A) → Ranged k (length l) (find test k l)
find-range test k [] = nowhere (find-empty test k)
find-range test k (a ∷ l) =
    cases (test a)
    (λ h. rw (find-here test k a l h) (somewhere (omega arith) (omega arith)))
    (λ h. rw (find-later test k a l h) (ranged-later (find-range test (suc k) l)))

pub last-range : (test : Name → List Name → Bool) (k : ℕ) (l : List Name) → Ranged k (length l) (find_with_later test k l)
last-range test k [] = nowhere (last_empty test k)
last-range test k (n ∷ l) =
    cases (test n l)
    (λ h. rw (last-here test k n l h) (somewhere (omega arith) (omega arith)))
    (λ h. rw (last-later test k n l h) (ranged-later (last-range test (suc k) l)))

-- the element of a place passes, and p is that place counted from k
pub record FoundAt {A : Type 0} (test : A → Bool) (d : A) (l : List A) (k p : ℕ) : Type 0 where
  pub index : ℕ
  pub below : index < length l
  pub is : p ≡ k + index
  pub passes : test (get_or l index d) ≡ true

module _ {A : Type 0} (test : A → Bool) (d : A) where
  pub find-some : {x : A} (k : ℕ) (l : List A) → Memᴰ x l → test x ≡ true → FoundAt test d l k (find test k l)
  find-some k [] m t = absurd (Memᴰ.not-nil m)
  find-some {x} k (a ∷ l) m t = cases (test a) here (later (λ n. find-some (suc k) l n t) (Memᴰ.cases_cons m))
    where
      here : test a ≡ true → FoundAt test d (a ∷ l) k (find test k (a ∷ l))
      here h = rw (find-here test k a l h) (record { index = 0; below = omega arith; is = omega arith; passes = h })

      further : test a ≡ false → FoundAt test d l (suc k) (find test (suc k) l) → FoundAt test d (a ∷ l) k (find test k (a ∷ l))
      further h f = rw (find-later test k a l h) (record { index = suc f.index; below = omega (arith, f.below); is = omega (arith, f.is); passes = f.passes })

      later : (Memᴰ x l → FoundAt test d l (suc k) (find test (suc k) l)) → (x ≡ a) ⊎ Memᴰ x l → test a ≡ false → FoundAt test d (a ∷ l) k (find test k (a ∷ l))
      later f (inl e) h = clash (ap test (sym e) ∙ t) h
      later f (inr n) h = further h (f n)
