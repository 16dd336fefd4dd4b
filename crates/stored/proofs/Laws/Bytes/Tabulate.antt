-- Lists made by a function of the place, and how large a found place is.
use Prim.Native.Nat.{ℕ, zero, suc, ◌+◌, ◌≤◌, ◌<◌}
use native.Mathlib.Nat.{not-suc-le-zero, le_of_suc-le-suc, eq-or-lt_of_le}
use native.Mathlib.Omega.{arith}
use mathlib.Core.Path.{◌≡◌, refl, sym, ◌∙◌}
use mathlib.Core.Bool.{Bool}
use mathlib.Core.List.{List, [], ◌∷◌}
use mathlib.Core.Logic.{inl, inr}
use lib.Dec.{eqb}
use borrow.Author.Tests.{eq-eqb, eqb-true}
use lib.ListN.{length, get_or, set, replicate, length-append, length-set, length-replicate, get_or-replicate, get_or-append}
use lib.Seq.{get_or_at, ext_get_or, get_or-set_same, get_or-set_other}
use Rattle.stored.specs.Automaton.{find, tabulate}
use Rattle.text.proofs.Laws.Tests.{cases, clash}

pub find-below : {A : Type 0} (test : A → Bool) (k : ℕ) (l : List A) → find test k l ≤ k + length l
unfolding find
find-below test k [] = omega arith
find-below test k (a ∷ l) =
    cases (test a) (λ e. rw e (omega arith)) (λ e. rw e (omega (arith, find-below test (suc k) l)))

pub tabulate-length : (f : ℕ → ℕ) (n : ℕ) → length (tabulate f n) ≡ n
unfolding tabulate
tabulate-length f zero = refl
tabulate-length f (suc n) = omega (arith, length-append (tabulate f n) (f n ∷ []), tabulate-length f n)

pub tabulate-at : (f : ℕ → ℕ) (n i : ℕ) → i < n → get_or (tabulate f n) i 0 ≡ f i
unfolding tabulate
tabulate-at f zero i h = absurd (not-suc-le-zero h)
tabulate-at f (suc n) i h =
    elim (eq-or-lt_of_le (le_of_suc-le-suc h)) [
      | inl e ↦ rw e (get_or_at (tabulate f n) (f n) [] 0 n (tabulate-length f n))
      | inr k ↦ get_or-append (tabulate f n) (f n ∷ []) 0 i (rw (tabulate-length f n) k) ∙ tabulate-at f n i k
    ]

-- tables with the same elements
pub tabulate-same : (f g : ℕ → ℕ) (n : ℕ) → ((i : ℕ) → i < n → f i ≡ g i) → tabulate f n ≡ tabulate g n
unfolding tabulate
tabulate-same f g zero e = refl
tabulate-same f g (suc n) e =
    rw (tabulate-same f g n (λ i h. e i (omega arith)), e n (omega arith))

-- one element changed
pub tabulate-set : (f g : ℕ → ℕ) (n h v : ℕ) → h < n → g h ≡ v → ((i : ℕ) → (i ≡ h → ⊥) → g i ≡ f i) → set (tabulate f n) h v ≡ tabulate g n
tabulate-set f g n h v k e o =
    ext_get_or 0 (set (tabulate f n) h v) (tabulate g n)
    (length-set (tabulate f n) h v ∙ tabulate-length f n ∙ sym (tabulate-length g n))
    (λ i b. let b' : i < n = rw (length-set (tabulate f n) h v, tabulate-length f n) at b in
    cases (eqb i h)
    (λ q. let z : i ≡ h = eqb-true i h q in rw (z) (get_or-set_same (tabulate f n) h v 0 (rw (tabulate-length f n) k) ∙ sym (tabulate-at g n h k ∙ e)))
    (λ q. let z : i ≡ h → ⊥ = λ w. clash (eq-eqb i h w) q in get_or-set_other (tabulate f n) h i v 0 z ∙ tabulate-at f n i b' ∙ sym (tabulate-at g n i b' ∙ o i z)))

pub tabulate-constant : (n v : ℕ) → tabulate (λ i. v) n ≡ replicate n v
tabulate-constant n v =
    ext_get_or 0 (tabulate (λ i. v) n) (replicate n v)
    (tabulate-length (λ i. v) n ∙ sym (length-replicate n v))
    (λ i b. let b' : i < n = rw (tabulate-length (λ (j : ℕ). v) n) at b in tabulate-at (λ i. v) n i b' ∙ sym (get_or-replicate n i v 0 b'))
