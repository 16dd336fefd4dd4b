-- A test of every number below n, as a loop goes through them, and what it says of each.
use Prim.Native.Nat.{ℕ, zero, suc, ◌+◌, ◌<◌}
use mathlib.Core.Path.{◌≡◌, refl, sym, ap, ◌∙◌}
use mathlib.Core.Bool.{Bool, true, ◌&&◌, and-true, and_assoc}
use native.Mathlib.Numerals.{add-one}
use native.Mathlib.Nat.{add-zero, zero-add}
use native.Mathlib.Omega.{arith}
use mathlib.Core.List.{List, [], ◌∷◌}
use lib.Dec.{eqb}
use lib.ListN.{length, get_or}
use borrow.Author.Tests.{eqb-true, eqb-false}
use Rattle.std.specs.List.{range_with_len, list_all}
use Rattle.stored.specs.Shape.{all_below}
use Rattle.text.proofs.Laws.Tests.{cases, both, both_true}

pub all_none : (f : ℕ → Bool) → true ≡ all_below 0 f
unfolding all_below
all_none f = refl

pub all-next : (i : ℕ) (f : ℕ → Bool) {r x y : Bool} → r ≡ (x && y) → x ≡ all_below i f → y ≡ f i → r ≡ all_below (i + 1) f
unfolding all_below
all-next i f e p q = rw (add-one, e, p, q)

-- a chain of calls over these numbers
all-last : (n i : ℕ) (f : ℕ → Bool) → list_all f (range_with_len i (suc n)) ≡ (list_all f (range_with_len i n) && f (i + n))
all-last zero i f = rw add-zero (and-true (f i))
all-last (suc n) i f =
    let next : i + 1 + n ≡ i + suc n = omega arith in
    ap (λ b. f i && b) (all-last n (i + 1) f ∙ ap (λ k. list_all f (range_with_len (i + 1) n) && f k) next)
    ∙ sym (and_assoc (f i) (list_all f (range_with_len (i + 1) n)) (f (i + suc n)))

pub all-listed : (n : ℕ) (f : ℕ → Bool) → list_all f (range_with_len 0 n) ≡ all_below n f
unfolding all_below
all-listed zero f = refl
all-listed (suc n) f = all-last n 0 f ∙ rw (zero-add) (ap (λ b. b && f n) (all-listed n f))

-- by the first number, and over a list
all-first : (n : ℕ) (f : ℕ → Bool) → all_below (suc n) f ≡ (f 0 && all_below n (λ i. f (suc i)))
unfolding all_below
all-first zero f = sym (and-true (f 0))
all-first (suc n) f =
    ap (λ b. b && f (suc n)) (all-first n f) ∙ and_assoc (f 0) (all_below n (λ i. f (suc i))) (f (suc n))

pub all-same : (n : ℕ) (f g : ℕ → Bool) → ((i : ℕ) → i < n → f i ≡ g i) → all_below n f ≡ all_below n g
unfolding all_below
all-same zero f g h = refl
all-same (suc n) f g h = rw (all-same n f g (λ i l. h i (omega arith)), h n (omega arith))

pub all-elements : (test : ℕ → Bool) (xs : List ℕ) → list_all test xs ≡ all_below (length xs) (λ i. test (get_or xs i 0))
unfolding all_below
all-elements test [] = refl
all-elements test (x ∷ xs) =
    ap (λ b. test x && b) (all-elements test xs) ∙ sym (all-first (length xs) (λ i. test (get_or (x ∷ xs) i 0)))

pub all-at : (n : ℕ) (f : ℕ → Bool) → all_below n f ≡ true → (i : ℕ) → i < n → f i ≡ true
unfolding all_below
all-at zero f h i l = absurd (omega arith)
all-at (suc n) f h i l =
    let b = both (all_below n f) (f n) h in
    cases (eqb i n) (λ t. rw (eqb-true i n t) b.1) (λ t. let d : i ≡ n → ⊥ = eqb-false i n t in all-at n f b.0 i (omega arith))

pub is_all : (n : ℕ) (f : ℕ → Bool) → ((i : ℕ) → i < n → f i ≡ true) → all_below n f ≡ true
unfolding all_below
is_all zero f h = refl
is_all (suc n) f h = both_true (is_all n f (λ i l. h i (omega arith))) (h n (omega arith))
