-- A test put together from tests: what is stored takes the place of what was read, one test at a time.
use Prim.Native.Nat.{ℕ, zero, suc, ◌-◌, ◌^◌, ◌≤◌, ◌<◌, max}
use mathlib.Core.Path.{◌≡◌, refl, sym, ap, ◌∙◌}
use mathlib.Core.Bool.{Bool, true, false, ◌&&◌, and-true, and_assoc}
use mathlib.Core.List.{List, [], ◌∷◌}
use native.Mathlib.Nat.{max-le, le-max_left, le-max_right}
use native.Mathlib.Omega.{arith}
use borrow.Author.Tests.{leb-true, le-leb, ltb-true, lt-ltb}
use lib.Bits.{bit_or, or_lt, or_add_and, and_le_l, and_le_r}
use lib.Dec.{leb, ltb}
use Rattle.std.specs.List.{fold, list_all}
use Rattle.text.proofs.Laws.Tests.{cases}
use Rattle.stored.specs.Tables.{size_at, size_of}

pub leb-by : {m n x y : ℕ} → m ≡ x → n ≡ y → leb m n ≡ leb x y
leb-by p q = rw (p, q)

-- the length of the word of a state: of the empty word and `#`, and of a label's
pub size_small : (a : List ℕ) (q : ℕ) → q < 2 → q ≡ size_of a q
unfolding size_of
size_small a zero h = refl
size_small a (suc zero) h = refl
size_small a (suc (suc l)) h = absurd (omega arith)

pub size-label : (a : List ℕ) (q : ℕ) → 2 ≤ q → size_at a (q - 2) ≡ size_of a q
unfolding size_of
size-label a zero h = absurd (omega arith)
size-label a (suc zero) h = absurd (omega arith)
size-label a (suc (suc l)) h = let s : suc (suc l) - 2 ≡ l = omega arith in rw s

-- one test in the place of two
as-both : (r x y : Bool) → (x ≡ true → y ≡ true → r ≡ true) → (r ≡ true → (x ≡ true) × (y ≡ true)) → r ≡ (x && y)
as-both r true true f g = f refl refl
as-both r true false f g = cases r (λ t. let z = (g t).1 in cc) (λ t. t)
as-both r false y f g = cases r (λ t. let z = (g t).0 in cc) (λ t. t)

-- two numbers have no bit from bit k on exactly if the bits of both together have none
pub or-below : (k x y : ℕ) → ltb (bit_or x y) (2 ^ k) ≡ (ltb x (2 ^ k) && ltb y (2 ^ k))
or-below k x y =
    as-both (ltb (bit_or x y) (2 ^ k)) (ltb x (2 ^ k)) (ltb y (2 ^ k))
    (λ p q. lt-ltb (bit_or x y) (2 ^ k) (or_lt k x y (ltb-true x (2 ^ k) p) (ltb-true y (2 ^ k) q)))
    (λ t. let h = ltb-true (bit_or x y) (2 ^ k) t in
    (lt-ltb x (2 ^ k) (omega (arith, or_add_and x y, and_le_r x y)), lt-ltb y (2 ^ k) (omega (arith, or_add_and x y, and_le_l x y))))

-- and so many numbers
pub or-all : (k : ℕ) (xs : List ℕ) (b : ℕ) → ltb (fold bit_or b xs) (2 ^ k) ≡ (ltb b (2 ^ k) && list_all (λ x. ltb x (2 ^ k)) xs)
or-all k [] b = sym (and-true (ltb b (2 ^ k)))
or-all k (x ∷ xs) b =
    or-all k xs (bit_or b x)
    ∙ (ap (λ t. t && list_all (λ x. ltb x (2 ^ k)) xs) (or-below k b x)
    ∙ and_assoc (ltb b (2 ^ k)) (ltb x (2 ^ k)) (list_all (λ x. ltb x (2 ^ k)) xs))

pub max-within : (x y top : ℕ) → leb (max x y) top ≡ (leb x top && leb y top)
max-within x y top =
    as-both (leb (max x y) top) (leb x top) (leb y top)
    (λ p q. le-leb (max x y) top (max-le (leb-true x top p) (leb-true y top q)))
    (λ t. let h = leb-true (max x y) top t in (le-leb x top (omega (arith, le-max_left x y)), le-leb y top (omega (arith, le-max_right x y))))

pub ruleset sizes = (size_small, size-label)
