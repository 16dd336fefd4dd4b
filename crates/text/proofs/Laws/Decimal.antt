-- Decimal digits: a number's text grows by one digit at its end, it is made of digits, two numbers have two texts, and how long it is.
use Prim.Native.Nat.{ℕ, zero, suc, ◌+◌, ◌*◌, ◌/◌, ◌%◌, ◌≤◌, ◌<◌, ◌-◌}
use native.Mathlib.Omega.{arith}
use mathlib.Core.Path.{◌≡◌, sym, ◌∙◌, refl, ap}
use mathlib.Core.List.{[], ◌∷◌, ◌++◌, List}
use lib.Dec.{ltb}
use lib.ListN.{length, length-append}
use borrow.Author.Tests.{lt-ltb, le-ltb, ltb-true, ltb-false, le-leb}
use Rattle.text.specs.Decimal.{digits, decimal}
use Rattle.text.proofs.Laws.Tests.{cases}
use Rattle.text.proofs.Laws.Lists.{every_append}
use mathlib.Core.Bool.{true}
use Rattle.text.specs.Names.{digit}
use Rattle.text.specs.Lists.{every}
use Rattle.text.specs.Read.{value_of}

-- one turn of `digits`, for a number of one digit and for a longer one
pub digits-one : (k n : ℕ) → n < 10 → digits (suc k) n ≡ (48 + n) ∷ []
unfolding digits
digits-one k n h = rw (lt-ltb n 10 h, digits)

pub digits_more : (k n : ℕ) → 10 ≤ n → digits (suc k) n ≡ digits k (n / 10) ++ ((48 + n % 10) ∷ [])
unfolding digits
digits_more k n h = rw (le-ltb n 10 h, digits)

-- how many digits may be written does not matter once the number is below it
digits_same : (j k n : ℕ) → n < j → n < k → digits j n ≡ digits k n
digits_same zero k n a b = absurd (omega arith)
digits_same (suc j) zero n a b = absurd (omega arith)
digits_same (suc j) (suc k) n a b =
    cases (ltb n 10)
    (λ t.
    let h : n < 10 = ltb-true n 10 t in
    digits-one j n h ∙ sym (digits-one k n h))
    (λ f.
    let h : 10 ≤ n = ltb-false n 10 f in
    rw (digits_more j n h, digits_more k n h, digits_same j k (n / 10) (omega arith) (omega arith)))

pub decimal-one : (d : ℕ) → d < 10 → decimal d ≡ (48 + d) ∷ []
unfolding decimal
decimal-one d h = digits-one d d h

-- a further digit
pub decimal-more : (n d : ℕ) → 1 ≤ n → d < 10 → decimal (10 * n + d) ≡ decimal n ++ ((48 + d) ∷ [])
unfolding decimal
decimal-more n d pos small =
    let quotient : (10 * n + d) / 10 ≡ n = omega arith in
    let remainder : (10 * n + d) % 10 ≡ d = omega arith in
    rw (digits_more (10 * n + d) (10 * n + d) (omega arith), quotient, remainder, digits_same (10 * n + d) (suc n) n (omega arith) (omega arith))

is_digit : (d : ℕ) → d < 10 → digit (48 + d) ≡ true
unfolding digit
is_digit d h = rw (le-leb 48 (48 + d) (omega arith), le-leb (48 + d) 57 (omega arith))

digits-all : (k n : ℕ) → every digit (digits k n) ≡ true
unfolding every digits
digits-all zero n = refl
digits-all (suc k) n =
    cases (ltb n 10)
    (λ t.
    let small : n < 10 = ltb-true n 10 t in
    rw (digits-one k n small, is_digit n small))
    (λ f.
    rw (digits_more k n (ltb-false n 10 f))
    (every_append digit (digits k (n / 10)) ((48 + n % 10) ∷ []) (digits-all k (n / 10)) (rw (is_digit (n % 10) (omega arith)))))

value-snoc : (l : List ℕ) (n b : ℕ) → value_of n (l ++ (b ∷ [])) ≡ 10 * value_of n l + (b - 48)
unfolding value_of
value-snoc [] n b = refl
value-snoc (a ∷ l) n b = value-snoc l (10 * n + (a - 48)) b

digits_value : (k n : ℕ) → n < k → value_of 0 (digits k n) ≡ n
unfolding value_of
digits_value zero n h = absurd (omega arith)
digits_value (suc k) n h =
    cases (ltb n 10)
    (λ t. rw (digits-one k n (ltb-true n 10 t)) (omega arith))
    (λ f.
    let big : 10 ≤ n = ltb-false n 10 f in
    rw (digits_more k n big, value-snoc (digits k (n / 10)) 0 (48 + n % 10), digits_value k (n / 10) (omega arith)) (omega arith))

pub decimal-digits : (n : ℕ) → every digit (decimal n) ≡ true
unfolding decimal
decimal-digits n = digits-all (suc n) n

pub decimal-value : (n : ℕ) → value_of 0 (decimal n) ≡ n
unfolding decimal
decimal-value n = digits_value (suc n) n (omega arith)

pub decimal-small : (n : ℕ) → n < 10 → (48 + n) ∷ [] ≡ decimal n
decimal-small n h = sym (decimal-one n h)

pub decimal_step : (n : ℕ) → 10 ≤ n → decimal (n / 10) ++ ((48 + n % 10) ∷ []) ≡ decimal n
decimal_step n h =
    let e : 10 * (n / 10) + n % 10 ≡ n = omega arith in
    sym (decimal-more (n / 10) (n % 10) (omega arith) (omega arith)) ∙ ap decimal e

-- ten times as much for each digit
unfoldable pub tens : ℕ → ℕ
tens zero = 1
tens (suc k) = 10 * tens k

digits-few : (j k n : ℕ) → n < tens (suc k) → length (digits j n) ≤ suc k
unfolding digits tens
digits-few zero k n h = omega arith
digits-few (suc j) zero n h = rw (digits-one j n (omega arith)) (omega arith)
digits-few (suc j) (suc k) n h =
    cases (ltb n 10)
    (λ t. rw (digits-one j n (ltb-true n 10 t)) (omega arith))
    (λ f.
    let l : 10 ≤ n = ltb-false n 10 f in
    rw (digits_more j n l) (omega (arith, length-append (digits j (n / 10)) ((48 + n % 10) ∷ []), digits-few j k (n / 10) (omega arith))))

pub decimal-few : (k n : ℕ) → n < tens (suc k) → length (decimal n) ≤ suc k
unfolding decimal
decimal-few k n h = digits-few (suc n) k n h
