-- A number is read back as it was printed, and a number that was read prints to what stood there.
use Prim.Native.Nat.{ℕ, zero, suc, ◌+◌, ◌*◌, ◌/◌, ◌%◌, ◌-◌, ◌≤◌, ◌<◌}
use native.Mathlib.Omega.{arith}
use mathlib.Core.Path.{◌≡◌, sym, ◌∙◌}
use mathlib.Core.Bool.{true, ◌&&◌, false≢true}
use mathlib.Core.List.{List, [], ◌∷◌, ◌++◌, append_assoc, append-nil}
use lib.Dec.{leb, ltb}
use borrow.Author.Tests.{le-leb, leb-true, ltb-true, ltb-false}
use Rattle.text.specs.Lists.{every}
use Rattle.text.specs.Names.{digit}
use Rattle.text.specs.Decimal.{digits, decimal}
use Rattle.text.specs.Read.{got, front, value_of, number_ahead, read_number}
use Rattle.text.proofs.Laws.Tests.{cases, and_left, and_right}
use Rattle.text.proofs.Laws.Lists.{every-head, every_rest}
use Rattle.text.proofs.Laws.Decimal.{digits-one, digits_more, decimal-one, decimal-more, decimal-digits, decimal-value}
use Rattle.text.proofs.Laws.Fronts.{stops, front_of, back-of, front-back, front-every}
use Rattle.text.proofs.Laws.Reads.{WhenRead, gotten, when-holds}

digits-ahead : (k n : ℕ) (r : List ℕ) → n < k → 1 ≤ n → number_ahead (digits k n ++ r) ≡ true
digits-ahead zero n r h p = absurd (omega arith)
digits-ahead (suc k) n r h p =
    cases (ltb n 10)
    (λ t. rw (digits-one k n (ltb-true n 10 t), le-leb 49 (48 + n) (omega arith), le-leb (48 + n) 57 (omega (arith, ltb-true n 10 t))))
    (λ f.
    let big : 10 ≤ n = ltb-false n 10 f in
    rw (digits_more k n big, append_assoc (digits k (n / 10)) ((48 + n % 10) ∷ []) r) (digits-ahead k (n / 10) _ (omega arith) (omega arith)))

pub decimal-ahead : (n : ℕ) (r : List ℕ) → 1 ≤ n → number_ahead (decimal n ++ r) ≡ true
unfolding decimal
decimal-ahead n r p = digits-ahead (suc n) n r (omega arith) p

pub number-back : (most n : ℕ) (r : List ℕ) → stops digit r ≡ true → 1 ≤ n → n ≤ most → read_number most (decimal n ++ r) ≡ got n r
unfolding read_number
number-back most n r s p h =
    rw (
      front_of digit (decimal n) r (decimal-digits n) s,
      back-of digit (decimal n) r (decimal-digits n) s,
      decimal-value n,
      decimal-ahead n r p,
      le-leb n most h,
    )

pub digit-is : (b : ℕ) → digit b ≡ true → (48 ≤ b) × (b ≤ 57)
unfolding digit
digit-is b h = (leb-true 48 b (and_left _ _ h), leb-true b 57 (and_right (leb 48 b) _ h))

-- further digits after a number
pub value_grows : (n : ℕ) (l : List ℕ) → n ≤ value_of n l
unfolding value_of
value_grows n [] = omega arith
value_grows n (b ∷ l) = omega (arith, value_grows (10 * n + (b - 48)) l)

value-decimal : (n : ℕ) (l : List ℕ) → 1 ≤ n → every digit l ≡ true → decimal (value_of n l) ≡ decimal n ++ l
unfolding value_of
value-decimal n [] p h = sym (append-nil (decimal n))
value-decimal n (b ∷ l) p h =
    let (low, high) = digit-is b (every-head digit b l h) in
    let byte : 48 + (b - 48) ≡ b = omega arith in
    value-decimal (10 * n + (b - 48)) l (omega arith) (every_rest digit b l h)
    ∙ rw (decimal-more n (b - 48) p (omega arith), byte) (append_assoc (decimal n) (b ∷ []) l)

front-decimal : (l : List ℕ) → number_ahead l ≡ true → (decimal (value_of 0 (front digit l)) ≡ front digit l) × (1 ≤ value_of 0 (front digit l))
unfolding value_of front digit
front-decimal [] h = absurd (false≢true h)
front-decimal (b ∷ l) h =
    let low : 49 ≤ b = leb-true 49 b (and_left _ _ h) in
    let high : b ≤ 57 = leb-true b 57 (and_right (leb 49 b) _ h) in
    let byte : 48 + (0 + (b - 48)) ≡ b = omega arith in
    let is = value-decimal (0 + (b - 48)) (front digit l) (omega arith) (front-every digit l) in
    rw (le-leb 48 b (omega arith), le-leb b 57 high) (is ∙ rw (decimal-one (0 + (b - 48)) (omega arith), byte), omega (arith, value_grows (0 + (b - 48)) (front digit l)))

pub number-sound : (most : ℕ) (l : List ℕ) → WhenRead (λ n r. (1 ≤ n) × (n ≤ most) × (decimal n ++ r ≡ l)) (read_number most l)
unfolding read_number
number-sound most l =
    when-holds (number_ahead l && leb (value_of 0 (front digit l)) most) (λ t.
    let (is, some) = front-decimal l (and_left _ _ t) in
    gotten (some, leb-true _ most (and_right (number_ahead l) _ t), rw is (front-back digit l)))
