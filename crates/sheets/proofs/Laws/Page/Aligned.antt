-- Widths: aligned text takes the places that it is given, and a line of a sheet takes all of a line's.
use Prim.Native.Nat.{ℕ, zero, suc, ◌+◌, ◌-◌, ◌/◌, ◌%◌, ◌≤◌, ◌<◌}
use native.Mathlib.Omega.{arith}
use mathlib.Core.Path.{◌≡◌, refl, ap}
use mathlib.Core.List.{List, [], ◌∷◌, ◌++◌, append-nil}
use lib.ListN.{length, take, length-append, length-replicate}
use lib.Seq.{length-take-le}
use lib.Dec.{leb}
use borrow.Author.Tests.{le-leb, lt-leb, leb-true, leb-false}
use Rattle.text.specs.Decimal.{decimal}
use Rattle.text.proofs.Laws.Tests.{cases}
use Rattle.text.proofs.Laws.Decimal.{tens, decimal-one, decimal_step, decimal-few}
use Rattle.notation.specs.Limits.{max_number}
use Rattle.text.proofs.Laws.Output.{pieces}
use Rattle.sheets.specs.Limits.{number_width, path_width, line_width}
use Rattle.sheets.specs.Sheet.{Row, row, spaces, right_aligned, left_aligned, filed_word, head_line, number_shown, path_shown, body_line}

-- the parts of a row
abbrev pub number_of_row : Row → ℕ
number_of_row (row n path) = n

abbrev pub path_of_row : Row → List ℕ
path_of_row (row n path) = path

pub spaces-length : (n : ℕ) → length (spaces n) ≡ n
unfolding spaces
spaces-length n = length-replicate n 32

pub right-length : (w : ℕ) (t : List ℕ) → length t ≤ w → length (right_aligned w t) ≡ w
unfolding right_aligned
right-length w t h = omega (arith, length-append (spaces (w - length t)) t, spaces-length (w - length t))

pub left-length : (w : ℕ) (t : List ℕ) → length t ≤ w → length (left_aligned w t) ≡ w
unfolding left_aligned
left-length w t h = omega (arith, length-append t (spaces (w - length t)), spaces-length (w - length t))

pub number_short : (n : ℕ) → n ≤ max_number → length (decimal n) ≤ number_width
unfolding max_number number_width tens
number_short n h = decimal-few 3 n (omega arith)

pub number-shown-short : (n : ℕ) → n ≤ max_number → length (number_shown n) ≤ number_width
unfolding number_shown
number-shown-short zero h = omega arith
number-shown-short (suc n) h = number_short (suc n) h

-- a path that fits is shown whole, and of another its first bytes
pub shown-fits : (p : List ℕ) → length p ≤ path_width → path_shown p ≡ p
unfolding path_shown
shown-fits p h = rw (le-leb (length p) path_width h)

pub shown-cut : (p : List ℕ) → path_width < length p → path_shown p ≡ take (path_width - 1) p ++ (126 ∷ [])
unfolding path_shown
shown-cut p h = rw (lt-leb (length p) path_width h)

cut-length : (p : List ℕ) → path_width < length p → length (take (path_width - 1) p ++ (126 ∷ [])) ≡ path_width
unfolding path_width
cut-length p h = omega (arith, length-append (take 65 p) (126 ∷ []), length-take-le 65 p (omega arith))

pub shown-short : (p : List ℕ) → length (path_shown p) ≤ path_width
shown-short p =
    cases (leb (length p) path_width)
    (λ t.
    let h = leb-true (length p) path_width t in
    rw (shown-fits p h) h)
    (λ f.
    let h = leb-false (length p) path_width f in
    rw (shown-cut p h) (omega (arith, cut-length p h)))

pub body-width : (n : ℕ) (p : List ℕ) → n ≤ max_number → length (body_line (row n p)) ≡ line_width
unfolding body_line line_width
body-width n p h =
    let number = right_aligned number_width (number_shown n) in
    let path = left_aligned path_width (path_shown p) in
    omega (
      arith,
      length-append number (spaces 2 ++ path),
      length-append (spaces 2) path,
      spaces-length 2,
      right-length number_width (number_shown n) (number-shown-short n h),
      left-length path_width (path_shown p) (shown-short p),
    )

pub head-width : (n : ℕ) → n ≤ max_number → length (head_line n) ≡ line_width
unfolding head_line filed_word line_width path_width
head-width n h =
    let number = right_aligned number_width (decimal n) in
    omega (arith, length-append (spaces 63) number, spaces-length 63, right-length number_width (decimal n) (number_short n h))

-- a number of two digits or more has as many as the tens that it holds, and one more
pub decimal-length : (k n : ℕ) → tens (suc k) ≤ n → n < tens (suc (suc k)) → length (decimal n) ≡ suc (suc k)
unfolding tens
decimal-length zero n low high =
    let whole = length-append (decimal (n / 10)) ((48 + n % 10) ∷ []) in
    omega (arith, whole, ap length (decimal_step n (omega arith)), ap length (decimal-one (n / 10) (omega arith)))
decimal-length (suc k) n low high =
    let whole = length-append (decimal (n / 10)) ((48 + n % 10) ∷ []) in
    omega (arith, whole, ap length (decimal_step n (omega arith)), decimal-length k (n / 10) (omega arith) (omega arith))

-- a number has a digit more than its tens, and one at least
digit-more : (n : ℕ) → 10 ≤ n → length (decimal n) ≡ suc (length (decimal (n / 10)))
digit-more n h = omega (arith, length-append (decimal (n / 10)) ((48 + n % 10) ∷ []), ap length (decimal_step n h))

digit-some : (n : ℕ) → 1 ≤ length (decimal n)
digit-some n =
    cases (leb 10 n)
    (λ t. omega (arith, digit-more n (leb-true 10 n t)))
    (λ f. omega (arith, ap length (decimal-one n (leb-false 10 n f))))

-- so one of four digits and more leaves none of four places
pub decimal-wide : (n : ℕ) → 1000 ≤ n → number_width - length (decimal n) ≡ 0
unfolding number_width
decimal-wide n h =
    omega (arith, digit-more n (omega arith), digit-more (n / 10) (omega arith), digit-more (n / 10 / 10) (omega arith), digit-some (n / 10 / 10 / 10))

pub right-none : right_aligned number_width (number_shown 0) ≡ spaces 4
unfolding right_aligned number_width number_shown
right-none = append-nil (spaces 4)

pub right-some : (n : ℕ) → (n ≡ 0 → ⊥) → right_aligned number_width (number_shown n) ≡ right_aligned number_width (decimal n)
unfolding number_shown
right-some zero h = absurd (h refl)
right-some (suc n) h = refl

pub left-fits : (p : List ℕ) → length p ≤ path_width → left_aligned path_width (path_shown p) ≡ p ++ spaces (path_width - length p)
unfolding left_aligned
left-fits p h = rw (shown-fits p h)

pub left_cut : (p : List ℕ) → path_width < length p → left_aligned path_width (path_shown p) ≡ take (path_width - 1) p ++ (126 ∷ [])
unfolding left_aligned spaces
left_cut p h =
    let cut = take (path_width - 1) p ++ (126 ∷ []) in
    let none : path_width - length cut ≡ 0 = omega (arith, cut-length p h) in
    rw (shown-cut p h, none) (append-nil cut)

pub ruleset lines = (pieces, right-none, right-some, left-fits, left_cut)
