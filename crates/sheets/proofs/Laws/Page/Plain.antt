-- Where no path has a byte 10, no line of the sheet has one.
use Prim.Native.Nat.{ℕ, zero, suc, ◌-◌, ◌*◌, ◌≤◌}
use native.Mathlib.Omega.{arith}
use mathlib.Core.Path.{◌≡◌, refl, ap}
use mathlib.Core.Bool.{Bool, true, not}
use mathlib.Core.Logic.{inl, inr}
use mathlib.Core.List.Memᴰ
use mathlib.Core.List.{List, [], ◌∷◌, ◌++◌, Memᴰ}
use lib.Dec.{leb, eqb}
use lib.ListN.{length, take}
use borrow.Author.Tests.{leb-true, leb-false, ne_eqb}
use Rattle.text.specs.Lists.{every}
use Rattle.text.specs.Names.{digit}
use Rattle.text.specs.Decimal.{decimal}
use Rattle.text.proofs.Laws.Tests.{cases, clash, and_left, both_true}
use Rattle.text.proofs.Laws.Lists.{every-head, every_rest, every_append, every-weaker}
use Rattle.text.proofs.Laws.Decimal.{decimal-digits}
use Rattle.notation.specs.Limits.{max_number}
use Rattle.sheets.specs.Limits.{number_width, path_width, line_width, body_lines}
use Rattle.sheets.specs.Sheet.{Row, row, spaces, right_aligned, left_aligned, filed_word, head_line, number_shown, path_shown, body_line, pages_for, sheet}
use Rattle.sheets.specs.Lines.{PlainLines}
use Rattle.sheets.proofs.Laws.Page.Aligned.{number_of_row, path_of_row, spaces-length, shown-fits, shown-cut, head-width}
use Rattle.sheets.proofs.Laws.Page.Parted.{LinesOf, sheet-lines}
use Rattle.sheets.proofs.Laws.Page.Lines.{row-width}

-- a byte that ends no line
abbrev pub not_end : ℕ → Bool
not_end b = not (eqb b 10)

-- text with no byte 10
abbrev Plain : List ℕ → Type 0
Plain text = every not_end text ≡ true

no_end : (l : List ℕ) → Plain l → Memᴰ 10 l → ⊥
unfolding every
no_end [] h m = Memᴰ.not-nil m
no_end (b ∷ l) h m = elim (Memᴰ.cases_cons m) [ inl e ↦ clash (every-head not_end b l h) (rw (← e)) | inr t ↦ no_end l (every_rest not_end b l h) t ]

spaces-plain : (n : ℕ) → Plain (spaces n)
unfolding every spaces
spaces-plain zero = refl
spaces-plain (suc n) = spaces-plain n

digit-plain : (b : ℕ) → digit b ≡ true → not_end b ≡ true
unfolding digit
digit-plain b h = ap not (ne_eqb b 10 (λ e. omega (arith, leb-true 48 b (and_left _ _ h))))

decimal-plain : (n : ℕ) → Plain (decimal n)
decimal-plain n = every-weaker digit not_end digit-plain (decimal n) (decimal-digits n)

right-plain : (w : ℕ) (t : List ℕ) → Plain t → Plain (right_aligned w t)
unfolding right_aligned
right-plain w t h = every_append not_end (spaces (w - length t)) t (spaces-plain (w - length t)) h

left-plain : (w : ℕ) (t : List ℕ) → Plain t → Plain (left_aligned w t)
unfolding left_aligned
left-plain w t h = every_append not_end t (spaces (w - length t)) h (spaces-plain (w - length t))

number-plain : (n : ℕ) → Plain (number_shown n)
unfolding number_shown every
number-plain zero = refl
number-plain (suc n) = decimal-plain (suc n)

take-plain : (n : ℕ) (p : List ℕ) → Plain p → Plain (take n p)
unfolding every
take-plain zero p h = refl
take-plain (suc n) [] h = refl
take-plain (suc n) (b ∷ p) h = both_true (every-head not_end b p h) (take-plain n p (every_rest not_end b p h))

shown-plain : (p : List ℕ) → Plain p → Plain (path_shown p)
unfolding every
shown-plain p h =
    cases (leb (length p) path_width)
    (λ t. rw (shown-fits p (leb-true (length p) path_width t)) h)
    (λ f. rw (shown-cut p (leb-false (length p) path_width f)) (every_append not_end (take (path_width - 1) p) (126 ∷ []) (take-plain (path_width - 1) p h) refl))

row_plain : (r : Row) → Plain (path_of_row r) → Plain (body_line r)
unfolding body_line
row_plain (row n p) h =
    let number = right_aligned number_width (number_shown n) in
    let path = left_aligned path_width (path_shown p) in
    every_append not_end number (spaces 2 ++ path) (right-plain number_width (number_shown n) (number-plain n))
    (every_append not_end (spaces 2) path (spaces-plain 2) (left-plain path_width (path_shown p) (shown-plain p h)))

head_plain : (n : ℕ) → Plain (head_line n)
unfolding head_line filed_word every
head_plain n =
    let number = right_aligned number_width (decimal n) in
    every_append not_end (spaces 63) number (spaces-plain 63) (right-plain number_width (decimal n) (decimal-plain n))

module _ (rows : List Row) (small : (r : Row) → Memᴰ r rows → number_of_row r ≤ max_number) (plain : (r : Row) → Memᴰ r rows → every not_end (path_of_row r) ≡ true) where
  wide-plain : pages_for (length rows) ≤ max_number → LinesOf (λ l. (length l ≡ line_width) × Plain l) (pages_for (length rows) * suc body_lines) (sheet rows)
  wide-plain few =
      sheet-lines (λ l. (length l ≡ line_width) × Plain l) (spaces-length line_width, spaces-plain line_width) rows
      (λ r m. (row-width r (small r m), row_plain r (plain r m)))
      (λ k h. (head-width (suc k) (omega arith), head_plain (suc k)))

  pub plain_lines : pages_for (length rows) ≤ max_number → PlainLines (pages_for (length rows) * suc body_lines) (sheet rows)
  plain_lines few =
      let parted = wide-plain few in
      record {
        in_lines = record { lines = parted.lines; many = parted.many; wide = λ l m. (parted.each l m).0; are = parted.are };
        plain = λ l m. no_end l (parted.each l m).1;
      }
