-- Every line of a sheet has its 72 bytes and byte 10, so that a sheet's length goes by its pages.
use Prim.Native.Nat.{ℕ, zero, suc, ◌*◌, ◌≤◌, ◌<◌}
use native.Mathlib.Omega.{arith}
use native.Mathlib.Nat.{not-suc-le-zero, le_of_suc-le-suc}
use mathlib.Core.Path.{◌≡◌, refl, ap, ◌∙◌}
use mathlib.Core.List.{List, [], ◌∷◌, ◌++◌, map, append-nil, Memᴰ}
use lib.ListN.{length, get_or, replicate, length-append, length-map, get_or-eq_default}
use Rattle.text.specs.Bytes.{joined}
use Rattle.notation.specs.Limits.{max_number, max_paths}
use Rattle.model.specs.Folders.{count_from}
use Rattle.sheets.specs.Limits.{number_width, path_width, line_width, body_lines, page_size, max_pages, sheet_size}
use Rattle.sheets.specs.Sheet.{Row, row, spaces, head_line, body_line, body_at, ended, body_from, page, pages_for, sheet}
use Rattle.sheets.specs.Lines.{InLines}
use Rattle.sheets.proofs.Laws.Page.Aligned.{number_of_row, spaces-length, body-width, head-width}
use Rattle.sheets.proofs.Laws.Page.Pages.{pages-none, pages-most}
use Rattle.sheets.proofs.Laws.Page.Parted.{sheet-lines}

-- a body line that has a row, and one that has none
pub body_is-is : (rows : List Row) (j : ℕ) (d : Row) → j < length rows → body_at rows j ≡ body_line (get_or rows j d)
unfolding body_at
body_is-is [] j d h = absurd (not-suc-le-zero h)
body_is-is (r ∷ rows) zero d h = refl
body_is-is (r ∷ rows) (suc j) d h = body_is-is rows j d (le_of_suc-le-suc h)

pub body-none : (rows : List Row) (j : ℕ) → length rows ≤ j → body_at rows j ≡ spaces line_width
unfolding body_at
body-none rows j h = get_or-eq_default (map body_line rows) (spaces line_width) (rw (length-map rows body_line) h)

pub row-width : (r : Row) → number_of_row r ≤ max_number → length (body_line r) ≡ line_width
row-width (row n p) h = body-width n p h

ended-length : (ls : List (List ℕ)) → ((l : List ℕ) → Memᴰ l ls → length l ≡ line_width) → length (joined (map ended ls)) ≡ length ls * suc line_width
unfolding joined
ended-length [] h = omega arith
ended-length (l ∷ ls) h =
    omega (
      arith,
      length-append (ended l) (joined (map ended ls)),
      length-append l (10 ∷ []),
      h l (Memᴰ.head refl),
      ended-length ls (λ k m. h k (Memᴰ.tail m)),
    )

pub lines-length : {count : ℕ} {bytes : List ℕ} → InLines count bytes → length bytes ≡ count * suc line_width
lines-length h = rw (← h.are, ← h.many) (ended-length h.lines h.wide)

module _ (rows : List Row) (small : (r : Row) → Memᴰ r rows → number_of_row r ≤ max_number) where
  pub in_lines-is : pages_for (length rows) ≤ max_number → InLines (pages_for (length rows) * suc body_lines) (sheet rows)
  in_lines-is few =
      let parted = sheet-lines (λ l. length l ≡ line_width) (spaces-length line_width) rows (λ r m. row-width r (small r m)) (λ k h. head-width (suc k) (omega arith)) in
      record { lines = parted.lines; many = parted.many; wide = parted.each; are = parted.are }

  pub sheet-length : pages_for (length rows) ≤ max_number → length (sheet rows) ≡ pages_for (length rows) * page_size
  unfolding page_size body_lines line_width number_width path_width
  sheet-length few = omega (arith, lines-length (in_lines-is few))

  pub sheet-most : length rows ≤ max_paths → length (sheet rows) ≤ sheet_size
  unfolding sheet_size max_pages max_number page_size body_lines line_width number_width path_width
  sheet-most few = omega (arith, pages-most (length rows) few, sheet-length (omega (arith, pages-most (length rows) few)))

blank-body : (j n : ℕ) → body_from [] j n ≡ joined (replicate n (ended (spaces line_width)))
unfolding joined count_from body_at
blank-body j zero = refl
blank-body j (suc n) = ap (λ (l : List ℕ). ended (spaces line_width) ++ l) (blank-body (suc j) n)

-- where nothing is matched, one page of blank body lines
pub sheet-blank : sheet [] ≡ ended (head_line 1) ++ joined (replicate body_lines (ended (spaces line_width)))
unfolding sheet joined count_from page
sheet-blank = rw pages-none (append-nil (page [] 0) ∙ ap (λ (l : List ℕ). ended (head_line 1) ++ l) (blank-body (body_lines * 0) body_lines))
