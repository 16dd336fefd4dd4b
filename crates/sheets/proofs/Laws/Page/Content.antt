-- What stands on the lines of a sheet: all rows in order and then blank lines, cut into pages; and that a row's line is no blank one.
use Prim.Native.Nat.{ℕ, zero, suc, ◌+◌, ◌-◌, ◌*◌, ◌≤◌, ◌<◌}
use native.Mathlib.Omega.{arith}
use mathlib.Core.Path.{◌≡◌, refl, sym, ◌∙◌, ap, ap₂}
use mathlib.Core.List.{List, [], ◌∷◌, ◌++◌, map, append_assoc, append_cancel_left}
use lib.Dec.{leb}
use lib.ListN.{length, get_or, take, drop, replicate, length-append, length-map, length-replicate, get_or-replicate}
use lib.Seq.{drop-cons, take_at, get_or-append-add}
use Rattle.text.specs.Bytes.{joined}
use Rattle.text.proofs.Laws.Tests.{cases}
use Rattle.notation.specs.Limits.{max_number}
use Rattle.model.specs.Folders.{count_from}
use Rattle.sheets.specs.Limits.{number_width, path_width, line_width, body_lines}
use Rattle.sheets.specs.Sheet.{Row, row, spaces, right_aligned, left_aligned, head_line, number_shown, path_shown, body_line, body_at, ended, body_from, page, pages_from, pages_for, sheet}
use Rattle.sheets.specs.ClassSheet.{OfRows}
use Rattle.sheets.proofs.Laws.Page.Aligned.{spaces-length, right-length, number-shown-short, body-width}
use Rattle.sheets.proofs.Laws.Page.Pages.{pages-are}

padding : {A : Type 0} (m : ℕ) (d : A) (j : ℕ) → get_or (replicate m d) j d ≡ d
padding zero d j = refl
padding (suc m) d zero = refl
padding (suc m) d (suc j) = padding m d j

-- a list filled up with what stands for its missing elements
padded-at : {A : Type 0} (l : List A) (m : ℕ) (d : A) (j : ℕ) → get_or (l ++ replicate m d) j d ≡ get_or l j d
padded-at [] m d j = padding m d j
padded-at (x ∷ l) m d zero = refl
padded-at (x ∷ l) m d (suc j) = padded-at l m d j

module _ (rows : List Row) where
  abbrev pages : ℕ
  pages = pages_for (length rows)

  body : List (List ℕ)
  body = map body_line rows ++ replicate (body_lines * pages - length rows) (spaces line_width)

  body-length : length body ≡ body_lines * pages
  unfolding body
  body-length =
      omega (
        arith,
        (pages-are (length rows)).enough,
        length-append (map body_line rows) (replicate (body_lines * pages - length rows) (spaces line_width)),
        length-map rows body_line,
        length-replicate (body_lines * pages - length rows) (spaces line_width),
      )

  line-is : (i : ℕ) → body_at rows i ≡ get_or body i (spaces line_width)
  unfolding body_at body
  line-is i = sym (padded-at (map body_line rows) (body_lines * pages - length rows) (spaces line_width) i)

  lines_are : (i n : ℕ) → i + n ≤ length body → body_from rows i n ≡ joined (map ended (take n (drop i body)))
  unfolding joined count_from
  lines_are i zero h = refl
  lines_are i (suc n) h =
      let here : i < length body = omega arith in
      rw (drop-cons body i (spaces line_width) here)
      (ap₂ (λ (l : List ℕ) (later : List ℕ). ended l ++ later) (line-is i) (lines_are (suc i) n (omega arith)))

  page-is : (k : ℕ) → suc k ≤ pages → page rows k ≡ joined (map ended (head_line (suc k) ∷ take body_lines (drop (body_lines * k) body)))
  unfolding page joined body_lines
  page-is k h = ap (λ (l : List ℕ). ended (head_line (suc k)) ++ l) (lines_are (40 * k) 40 (omega (arith, body-length)))

  pages-are-so : (k n : ℕ) → k + n ≤ pages → pages_from rows k n ≡ joined (map (λ j. joined (map ended (head_line (suc j) ∷ take body_lines (drop (body_lines * j) body)))) (count_from k n))
  unfolding joined count_from
  pages-are-so k zero h = refl
  pages-are-so k (suc n) h = ap₂ ◌++◌ (page-is k (omega arith)) (pages-are-so (suc k) n (omega arith))

  pub of-rows : OfRows rows
  unfolding sheet body
  of-rows = record {
    pages = pages;
    fewest = pages-are (length rows);
    body = body;
    body_is = refl;
    are = pages-are-so 0 pages (omega arith);
  }

-- the first two lines of a sheet
first-lines : (rows : List Row) (n : ℕ) → pages_for (length rows) ≡ suc n → (later : List ℕ) × (sheet rows ≡ ended (head_line 1) ++ (ended (body_at rows 0) ++ later))
unfolding sheet page joined count_from body_lines
first-lines rows n e =
    let own = body_from rows 1 39 in
    let others = pages_from rows 1 n in (
      own ++ others,
      rw e (append_assoc (ended (head_line 1)) (ended (body_at rows 0) ++ own) others ∙ ap (λ (l : List ℕ). ended (head_line 1) ++ l) (append_assoc (ended (body_at rows 0)) own others)),
    )

-- sheets that are the same begin with the same body line
same_first : (x y : List Row) → length (body_at x 0) ≡ line_width → length (body_at y 0) ≡ line_width → sheet x ≡ sheet y → body_at x 0 ≡ body_at y 0
same_first x y h k e =
    let (p, f) = first-lines x (pages_for (length x) - 1) (omega (arith, (pages-are (length x)).one)) in
    let (q, g) = first-lines y (pages_for (length y) - 1) (omega (arith, (pages-are (length y)).one)) in
    let same : ended (body_at x 0) ++ p ≡ ended (body_at y 0) ++ q = append_cancel_left (ended (head_line 1)) _ _ (sym f ∙ e ∙ g) in
    sym (take_at (body_at x 0) ((10 ∷ []) ++ p) line_width h)
    ∙ ap (take line_width) (sym (append_assoc (body_at x 0) (10 ∷ []) p) ∙ same ∙ append_assoc (body_at y 0) (10 ∷ []) q)
    ∙ take_at (body_at y 0) ((10 ∷ []) ++ q) line_width k

first-shown : (b : ℕ) (path : List ℕ) → get_or (left_aligned path_width (path_shown (b ∷ path))) 0 0 ≡ b
unfolding left_aligned path_shown path_width
first-shown b path = cases (leb (length (b ∷ path)) 66) (λ t. rw t) (λ f. rw f)

blank-at : (j : ℕ) → j < line_width → get_or (spaces line_width) j 0 ≡ 32
unfolding spaces
blank-at j h = get_or-replicate line_width j 32 0 h

-- a row's path stands after the number and two spaces
path-first : (n b : ℕ) (path : List ℕ) → n ≤ max_number → get_or (body_line (row n (b ∷ path))) 6 0 ≡ b
unfolding body_line spaces number_width
path-first n b path h =
    let number = right_aligned 4 (number_shown n) in
    let shown = left_aligned path_width (path_shown (b ∷ path)) in
    let six : 6 ≡ length number + 2 = omega (arith, right-length 4 (number_shown n) (number-shown-short n h)) in
    ap (λ (j : ℕ). get_or (number ++ (spaces 2 ++ shown)) j 0) six ∙ get_or-append-add number (spaces 2 ++ shown) 2 0 ∙ first
  where
    first : get_or (left_aligned path_width (path_shown (b ∷ path))) 0 0 ≡ b
    first = first-shown b path

pub some-row : (n b : ℕ) (path : List ℕ) (rows : List Row) → n ≤ max_number → (b ≡ 32 → ⊥) → sheet (row n (b ∷ path) ∷ rows) ≡ sheet [] → ⊥
unfolding body_at line_width number_width path_width
some-row n b path rows h k e =
    let same = same_first (row n (b ∷ path) ∷ rows) [] (body-width n (b ∷ path) h) (spaces-length line_width) e in
    k (sym (path-first n b path h) ∙ ap (λ (l : List ℕ). get_or l 6 0) same ∙ blank-byte)
  where
    blank-byte : get_or (spaces line_width) 6 0 ≡ 32
    blank-byte = blank-at 6 (omega arith)
