-- The class sheet, by printing: pages of a head line and 40 body lines, one matched path on each body line, blank ones where
-- there are no more.
use Rattle.std.specs.Prelude.{ℕ, zero, suc, ◌+◌, ◌-◌, ◌*◌, ◌/◌, ◌≤◌, max, cond, List, [], ◌∷◌, ◌++◌, map, leb, length, get_or, take, replicate}
use Rattle.text.specs.Bytes.{joined}
use Rattle.text.specs.Decimal.{decimal}
use Rattle.model.specs.Folders.{count_from}
use Rattle.sheets.specs.Limits.{number_width, path_width, line_width, body_lines}

-- a folder's number, 0 where the path is no folder's, and the path's text
pub data Row : Type 0 where
  row : ℕ → List ℕ → Row

unfoldable pub spaces : ℕ → List ℕ
spaces n = replicate n 32

-- in so many places
unfoldable pub right_aligned : ℕ → List ℕ → List ℕ
right_aligned width text = spaces (width - length text) ++ text

unfoldable pub left_aligned : ℕ → List ℕ → List ℕ
left_aligned width text = text ++ spaces (width - length text)

-- "FILED"
unfoldable pub filed_word : List ℕ
filed_word = 70 ∷ 73 ∷ 76 ∷ 69 ∷ 68 ∷ []

-- the word, 63 spaces and the page's number
unfoldable pub head_line : ℕ → List ℕ
head_line number = filed_word ++ (spaces 63 ++ right_aligned number_width (decimal number))

unfoldable pub number_shown : ℕ → List ℕ
number_shown zero = []
number_shown (suc n) = decimal (suc n)

-- a path that is too long shows its first bytes and `~`
unfoldable pub path_shown : List ℕ → List ℕ
path_shown path = cond (leb (length path) path_width) path (take (path_width - 1) path ++ (126 ∷ []))

unfoldable pub body_line : Row → List ℕ
body_line (row number path) = right_aligned number_width (number_shown number) ++ (spaces 2 ++ left_aligned path_width (path_shown path))

-- body line j of the sheet, from 0: that of row j, all spaces where there is none
unfoldable pub body_at : List Row → ℕ → List ℕ
body_at rows j = get_or (map body_line rows) j (spaces line_width)

-- a line and its end
abbrev pub ended : List ℕ → List ℕ
ended line = line ++ (10 ∷ [])

-- the body lines j, j + 1, .. of a page
abbrev pub body_from : List Row → ℕ → ℕ → List ℕ
body_from rows j count = joined (map (λ i. ended (body_at rows i)) (count_from j count))

-- page k, from 0; its number is from 1
unfoldable pub page : List Row → ℕ → List ℕ
page rows k = ended (head_line (suc k)) ++ body_from rows (body_lines * k) body_lines

-- so many rows need so many pages: as few as can be, one at least
pub record Pages (rows pages : ℕ) : Type 0 where
  pub one : 1 ≤ pages
  pub enough : rows ≤ body_lines * pages
  pub fewest : (other : ℕ) → 1 ≤ other → rows ≤ body_lines * other → pages ≤ other

-- the same, computed
unfoldable pub pages_for : ℕ → ℕ
pages_for rows = max 1 ((rows + (body_lines - 1)) / body_lines)

abbrev pub pages_from : List Row → ℕ → ℕ → List ℕ
pages_from rows k count = joined (map (page rows) (count_from k count))

unfoldable pub sheet : List Row → List ℕ
sheet rows = pages_from rows 0 (pages_for (length rows))
