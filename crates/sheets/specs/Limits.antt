-- The measures of a class sheet, once. A proof that needs the number says `unfolding` of its name.
use Rattle.std.specs.Prelude.{ℕ, suc, ◌+◌, ◌*◌, ◌≤◌}
use Rattle.std.proofs.Common.{arith}
use Rattle.filing.specs.Limits.{max_refused_line}

-- places of a folder's or a page's number
unfoldable pub number_width : ℕ
number_width = 4

-- places of a path
unfoldable pub path_width : ℕ
path_width = 66

-- bytes of a line, its end aside: a number, two spaces and a path
unfoldable pub line_width : ℕ
unfolding number_width path_width
line_width = number_width + (2 + path_width)

-- body lines of a page
unfoldable pub body_lines : ℕ
body_lines = 40

-- bytes of a page: a head line and its body lines, each with its end
unfoldable pub page_size : ℕ
unfolding body_lines line_width number_width path_width
page_size = suc body_lines * suc line_width

-- pages that 128 paths take
unfoldable pub max_pages : ℕ
max_pages = 4

-- bytes of the lent buffer: 11,972
unfoldable pub sheet_size : ℕ
unfolding max_pages page_size body_lines line_width number_width path_width
sheet_size = max_pages * page_size

-- the line of a refusal has room there
pub line-within : max_refused_line ≤ sheet_size
unfolding sheet_size max_pages page_size body_lines line_width number_width path_width
line-within = omega arith
