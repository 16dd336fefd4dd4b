-- As few pages as hold all rows, one at least: the computed count is that, and nothing else is.
use Prim.Native.Nat.{ℕ, ◌≤◌}
use native.Mathlib.Omega.{arith}
use mathlib.Core.Path.{◌≡◌, refl}
use Rattle.notation.specs.Limits.{max_paths}
use Rattle.sheets.specs.Limits.{body_lines, max_pages}
use Rattle.sheets.specs.Sheet.{Pages, pages_for}

pub pages-are : (rows : ℕ) → Pages rows (pages_for rows)
unfolding pages_for body_lines
pages-are rows = omega arith

pub pages-only : {rows k : ℕ} → Pages rows k → k ≡ pages_for rows
pages-only {rows} {k} h =
    let are = pages-are rows in
    omega (arith, are.fewest k h.one h.enough, h.fewest (pages_for rows) are.one are.enough)

pub pages-most : (rows : ℕ) → rows ≤ max_paths → pages_for rows ≤ max_pages
unfolding pages_for body_lines max_pages max_paths
pages-most rows h = omega arith

pub pages-none : pages_for 0 ≡ 1
unfolding pages_for body_lines
pages-none = refl
