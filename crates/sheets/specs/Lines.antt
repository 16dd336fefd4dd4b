-- Bytes that are lines of 72 bytes, each ended by byte 10.
use Rattle.std.specs.Prelude.{ℕ, ◌≡◌, List, map, length}
use mathlib.Core.List.{Memᴰ}
use Rattle.text.specs.Bytes.{joined}
use Rattle.sheets.specs.Limits.{line_width}
use Rattle.sheets.specs.Sheet.{ended}

pub record InLines (count : ℕ) (bytes : List ℕ) : Type 0 where
  pub lines : List (List ℕ)
  pub many : length lines ≡ count
  pub wide : (l : List ℕ) → Memᴰ l lines → length l ≡ line_width
  pub are : joined (map ended lines) ≡ bytes

-- the same, and no line has a byte 10 in it
pub record PlainLines (count : ℕ) (bytes : List ℕ) : Type 0 where
  pub in_lines : InLines count bytes
  pub plain : (l : List ℕ) → Memᴰ l in_lines.lines → Memᴰ 10 l → ⊥
