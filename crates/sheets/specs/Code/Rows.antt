-- The tables from which the lines of a sheet are made: places of matched paths, and the number of each place's folder.
use Rattle.std.specs.Prelude.{ℕ, ◌≤◌, ◌<◌, ◌≡◌, List, map, length, get_or}
use Rattle.notation.specs.Limits.{max_paths}
use Rattle.stored.specs.HeldSet.{path_held}
use Rattle.sheets.specs.Sheet.{Row, row}
use Rattle.sheets.specs.SheetIn.{number_among}

-- of each place the number of the last of the first n folders whose first path is not after it
pub record Numbered (a : List ℕ) (n : ℕ) (numbers : List ℕ) : Type 0 where
  pub size : length numbers ≡ max_paths
  pub each : (p : ℕ) → p < max_paths → get_or numbers p 0 ≡ number_among a p n

-- the rows that such tables make
unfoldable pub table_row : List ℕ → List ℕ → ℕ → Row
table_row a numbers place = row (get_or numbers place 0) (path_held a (record { 0 = place }))

unfoldable pub table_rows : List ℕ → List ℕ → List ℕ → List Row
table_rows a places numbers = map (table_row a numbers) places

-- every place has a number
pub record InTables (places numbers : List ℕ) : Type 0 where
  pub few : length places ≤ max_paths
  pub size : length numbers ≡ max_paths
  pub inside : (j : ℕ) → j < length places → get_or places j 0 < max_paths
