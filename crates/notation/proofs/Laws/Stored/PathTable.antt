-- The path table of a set: entry i has the count of steps before path i, its own count of steps, and where its text stands.
use Prim.Native.Nat.{ℕ, zero, suc, ◌+◌, ◌≤◌, ◌<◌}
use mathlib.Core.Path.{◌≡◌, refl, ap}
use mathlib.Core.List.{List, [], ◌∷◌, ◌++◌}
use native.Mathlib.Nat.{add-zero, add_assoc, not-suc-le-zero, le_of_suc-le-suc}
use native.Mathlib.Omega.{arith}
use lib.ListN.{length, get_or, take, length-append}
use Rattle.notation.specs.Sets.{Path, folder, FolderSet}
use Rattle.notation.specs.Form.{paths_of, steps_of}
use Rattle.notation.specs.Print.{print_path, print_paths, print_folder, print_folders, print}
use Rattle.notation.specs.Layout.{path_size, path_entry, path_table, after_number, set_paths}
use Rattle.notation.proofs.Laws.Stored.Stands.{Stands}
use Rattle.notation.proofs.Laws.Stored.Placed.{path-in, paths-past, line-paths, lines-past, lines-in}
use Rattle.notation.proofs.Laws.Stored.Entries.{OfWidth, none, more}

-- the entries of some paths; `first` steps stand before them
pub data PathRows (text : List ℕ) : ℕ → List Path → List (List ℕ) → Type 0 where
  empty : {first : ℕ} → PathRows text first [] []
  row : {first : ℕ} {p : Path} {ps : List Path} {es : List (List ℕ)} (at : ℕ) → Stands at (print_path p) text → PathRows text (first + length p) ps es → PathRows text first (p ∷ ps) (path_entry first (length p) at (length (print_path p)) ∷ es)

-- the entry of one path
pub record PathRow (text : List ℕ) (first : ℕ) (p : Path) (e : List ℕ) : Type 0 where
  pub at : ℕ
  pub stands : Stands at (print_path p) text
  pub is : e ≡ path_entry first (length p) at (length (print_path p))

-- the count of steps before path i
abbrev pub steps_before : List Path → ℕ → ℕ
steps_before ps i = length (steps_of (take i ps))

pub rows-width : {text : List ℕ} {first : ℕ} {ps : List Path} {es : List (List ℕ)} → PathRows text first ps es → OfWidth path_size es
unfolding path_size
rows-width empty = none
rows-width (row at s r) = more refl (rows-width r)

pub rows-count : {text : List ℕ} {first : ℕ} {ps : List Path} {es : List (List ℕ)} → PathRows text first ps es → length es ≡ length ps
rows-count empty = refl
rows-count (row at s r) = ap suc (rows-count r)

pub rows_at : {text : List ℕ} {first : ℕ} {ps : List Path} {es : List (List ℕ)} → PathRows text first ps es → (i : ℕ) → i < length ps
    → PathRow text (first + steps_before ps i) (get_or ps i []) (get_or es i [])
unfolding steps_of
rows_at empty i h = absurd (not-suc-le-zero h)
rows_at {first} (row {p} at s r) zero h = record { at = at; stands = s; is = rw add-zero }
rows_at {first} (row {p} {ps} at s r) (suc i) h =
    rw (length-append p (steps_of (take i ps)), ← add_assoc first (length p) (steps_before ps i)) (rows_at r i (le_of_suc-le-suc h))

rows_append : {text : List ℕ} {first : ℕ} {ps qs : List Path} {es fs : List (List ℕ)} → PathRows text first ps es → PathRows text (first + length (steps_of ps)) qs fs → PathRows text first (ps ++ qs) (es ++ fs)
unfolding steps_of
rows_append {text} {first} empty t = rw (← add-zero first) (t)
rows_append {text} {first} {qs = qs} {fs = fs} (row {p} {ps} at s r) t =
    let u : PathRows text (first + length p + length (steps_of ps)) qs fs = rw (add_assoc, ← length-append p (steps_of ps)) t in
    row at s (rows_append r u)

-- the paths of a line
line-rows : {text : List ℕ} (at first : ℕ) (ps : List Path) → Stands at (print_paths ps) text → PathRows text first ps (path_table at first ps)
unfolding path_table
line-rows at first [] s = empty
line-rows at first (p ∷ ps) s =
    row (at + 2) (path-in at p ps s)
    (line-rows (at + (length (print_path p) + 3)) (first + length p) ps (paths-past at p ps s))

lines_rows : {text : List ℕ} (at first : ℕ) (fs : FolderSet) → Stands at (print_folders fs) text → PathRows text first (paths_of fs) (set_paths at first fs)
unfolding paths_of set_paths
lines_rows at first [] s = empty
lines_rows at first (folder n ps ∷ fs) s =
    rows_append (line-rows (after_number at n) first ps (line-paths at n ps fs s))
    (lines_rows (at + length (print_folder (folder n ps))) (first + length (steps_of ps)) fs (lines-past at (folder n ps) fs s))

-- the path table of a set
pub path-rows : (s : FolderSet) → PathRows (print s) 0 (paths_of s) (set_paths 9 0 s)
path-rows s = lines_rows 9 0 s (lines-in s)

-- the steps of the first i paths, and path i with them
pub steps-through : (ps : List Path) (i : ℕ) → i < length ps → steps_before ps i + length (get_or ps i []) ≤ length (steps_of ps)
unfolding steps_of
steps-through [] i h = absurd (not-suc-le-zero h)
steps-through (p ∷ ps) zero h = omega (arith, length-append p (steps_of ps))
steps-through (p ∷ ps) (suc i) h =
    omega (arith, steps-through ps i (le_of_suc-le-suc h), length-append p (steps_of (take i ps)), length-append p (steps_of ps))
