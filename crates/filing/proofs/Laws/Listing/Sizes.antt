-- A listing of a set that fits the notation's limits has room in a listing's size: each line is no longer than the set's.
use Prim.Native.Nat.{ℕ, suc, ◌+◌, ◌*◌, ◌≤◌}
use native.Mathlib.Omega.{arith}
use mathlib.Core.Path.{◌≡◌}
use mathlib.Core.Bool.{Bool}
use mathlib.Core.List.{List, [], ◌∷◌, ◌++◌}
use lib.ListN.{length, length-append}
use Rattle.notation.specs.Limits.{max_set_bytes}
use Rattle.notation.specs.Sets.{Path, folder, FolderSet}
use Rattle.text.specs.Decimal.{decimal}
use Rattle.notation.specs.Print.{print_path, print_paths, folder_word, header, footer, print_folder, print_folders, print}
use Rattle.notation.proofs.Laws.Refused.Fitting.{Fitting}
use Rattle.model.specs.Limits.{max_depth, max_opens}
use Rattle.model.specs.Calls.{State}
use Rattle.text.proofs.Laws.Tests.{cases}
use Rattle.filing.specs.Limits.{max_moves_line, listing_size}
use Rattle.filing.specs.Listing.{filed_header, moves_word, matched_paths, line_of, lines_from, moves_line, listing}
use Rattle.text.proofs.Laws.Decimal.{tens, decimal-few}

line-length : (n : ℕ) (ps : List Path) → length (print_folder (folder n ps)) ≡ 8 + (length (decimal n) + (length (print_paths ps) + 2))
unfolding print_folder folder_word footer
line-length n ps = omega (arith, length-append (decimal n) (print_paths ps ++ footer), length-append (print_paths ps) footer)

line-most : (n : ℕ) (ps : List Path) → length (line_of n ps) ≤ length (print_folder (folder n ps))
unfolding line_of
line-most n [] = omega arith
line-most n (p ∷ ps) = omega arith

module _ (matched : ℕ → Bool) where
  paths-fewer : (place : ℕ) (ps : List Path) → length (print_paths (matched_paths matched place ps)) ≤ length (print_paths ps)
  unfolding matched_paths print_paths
  paths-fewer place [] = omega arith
  paths-fewer place (p ∷ ps) =
      let h = paths-fewer (suc place) ps in
      let all = length-append (print_path p) (41 ∷ print_paths ps) in
      let some = length-append (print_path p) (41 ∷ print_paths (matched_paths matched (suc place) ps)) in
      cases (matched place) (λ t. rw t (omega arith)) (λ f. rw f (omega arith))

  lines-fewer : (first : ℕ) (fs : FolderSet) → length (lines_from matched first fs) + 2 ≤ length (print_folders fs)
  unfolding lines_from print_folders footer
  lines-fewer first [] = omega arith
  lines-fewer first (folder n ps ∷ fs) =
      let qs = matched_paths matched first ps in
      omega (
        arith,
        lines-fewer (first + length ps) fs,
        length-append (line_of n qs) (lines_from matched (first + length ps) fs),
        length-append (print_folder (folder n ps)) (print_folders fs),
        line-most n qs,
        line-length n qs,
        line-length n ps,
        paths-fewer first ps,
      )

moves-short : (opens moves : ℕ) → opens ≤ max_opens → moves ≤ max_depth * opens → length (moves_line opens moves) ≤ max_moves_line
unfolding moves_line moves_word footer max_moves_line max_opens max_depth tens
moves-short opens moves o m =
    omega (
      arith,
      decimal-few 4 opens (omega arith),
      decimal-few 6 moves (omega arith),
      length-append (decimal opens) ((32 ∷ []) ++ (decimal moves ++ footer)),
      length-append (decimal moves) footer,
    )

print-length : (s : FolderSet) → length (print s) ≡ 9 + length (print_folders s)
unfolding print header
print-length s = omega arith

-- within the limit, with as many opens and moves as a run can have
pub listing-short : (s : FolderSet) → Fitting s → (m : State) → m.opens ≤ max_opens → m.moves ≤ max_depth * m.opens → length (listing s m) ≤ listing_size
unfolding listing filed_header footer listing_size max_set_bytes
listing-short s fit m o f =
    let lines = lines_from m.matched 0 s in
    let moves = moves_line m.opens m.moves in
    omega (
      arith,
      fit.bytes,
      print-length s,
      lines-fewer m.matched 0 s,
      moves-short m.opens m.moves o f,
      length-append lines (moves ++ footer),
      length-append moves footer,
    )
