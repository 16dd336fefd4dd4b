-- What the filing program prints, in the notation of a folder set: the matched folders in set order, each with
-- its matched paths in order, then accepted opens and failure moves; or the refusal's number alone.
use Rattle.std.specs.Prelude.{ℕ, suc, ◌+◌, Bool, cond, List, [], ◌∷◌, ◌++◌, length}
use Rattle.notation.specs.Sets.{Path, folder, FolderSet}
use Rattle.text.specs.Decimal.{decimal}
use Rattle.notation.specs.Print.{footer, print_folder}
use Rattle.model.specs.Calls.{State}

-- "(filed" and the line's end
unfoldable pub filed_header : List ℕ
filed_header = 40 ∷ 102 ∷ 105 ∷ 108 ∷ 101 ∷ 100 ∷ 10 ∷ []

-- "(moves "
unfoldable pub moves_word : List ℕ
moves_word = 40 ∷ 109 ∷ 111 ∷ 118 ∷ 101 ∷ 115 ∷ 32 ∷ []

-- "(refused "
unfoldable pub refused_word : List ℕ
refused_word = 40 ∷ 114 ∷ 101 ∷ 102 ∷ 117 ∷ 115 ∷ 101 ∷ 100 ∷ 32 ∷ []

-- the paths whose place is matched; `place` is that of the first
unfoldable pub matched_paths : (ℕ → Bool) → ℕ → List Path → List Path
matched_paths matched place [] = []
matched_paths matched place (p ∷ ps) = cond (matched place) (p ∷ []) [] ++ matched_paths matched (suc place) ps

-- a folder's line, none where it has no paths
unfoldable pub line_of : ℕ → List Path → List ℕ
line_of n [] = []
line_of n (p ∷ ps) = print_folder (folder n (p ∷ ps))

-- each folder with its matched paths; `first` is the place of the first path
unfoldable pub lines_from : (ℕ → Bool) → ℕ → FolderSet → List ℕ
lines_from matched first [] = []
lines_from matched first (folder n ps ∷ fs) = line_of n (matched_paths matched first ps) ++ lines_from matched (first + length ps) fs

-- "(moves O F)": accepted opens and failure moves
unfoldable pub moves_line : ℕ → ℕ → List ℕ
moves_line opens moves = moves_word ++ (decimal opens ++ ((32 ∷ []) ++ (decimal moves ++ footer)))

unfoldable pub listing : FolderSet → State → List ℕ
listing set m = filed_header ++ (lines_from m.matched 0 set ++ (moves_line m.opens m.moves ++ footer))

-- "(refused N)"
unfoldable pub refused_line : ℕ → List ℕ
refused_line n = refused_word ++ (decimal n ++ footer)
