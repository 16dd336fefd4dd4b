-- The text of a folder set. The format is defined by printing: a text is of the form exactly when some well-formed set prints to it.
use Rattle.std.specs.Prelude.{ℕ, List, [], ◌∷◌, ◌++◌}
use Rattle.text.specs.Decimal.{decimal}
use Rattle.notation.specs.Sets.{Axis, child, descendant, Test, label, star, Step, step, Path, Folder, folder, FolderSet}

abbrev pub print_axis : Axis → List ℕ
print_axis child = 47 ∷ []
print_axis descendant = 47 ∷ 47 ∷ []

abbrev pub print_test : Test → List ℕ
print_test (label n) = n
print_test star = 42 ∷ []

-- `/` or `//`, then the label or `*`
unfoldable pub print_step : Step → List ℕ
print_step (step a t) = print_axis a ++ print_test t

unfoldable pub print_path : Path → List ℕ
print_path [] = []
print_path (s ∷ p) = print_step s ++ print_path p

-- each path in brackets, after a space
unfoldable pub print_paths : List Path → List ℕ
print_paths [] = []
print_paths (p ∷ ps) = 32 ∷ 40 ∷ (print_path p ++ 41 ∷ print_paths ps)

-- "(folder "
unfoldable pub folder_word : List ℕ
folder_word = 40 ∷ 102 ∷ 111 ∷ 108 ∷ 100 ∷ 101 ∷ 114 ∷ 32 ∷ []

-- "(folders" and the line's end
unfoldable pub header : List ℕ
header = 40 ∷ 102 ∷ 111 ∷ 108 ∷ 100 ∷ 101 ∷ 114 ∷ 115 ∷ 10 ∷ []

-- ")" and the line's end
unfoldable pub footer : List ℕ
footer = 41 ∷ 10 ∷ []

-- one line: "(folder N (P) (P))"
unfoldable pub print_folder : Folder → List ℕ
print_folder (folder n ps) = folder_word ++ (decimal n ++ (print_paths ps ++ footer))

unfoldable pub print_folders : FolderSet → List ℕ
print_folders [] = footer
print_folders (f ∷ fs) = print_folder f ++ print_folders fs

unfoldable pub print : FolderSet → List ℕ
print s = header ++ print_folders s
