-- A set's text, read from its bytes. The plain definition is the printing (Print); laws say that reading gives back what was printed, and
-- that what was read prints to what stood there.
use Rattle.std.specs.Prelude.{ℕ, not, cond, List, [], ◌∷◌, eqb}
use Rattle.text.specs.Lists.{non_empty}
use Rattle.text.specs.Read.{Read, fail, got, then_read, when, starts_with, read_word, read_name, read_number, read_many}
use Rattle.notation.specs.Limits.{max_number}
use Rattle.notation.specs.Sets.{Axis, child, descendant, Test, label, star, Step, step, Path, Folder, folder, FolderSet}
use Rattle.notation.specs.Print.{print_axis, folder_word, header, footer}

unfoldable pub read_axis : List ℕ → Read Axis
read_axis l =
    cond (starts_with (print_axis descendant) l) (then_read (read_word (print_axis descendant) l) (λ w r. got descendant r))
    (then_read (read_word (print_axis child) l) (λ w r. got child r))

unfoldable pub read_test : List ℕ → Read Test
read_test [] = fail
read_test (b ∷ l) = cond (eqb b 42) (got star l) (then_read (read_name (b ∷ l)) (λ n r. got (label n) r))

unfoldable pub read_step : List ℕ → Read Step
read_step l = then_read (read_axis l) (λ a r. then_read (read_test r) (λ t r₂. got (step a t) r₂))

-- as many steps as there are
abbrev pub read_steps : List ℕ → Read Path
read_steps l = read_many (starts_with (47 ∷ [])) read_step l

-- a path, after a space and in its brackets
unfoldable pub read_path : List ℕ → Read Path
read_path l =
    then_read (read_word (32 ∷ 40 ∷ []) l) (λ w r.
    then_read (read_steps r) (λ p r₂.
    when (non_empty p) (then_read (read_word (41 ∷ []) r₂) (λ w r₃. got p r₃))))

abbrev pub read_paths : List ℕ → Read (List Path)
read_paths l = read_many (starts_with (32 ∷ [])) read_path l

-- the paths of a line and its end
unfoldable pub read_line : List ℕ → Read (List Path)
read_line l = then_read (read_paths l) (λ ps r. when (non_empty ps) (then_read (read_word footer r) (λ w r₂. got ps r₂)))

unfoldable pub read_folder : List ℕ → Read Folder
read_folder l =
    then_read (read_word folder_word l) (λ w r.
    then_read (read_number max_number r) (λ n r₂.
    then_read (read_line r₂) (λ ps r₃. got (folder n ps) r₃)))

abbrev pub read_folders : List ℕ → Read FolderSet
read_folders l = read_many (starts_with (40 ∷ [])) read_folder l

-- the first line, the folders, the last line, and no byte more
unfoldable pub read_set : List ℕ → Read FolderSet
read_set l =
    then_read (read_word header l) (λ w r.
    then_read (read_folders r) (λ fs r₂.
    then_read (read_word footer r₂) (λ w r₃. when (not (non_empty r₃)) (got fs r₃))))
