-- Folders and sets are read back as they were printed, and what was read prints to what stood there. So two well-formed sets with one
-- text are one set.
use Prim.Native.Nat.{ℕ}
use mathlib.Core.Path.{◌≡◌, refl, sym, ap, ◌∙◌}
use mathlib.Core.Bool.{true, not, false≢true}
use mathlib.Core.List.{List, [], ◌∷◌, ◌++◌, append_assoc, append-nil}
use lib.Dec.{leb}
use borrow.Author.Tests.{le-leb, leb-true}
use Rattle.text.specs.Lists.{non_empty}
use Rattle.text.specs.Names.{digit, within}
use Rattle.text.specs.Decimal.{decimal}
use Rattle.text.specs.Read.{got, then_read, starts_with, print_many}
use Rattle.notation.specs.Limits.{max_number}
use Rattle.notation.specs.Sets.{Path, Folder, folder, FolderSet}
use Rattle.notation.specs.Print.{print_paths, folder_word, header, footer, print_folder, print_folders, print}
use Rattle.notation.specs.Form.{formed_folder, formed, OfForm}
use Rattle.notation.specs.Code.Reader.{read_folder, read_folders, read_set}
use Rattle.text.proofs.Laws.Tests.{both, both_true}
use Rattle.text.proofs.Laws.Fronts.{stops}
use Rattle.text.proofs.Laws.Reads.{WhenRead, gotten, then-holds, when-holds, word_back, word_sound}
use Rattle.text.proofs.Laws.ReadMany.{Begins, Back, Sound, many-sound, many-back, many_more}
use Rattle.text.proofs.Laws.ReadNumber.{number-back, number-sound}
use Rattle.notation.proofs.Laws.Reading.Paths.{line-sound, line-back}

folder-then : (n : ℕ) (ps : List Path) (r : List ℕ) → print_folder (folder n ps) ++ r ≡ folder_word ++ (decimal n ++ (print_paths ps ++ (footer ++ r)))
unfolding print_folder
folder-then n ps r = simp append_assoc

pub folder-sound : (l : List ℕ) → WhenRead (λ f r. (formed_folder f ≡ true) × (print_folder f ++ r ≡ l)) (read_folder l)
unfolding read_folder formed_folder
folder-sound l =
    then-holds (word_sound folder_word l) (λ w r first.
    then-holds (number-sound max_number r) (λ n r₂ (low, high, number).
    then-holds (line-sound r₂) (λ ps r₃ (some, good, line).
    gotten (both_true (both_true (le-leb 1 n low) (le-leb n max_number high)) (both_true some good), rw (folder-then n ps r₃, line, number) first))))

folder-good : Sound (starts_with (40 ∷ [])) read_folder print_folder formed_folder
folder-good = record { sound = λ l t. folder-sound l }

folders-many : (fs : FolderSet) → print_folders fs ≡ print_many print_folder fs ++ footer
unfolding print_folders print_many
folders-many [] = refl
folders-many (f ∷ fs) = rw (folders-many fs) (sym (append_assoc (print_folder f) (print_many print_folder fs) footer))

-- after a number comes no digit
number-ends : (ps : List Path) (r : List ℕ) → stops digit (print_paths ps ++ (footer ++ r)) ≡ true
unfolding digit print_paths footer
number-ends [] r = refl
number-ends (p ∷ ps) r = refl

folder-back : (f : Folder) (r : List ℕ) → formed_folder f ≡ true → read_folder (print_folder f ++ r) ≡ got f r
unfolding read_folder formed_folder
folder-back (folder n ps) r h =
    let (number, paths) = both (within 1 max_number n) _ h in
    let (low, high) = both (leb 1 n) _ number in
    let (some, good) = both (non_empty ps) _ paths in
    let line : List ℕ = print_paths ps ++ (footer ++ r) in
    rw (
      folder-then n ps r,
      word_back folder_word (decimal n ++ line),
      number-back max_number n line (number-ends ps r) (leb-true 1 n low) (leb-true n max_number high),
      line-back ps r some good,
    )

folder-begins : Begins (starts_with (40 ∷ [])) print_folder formed_folder
unfolding starts_with folder_word print_folder
folder-begins = record { here = λ f r h. elim f as (λ k. starts_with (40 ∷ []) (print_folder k ++ r) ≡ true) [ folder n ps ↦ refl ]; none = refl }

-- where a folder begins it is read, and then the others
pub folders-more : (l : List ℕ) → starts_with (40 ∷ []) l ≡ true
    → read_folders l ≡ then_read (read_folder l) (λ f r. then_read (read_folders r) (λ fs r₂. got (f ∷ fs) r₂))
folders-more l t = many_more folder-begins folder-good l t

pub set_back : (s : FolderSet) → formed s ≡ true → read_set (print s) ≡ got s []
unfolding read_set formed print starts_with footer
set_back s h =
    let one : Back read_folder print_folder formed_folder (λ k. true) = record { back = λ f k g t. folder-back f k g; next = λ f k g. refl } in
    rw (word_back header (print_folders s), folders-many s, many-back folder-begins one s footer h refl refl, word_back footer [])

pub set-sound : (l : List ℕ) → WhenRead (λ s r. (formed s ≡ true) × (r ≡ []) × (print s ≡ l)) (read_set l)
unfolding read_set formed print
set-sound l =
    then-holds (word_sound header l) (λ w r first.
    then-holds (many-sound folder-good r) (λ fs r₂ folders.
    then-holds (word_sound footer r₂) (λ u r₃ last.
    when-holds (not (non_empty r₃)) (λ none.
    let whole : footer ≡ r₂ = rw (ended r₃ none, append-nil footer) at last in
    gotten (folders.0, ended r₃ none, rw (folders-many fs, whole, folders.1) first)))))
  where
    ended : (r : List ℕ) → not (non_empty r) ≡ true → r ≡ []
    ended [] t = refl
    ended (b ∷ r) t = absurd (false≢true t)

pub print-same : (s t : FolderSet) → formed s ≡ true → formed t ≡ true → print s ≡ print t → s ≡ t
print-same s t hs ht e =
    let same : got s [] ≡ got t [] = sym (set_back s hs) ∙ ap read_set e ∙ set_back t ht in
    cc

-- a text is of the form in one way
pub form-same : (text : List ℕ) (a b : OfForm text) → a.set ≡ b.set
form-same text a b = print-same a.set b.set a.well b.well (a.prints ∙ sym b.prints)
