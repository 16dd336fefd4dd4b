-- The rows of an accepted set: numbers of four digits at most, paths without a byte 10 that begin with `/`. So its sheet's lines are plain, and it
-- is blank only where there are no rows.
use Prim.Native.Nat.{ℕ, suc, ◌*◌, ◌≤◌}
use native.Mathlib.Omega.{arith}
use mathlib.Core.Path.{◌≡◌, refl, sym, ◌∙◌}
use mathlib.Core.Bool.{true, ◌&&◌}
use mathlib.Core.Logic.{inl, inr}
use mathlib.Core.List.Memᴰ
use mathlib.Core.List.{List, [], ◌∷◌, map, Memᴰ}
use lib.Dec.{leb, eqb}
use lib.ListN.{length, get_or, length-append, length-map}
use borrow.Author.Tests.{leb-true, eqb-true}
use Rattle.text.specs.Names.{within, letter, digit, begins_name, in_name, name_form}
use Rattle.text.specs.Lists.{every, non_empty}
use Rattle.text.proofs.Laws.Tests.{cases, clash, both, both_true}
use Rattle.text.proofs.Laws.Lists.{every_append, every-weaker}
use Rattle.notation.specs.Limits.{max_number}
use Rattle.notation.specs.Sets.{child, descendant, label, star, Step, step, Path, FolderSet}
use Rattle.notation.specs.Form.{formed_step, formed_path, formed_folder, formed, paths_of}
use Rattle.notation.specs.Print.{print_step, print_path}
use Rattle.notation.specs.Accepted.{Accepted}
use Rattle.notation.proofs.Laws.Refused.AcceptedSet.{accepted-fits}
use Rattle.documents.specs.Tree.{Document}
use Rattle.filing.specs.Printed.{Selecting, no_paths, chosen, left}
use Rattle.sheets.specs.Limits.{body_lines, max_pages}
use Rattle.sheets.specs.Sheet.{Row, row, Pages, pages_for, sheet}
use Rattle.sheets.specs.Lines.{PlainLines}
use Rattle.sheets.specs.ClassSheet.{blank_sheet}
use Rattle.sheets.specs.SheetOf.{path_row, RowsFor, no_folders, of_folder, SheetFor}
use Rattle.sheets.proofs.Laws.Page.Pages.{pages-are, pages-most}
use Rattle.sheets.proofs.Laws.Page.Lines.{sheet-blank}
use Rattle.sheets.proofs.Laws.Page.Content.{some-row}
use Rattle.sheets.proofs.Laws.Page.Aligned.{number_of_row, path_of_row}
use Rattle.sheets.proofs.Laws.Page.Plain.{not_end, plain_lines}

-- a byte of a name ends no line
name-plain : (b : ℕ) → in_name b ≡ true → not_end b ≡ true
unfolding in_name begins_name letter digit
name-plain b h =
    cases (eqb b 10)
    (λ t.
    let e : b ≡ 10 = eqb-true b 10 t in
    clash h (rw e refl))
    (λ f. rw f)

begin-plain : (b : ℕ) → begins_name b ≡ true → not_end b ≡ true
unfolding begins_name letter
begin-plain b h =
    cases (eqb b 10)
    (λ t.
    let e : b ≡ 10 = eqb-true b 10 t in
    clash h (rw e refl))
    (λ f. rw f)

label-plain : (n : List ℕ) → name_form n ≡ true → every not_end n ≡ true
unfolding name_form every
label-plain [] h = clash h refl
label-plain (b ∷ bs) h =
    let p = both (begins_name b) (every in_name bs) h in
    both_true (begin-plain b p.0) (every-weaker in_name not_end name-plain bs p.1)

step-plain : (s : Step) → formed_step s ≡ true → every not_end (print_step s) ≡ true
unfolding print_step every
step-plain (step child (label n)) h = label-plain n h
step-plain (step child star) h = refl
step-plain (step descendant (label n)) h = label-plain n h
step-plain (step descendant star) h = refl

path-plain : (p : Path) → every formed_step p ≡ true → every not_end (print_path p) ≡ true
unfolding print_path every
path-plain [] h = refl
path-plain (s ∷ p) h =
    let b = both (formed_step s) (every formed_step p) h in
    every_append not_end (print_step s) (print_path p) (step-plain s b.0) (path-plain p b.1)

-- a path begins with `/`
path-begins : (p : Path) → non_empty p ≡ true → get_or (print_path p) 0 0 ≡ 47
unfolding print_path print_step
path-begins [] h = clash h refl
path-begins (step child t ∷ p) h = refl
path-begins (step descendant t ∷ p) h = refl

-- a row that is as it is to be
record Good (r : Row) : Type 0 where
  small : number_of_row r ≤ max_number
  plain : every not_end (path_of_row r) ≡ true
  begins : get_or (path_of_row r) 0 0 ≡ 47

good-rows : {d : Document} (n : ℕ) {ps qs : List Path} → n ≤ max_number → every formed_path ps ≡ true → Selecting d ps qs → (r : Row) → Memᴰ r (map (path_row n) qs) → Good r
unfolding every formed_path
good-rows n k h no_paths r m = absurd (Memᴰ.not-nil m)
good-rows n k h (chosen {p = p} {ps} x l) r m =
    let b = both (formed_path p) (every formed_path ps) h in
    elim (Memᴰ.cases_cons m) [
      | inl e ↦ rw e (record { small = k; plain = path-plain p (both (non_empty p) (every formed_step p) b.0).1; begins = path-begins p (both (non_empty p) (every formed_step p) b.0).0 })
      | inr t ↦ good-rows n k b.1 l r t
    ]
good-rows n k h (left {p = p} {ps} never l) r m = good-rows n k (both (formed_path p) (every formed_path ps) h).1 l r m

all-good : {d : Document} {fs : FolderSet} {rows : List Row} → every formed_folder fs ≡ true → RowsFor d fs rows → (r : Row) → Memᴰ r rows → Good r
unfolding every formed_folder
all-good h no_folders r m = absurd (Memᴰ.not-nil m)
all-good h (of_folder {n = n} {ps} {qs} {fs} a l) r m =
    let b = both (within 1 max_number n && (non_empty ps && every formed_path ps)) (every formed_folder fs) h in
    let f = both (within 1 max_number n) (non_empty ps && every formed_path ps) b.0 in
    let small : n ≤ max_number = leb-true n max_number (both (leb 1 n) (leb n max_number) f.0).1 in
    elim (Memᴰ.append_cases (map (path_row n) qs) m) [
      | inl t ↦ good-rows n small (both (non_empty ps) (every formed_path ps) f.1).1 a r t
      | inr t ↦ all-good b.1 l r t
    ]

-- no more rows than paths
fewer-chosen : {d : Document} {ps qs : List Path} → Selecting d ps qs → length qs ≤ length ps
fewer-chosen no_paths = omega arith
fewer-chosen (chosen x l) = omega (arith, fewer-chosen l)
fewer-chosen (left never l) = omega (arith, fewer-chosen l)

fewer-rows : {d : Document} {fs : FolderSet} {rows : List Row} → RowsFor d fs rows → length rows ≤ length (paths_of fs)
unfolding paths_of
fewer-rows no_folders = omega arith
fewer-rows (of_folder {n = n} {ps} {qs} {fs} {later} a l) =
    omega (arith, length-append (map (path_row n) qs) later, length-map qs (path_row n), length-append ps (paths_of fs), fewer-chosen a, fewer-rows l)

module _ (text : List ℕ) (s : FolderSet) (acc : Accepted text s) (report bytes : List ℕ) (x : SheetFor s report bytes) where
  good : (r : Row) → Memᴰ r x.rows → Good r
  unfolding formed
  good = all-good acc.well x.selecting

  pub sheet-plain : (pages : ℕ) × Pages (length x.rows) pages × PlainLines (pages * suc body_lines) bytes
  unfolding max_pages max_number
  sheet-plain =
      let few = pages-most (length x.rows) (omega (arith, fewer-rows x.selecting, (accepted-fits text s acc).paths)) in (
        pages_for (length x.rows),
        pages-are (length x.rows),
        rw x.printed (plain_lines x.rows (λ r m. (good r m).small) (λ r m. (good r m).plain) (omega arith)),
      )

  -- a blank sheet has no rows
  pub blank_none : bytes ≡ blank_sheet → x.rows ≡ []
  blank_none e = go x.rows good (sym x.printed ∙ e ∙ sym sheet-blank)
    where
      go : (rows : List Row) → ((r : Row) → Memᴰ r rows → Good r) → sheet rows ≡ sheet [] → rows ≡ []
      go [] h k = refl
      go (row n (b ∷ path) ∷ rows) h k = let g = h (row n (b ∷ path)) (Memᴰ.head refl) in absurd (some-row n b path rows g.small (λ z. omega (arith, g.begins, z)) k)
      go (row n [] ∷ rows) h k = let g = h (row n []) (Memᴰ.head refl) in absurd (omega (arith, g.begins))
