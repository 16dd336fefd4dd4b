-- Steps, paths, and the paths of a line are read back as they were printed, and what was read prints to what stood there.
use Prim.Native.Nat.{ℕ}
use mathlib.Core.Path.{◌≡◌, refl, ap}
use mathlib.Core.Bool.{true, false, not, false≢true}
use mathlib.Core.List.{List, [], ◌∷◌, ◌++◌, append_assoc}
use lib.Dec.{eqb}
use borrow.Author.Tests.{eqb-true}
use Rattle.text.specs.Lists.{every, non_empty}
use Rattle.text.specs.Names.{letter, digit, begins_name, in_name, name_form}
use Rattle.text.specs.Read.{got, then_read, starts_with, read_word, print_many}
use Rattle.notation.specs.Sets.{child, descendant, Test, label, star, Step, step, Path}
use Rattle.notation.specs.Print.{print_axis, print_test, print_step, print_path, print_paths, footer}
use Rattle.notation.specs.Form.{formed_test, formed_step, formed_path}
use Rattle.notation.specs.Code.Reader.{read_axis, read_test, read_step, read_steps, read_path, read_paths, read_line}
use Rattle.text.proofs.Laws.Tests.{and_left, and_right, both_true}
use Rattle.text.proofs.Laws.Fronts.{differs, stops}
use Rattle.text.proofs.Laws.Reads.{WhenRead, failed, gotten, then-holds, holds-map, when-holds, cond-holds, word_sound, name_back, name-sound}
use Rattle.text.proofs.Laws.ReadMany.{Begins, Back, Sound, many-sound, many-back, many_more}

axis-sound : (l : List ℕ) → WhenRead (λ a r. print_axis a ++ r ≡ l) (read_axis l)
unfolding read_axis
axis-sound l =
    cond-holds (starts_with (print_axis descendant) l) (λ t. then-holds (word_sound (print_axis descendant) l) (λ w r e. gotten e))
    (λ f. then-holds (word_sound (print_axis child) l) (λ w r e. gotten e))

test-sound : (l : List ℕ) → WhenRead (λ t r. (formed_test t ≡ true) × (print_test t ++ r ≡ l)) (read_test l)
unfolding read_test
test-sound [] = failed
test-sound (b ∷ l) =
    cond-holds (eqb b 42) (λ t. gotten (refl, rw (eqb-true b 42 t)))
    (λ f. then-holds (name-sound (b ∷ l)) (λ n r name. gotten name))

pub step-sound : (l : List ℕ) → WhenRead (λ x r. (formed_step x ≡ true) × (print_step x ++ r ≡ l)) (read_step l)
unfolding read_step print_step
step-sound l =
    then-holds (axis-sound l) (λ a r axis.
    then-holds (test-sound r) (λ t r₂ test. gotten (test.0, rw (append_assoc (print_axis a) (print_test t) r₂, test.1) axis)))

step-good : Sound (starts_with (47 ∷ [])) read_step print_step formed_step
step-good = record { sound = λ l t. step-sound l }

path-many : (p : Path) → print_path p ≡ print_many print_step p
unfolding print_path print_many
path-many [] = refl
path-many (x ∷ p) = ap (◌++◌ (print_step x)) (path-many p)

pub steps-sound : (l : List ℕ) → WhenRead (λ p r. (every formed_step p ≡ true) × (print_path p ++ r ≡ l)) (read_steps l)
steps-sound l = holds-map (many-sound step-good l) (λ p r h. (h.0, rw (path-many p) h.1))

-- a label begins with neither `/` nor `*`
test_back : (t : Test) (r : List ℕ) → formed_test t ≡ true → stops in_name r ≡ true
    → (starts_with (47 ∷ []) (print_test t ++ r) ≡ false) × (read_test (print_test t ++ r) ≡ got t r)
unfolding starts_with read_test name_form begins_name letter
test_back (label []) r h s = absurd (false≢true h)
test_back (label (b ∷ n)) r h s =
    let first : begins_name b ≡ true = and_left (begins_name b) _ h in
    (rw (differs (λ c. not (begins_name c)) 47 b refl (ap not first)), rw (differs begins_name b 42 first refl, name_back (b ∷ n) r h s))
test_back star r h s = (refl, refl)

step_back : (x : Step) (r : List ℕ) → formed_step x ≡ true → stops in_name r ≡ true → read_step (print_step x ++ r) ≡ got x r
unfolding read_step read_axis print_step starts_with read_word
step_back (step child t) r h s = rw ((test_back t r h s).0, (test_back t r h s).1)
step_back (step descendant t) r h s = rw (test_back t r h s).1

-- a step begins with `/`, which is no byte of a name
slash : (x : Step) (r : List ℕ) → (starts_with (47 ∷ []) (print_step x ++ r) ≡ true) × (stops in_name (print_step x ++ r) ≡ true)
unfolding starts_with print_step in_name begins_name letter digit
slash (step child t) r = (refl, refl)
slash (step descendant t) r = (refl, refl)

step-begins : Begins (starts_with (47 ∷ [])) print_step formed_step
unfolding starts_with
step-begins = record { here = λ x r h. (slash x r).0; none = refl }

-- where a step begins it is read, and then the others
pub steps-more : (l : List ℕ) → starts_with (47 ∷ []) l ≡ true
    → read_steps l ≡ then_read (read_step l) (λ x r. then_read (read_steps r) (λ p r₂. got (x ∷ p) r₂))
steps-more l t = many_more step-begins step-good l t

pub path-sound : (l : List ℕ) → WhenRead (λ p r. (formed_path p ≡ true) × (32 ∷ 40 ∷ (print_path p ++ 41 ∷ r) ≡ l)) (read_path l)
unfolding read_path formed_path
path-sound l =
    then-holds (word_sound (32 ∷ 40 ∷ []) l) (λ w r first.
    then-holds (steps-sound r) (λ p r₂ steps.
    when-holds (non_empty p) (λ some.
    then-holds (word_sound (41 ∷ []) r₂) (λ u r₃ last. gotten (both_true some steps.0, rw (last, steps.1) first)))))

-- a path, after a space and in its brackets
abbrev print_one : Path → List ℕ
print_one p = 32 ∷ 40 ∷ (print_path p ++ 41 ∷ [])

path-good : Sound (starts_with (32 ∷ [])) read_path print_one formed_path
path-good = record { sound = λ l t. holds-map (path-sound l) (λ p r h. (h.0, rw (append_assoc (print_path p) (41 ∷ []) r) h.1)) }

paths-many : (ps : List Path) → print_paths ps ≡ print_many print_one ps
unfolding print_paths print_many
paths-many [] = refl
paths-many (p ∷ ps) = rw (append_assoc (print_path p) (41 ∷ []) (print_many print_one ps), paths-many ps)

pub paths-sound : (l : List ℕ) → WhenRead (λ ps r. (every formed_path ps ≡ true) × (print_paths ps ++ r ≡ l)) (read_paths l)
paths-sound l = holds-map (many-sound path-good l) (λ ps r h. (h.0, rw (paths-many ps) h.1))

path-back : (p : Path) (r : List ℕ) → formed_path p ≡ true → read_path (print_one p ++ r) ≡ got p r
unfolding read_path formed_path read_word starts_with in_name begins_name letter digit
path-back p r h =
    let one : Back read_step print_step formed_step (stops in_name) = record { back = step_back; next = λ x k g. (slash x k).1 } in
    rw (
      append_assoc (print_path p) (41 ∷ []) r,
      path-many p,
      many-back step-begins one p (41 ∷ r) (and_right (non_empty p) _ h) refl refl,
      and_left (non_empty p) _ h,
    )

path-begins : Begins (starts_with (32 ∷ [])) print_one formed_path
unfolding starts_with
path-begins = record { here = λ p r h. refl; none = refl }

-- where a path begins it is read, and then the others
pub paths-more : (l : List ℕ) → starts_with (32 ∷ []) l ≡ true
    → read_paths l ≡ then_read (read_path l) (λ p r. then_read (read_paths r) (λ ps r₂. got (p ∷ ps) r₂))
paths-more l t = many_more path-begins path-good l t

pub line-sound : (l : List ℕ)
    → WhenRead (λ ps r. (non_empty ps ≡ true) × (every formed_path ps ≡ true) × (print_paths ps ++ (footer ++ r) ≡ l)) (read_line l)
unfolding read_line
line-sound l =
    then-holds (paths-sound l) (λ ps r paths.
    when-holds (non_empty ps) (λ some.
    then-holds (word_sound footer r) (λ w r₂ last. gotten (some, paths.0, rw last paths.1))))

pub line-back : (ps : List Path) (r : List ℕ) → non_empty ps ≡ true → every formed_path ps ≡ true → read_line (print_paths ps ++ (footer ++ r)) ≡ got ps r
unfolding read_line footer read_word starts_with
line-back ps r some h =
    let one : Back read_path print_one formed_path (λ k. true) = record { back = λ p k g t. path-back p k g; next = λ p k g. refl } in
    rw (paths-many ps, many-back path-begins one ps (footer ++ r) h refl refl, some)
