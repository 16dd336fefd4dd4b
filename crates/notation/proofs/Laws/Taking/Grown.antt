-- How far reading goes on, and what it counts: the bytes that are printed, the folders, paths, steps and labels that there are.
use Prim.Native.Nat.{ℕ, ◌+◌}
use native.Mathlib.Omega.{arith}
use mathlib.Core.Path.{◌≡◌, refl, ap}
use mathlib.Core.List.{List, [], ◌∷◌, ◌++◌}
use lib.ListN.{length, length-append}
use Rattle.text.specs.Decimal.{decimal}
use Rattle.text.specs.Read.{print_many}
use Rattle.notation.specs.Sets.{Step, Path, Folder, folder, FolderSet, test_of, folder_paths}
use Rattle.notation.specs.Print.{print_step, print_path, print_paths, folder_word, footer, print_folder}
use Rattle.notation.specs.Form.{paths_of, steps_of, labels_of, label_of}
use Rattle.notation.specs.Code.Taking.{path_begun, State, state, moved, take_step, take_all, take_path, take_number, take_folder}
use Rattle.notation.specs.declared.tally.Tally.{Tally}
use Rattle.notation.proofs.Laws.Parts.{steps-append, labels_append}

-- so many bytes, folders, paths, steps and labels more
pub record Grown (b f p s l : ℕ) (t u : Tally) : Type 0 where
  pub at : u.at ≡ t.at + b
  pub folders : u.folders ≡ t.folders + f
  pub paths : u.paths ≡ t.paths + p
  pub steps : u.steps ≡ t.steps + s
  pub labels : u.labels ≡ t.labels + l

-- one after the other, the sums told otherwise
module _ {b b₁ b₂ f f₁ f₂ p p₁ p₂ s s₁ s₂ l l₁ l₂ : ℕ} {t u v : Tally} where
  chain : Grown b f p s l t u → Grown b₁ f₁ p₁ s₁ l₁ u v → b₂ ≡ b + b₁ → f₂ ≡ f + f₁ → p₂ ≡ p + p₁ → s₂ ≡ s + s₁ → l₂ ≡ l + l₁ → Grown b₂ f₂ p₂ s₂ l₂ t v
  chain x y eb ef ep es el = record {
    at = omega (arith, x.at, y.at);
    folders = omega (arith, x.folders, y.folders);
    paths = omega (arith, x.paths, y.paths);
    steps = omega (arith, x.steps, y.steps);
    labels = omega (arith, x.labels, y.labels);
  }

stays : (t : Tally) → Grown 0 0 0 0 0 t t
stays t = record { at = omega arith; folders = omega arith; paths = omega arith; steps = omega arith; labels = omega arith }

moves : (n : ℕ) (s : State) → Grown n 0 0 0 0 s.tally (moved n s).tally
unfolding moved
moves n s = record { at = refl; folders = omega arith; paths = omega arith; steps = omega arith; labels = omega arith }

pub step-grown : (x : Step) (s : State) → Grown (length (print_step x)) 0 0 1 (length (label_of (test_of x))) s.tally (take_step x s).tally
unfolding take_step
step-grown x s = record { at = refl; folders = omega arith; paths = omega arith; steps = refl; labels = refl }

pub steps-grown : (p : Path) (s : State) → Grown (length (print_path p)) 0 0 (length p) (length (labels_of p)) s.tally (take_all take_step p s).tally
unfolding take_all print_path labels_of
steps-grown [] s = stays s.tally
steps-grown (x ∷ p) s =
    chain (step-grown x s) (steps-grown p (take_step x s)) (length-append (print_step x) (print_path p)) refl refl (omega arith)
    (length-append (label_of (test_of x)) (labels_of p))

-- a path in its brackets, after a space
pub path-grown : (p : Path) (s : State) → Grown (length (print_path p) + 3) 0 1 (length p) (length (labels_of p)) s.tally (take_path p s).tally
unfolding take_path
path-grown p s =
    let g = steps-grown p (state (path_begun s.tally) s.part) in
    record {
      at = omega (arith, g.at);
      folders = omega (arith, g.folders);
      paths = omega (arith, g.paths);
      steps = omega (arith, g.steps);
      labels = omega (arith, g.labels);
    }

pub paths-grown : (ps : List Path) (s : State)
    → Grown (length (print_paths ps)) 0 (length ps) (length (steps_of ps)) (length (labels_of (steps_of ps))) s.tally (take_all take_path ps s).tally
unfolding take_all print_paths steps_of labels_of
paths-grown [] s = stays s.tally
paths-grown (p ∷ ps) s =
    chain (path-grown p s) (paths-grown ps (take_path p s)) (omega (arith, length-append (print_path p) (41 ∷ print_paths ps))) refl (omega arith)
    (length-append p (steps_of ps)) (omega (arith, ap length (labels_append p (steps_of ps)), length-append (labels_of p) (labels_of (steps_of ps))))

number-grown : (n : ℕ) (s : State) → Grown (length folder_word + length (decimal n)) 1 0 0 0 s.tally (take_number n s).tally
number-grown n s = record { at = refl; folders = refl; paths = omega arith; steps = omega arith; labels = omega arith }

pub folder-grown : (f : Folder) (s : State)
    → Grown (length (print_folder f)) 1 (length (folder_paths f)) (length (steps_of (folder_paths f))) (length (labels_of (steps_of (folder_paths f)))) s.tally (take_folder f s).tally
unfolding take_folder print_folder
folder-grown (folder n ps) s =
    let line = chain (number-grown n s) (paths-grown ps (take_number n s)) refl refl refl refl refl in
    chain line (moves (length footer) (take_all take_path ps (take_number n s)))
    (omega (arith, length-append folder_word (decimal n ++ (print_paths ps ++ footer)), length-append (decimal n) (print_paths ps ++ footer), length-append (print_paths ps) footer))
    refl (omega arith) (omega arith) (omega arith)

pub folders-grown : (fs : FolderSet) (s : State)
    → Grown (length (print_many print_folder fs)) (length fs) (length (paths_of fs)) (length (steps_of (paths_of fs))) (length (labels_of (steps_of (paths_of fs)))) s.tally (take_all take_folder fs s).tally
unfolding take_all print_many paths_of steps_of labels_of
folders-grown [] s = stays s.tally
folders-grown (f ∷ fs) s =
    let ps = folder_paths f in
    chain (folder-grown f s) (folders-grown fs (take_folder f s)) (length-append (print_folder f) (print_many print_folder fs)) (omega arith) (length-append ps (paths_of fs))
    (omega (arith, ap length (steps-append ps (paths_of fs)), length-append (steps_of ps) (steps_of (paths_of fs))))
    (omega (arith, ap (λ (l : List Step). length (labels_of l)) (steps-append ps (paths_of fs)), ap length (labels_append (steps_of ps) (steps_of (paths_of fs))), length-append (labels_of (steps_of ps)) (labels_of (steps_of (paths_of fs)))))
