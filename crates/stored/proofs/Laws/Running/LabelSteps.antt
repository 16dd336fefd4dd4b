-- The steps that the labels of a name mark are the steps that have that label.
use Prim.Native.Nat.{ℕ, zero, suc, ◌+◌, ◌<◌}
use mathlib.Core.Path.{◌≡◌, refl, sym, ◌∙◌, ap}
use mathlib.Core.Bool.{Bool, false, ◌&&◌}
use mathlib.Core.List.{List, [], ◌∷◌, ◌++◌}
use native.Mathlib.Omega.{arith}
use native.Mathlib.Nat.{not-suc-le-zero, le_of_suc-le-suc, zero-add}
use borrow.Author.Tests.{ltb-true, ltb-false, eqb-true, eq-eqb, ne_eqb}
use lib.Dec.{ltb, eqb}
use lib.ListN.{length, get_or, take, length-append, get_or-append, get_or-eq_default}
use lib.Seq.{get_or-append-add}
use Rattle.text.specs.Names.{Name, same_name}
use Rattle.notation.specs.Sets.{Test, label, star, Step, step, Path, FolderSet, test_of}
use Rattle.notation.specs.Form.{paths_of, steps_of}
use Rattle.text.specs.Lists.{any}
use Rattle.notation.proofs.Laws.Stored.PathTable.{steps_before}
use Rattle.notation.proofs.Laws.Stored.LabelTable.{no_step}
use Rattle.stored.specs.Automaton.{all_steps, named, marks_from, marks, takes, Role, role, roles, roles_in, role_at}
use Rattle.text.proofs.Laws.Tests.{cases, both}
use Rattle.text.proofs.Laws.Lists.{any-is}
use Rattle.stored.proofs.Laws.Tables.Marked.{marks-above}
use Rattle.stored.proofs.Laws.Running.PathSteps.{any_step, locate, role-at, role-past}

-- a label of this name
abbrev pub is_label : Name → Test → Bool
is_label e (label n) = same_name n e
is_label e star = false

abbrev pub is_label_role : Name → Role → Bool
is_label_role e (role s first last) = is_label e (test_of s)

-- step k of the path of a place, among all steps
step-at : (ps : List Path) (place k : ℕ) → place < length ps → k < length (get_or ps place []) → get_or (steps_of ps) (steps_before ps place + k) no_step ≡ get_or (get_or ps place []) k any_step
unfolding steps_of
step-at [] place k h w = absurd (not-suc-le-zero h)
step-at (p ∷ ps) zero k h w = rw zero-add (get_or-append p (steps_of ps) no_step k w)
step-at (p ∷ ps) (suc place) k h w =
    let e : length (p ++ steps_of (take place ps)) + k ≡ length p + (steps_before ps place + k) = omega (arith, length-append p (steps_of (take place ps))) in
    rw e (get_or-append-add p (steps_of ps) (steps_before ps place + k) no_step ∙ step-at ps place k (le_of_suc-le-suc h) w)

role-step : (e : Name) (ps : List Path) (i : ℕ) → i < length (steps_of ps) → role_at (is_label_role e) (roles_in ps) i ≡ is_label e (test_of (get_or (steps_of ps) i no_step))
role-step e ps i h =
    let l = locate ps i h in
    rw l.is (role-at (is_label_role e) ps l.place l.k l.there l.within ∙ ap (λ (x : Step). is_label e (test_of x)) (sym (step-at ps l.place l.k l.there l.within)))

-- a step is counted among the labels' ones if it has the name
takes_none : (e : Name) (k : ℕ) (ss : List Step) (i : ℕ) → i < k → takes e (marks_from k ss) i ≡ false
unfolding takes
takes_none e k ss i h = cases (any (λ m. named e m.name && eqb m.step i) (marks_from k ss))
    (λ t.
    let x = any-is (λ m. named e m.name && eqb m.step i) (marks_from k ss) t in
    let s : x.0.step ≡ i = eqb-true x.0.step i (both (named e x.0.name) (eqb x.0.step i) x.2).1 in
    absurd (omega (arith, marks-above k ss x.0 x.1)))
    (λ t. t)

takes_step : (e : Name) (k : ℕ) (ss : List Step) (i : ℕ) → takes e (marks_from k ss) (k + i) ≡ is_label e (test_of (get_or ss i no_step))
unfolding marks_from takes any
takes_step e k [] i = refl
takes_step e k (step x (label n) ∷ ss) zero =
    let z : k + 0 ≡ k = omega arith in
    rw (takes_none e (suc k) ss (k + 0) (omega arith), z, eq-eqb k k refl) (cases (named e n) (λ t. rw t) (λ t. rw t))
takes_step e k (step x (label n) ∷ ss) (suc i) =
    let z : k + suc i ≡ suc k + i = omega arith in
    rw (ap (takes e (marks_from (suc k) ss)) z ∙ takes_step e (suc k) ss i, ne_eqb k (k + suc i) (λ q. omega arith)) (cases (named e n) (λ t. rw t) (λ t. rw t))
takes_step e k (step x star ∷ ss) zero = takes_none e (suc k) ss (k + 0) (omega arith)
takes_step e k (step x star ∷ ss) (suc i) = let z : k + suc i ≡ suc k + i = omega arith in ap (takes e (marks_from (suc k) ss)) z ∙ takes_step e (suc k) ss i

-- step i is marked for a name exactly if it is a label of that name
pub label-bits : (s : FolderSet) (e : Name) (i : ℕ) → takes e (marks s) i ≡ role_at (is_label_role e) (roles s) i
label-bits s e i =
    let z : 0 + i ≡ i = omega arith in
    rw z at (takes_step e 0 (all_steps s) i)
    ∙ cases (ltb i (length (all_steps s)))
    (λ t. sym (role-step e (paths_of s) i (ltb-true i (length (all_steps s)) t)))
    (λ t. rw (role-past (is_label_role e) (paths_of s) i (ltb-false i (length (all_steps s)) t), get_or-eq_default (all_steps s) no_step (ltb-false i (length (all_steps s)) t)))
