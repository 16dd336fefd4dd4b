-- The fault that reading keeps is the first of the faults of what has been read.
use Prim.Native.Nat.{ℕ, suc, ◌+◌, ◌-◌}
use native.Mathlib.Omega.{arith}
use mathlib.Core.Path.{◌≡◌, refl, sym, ap, ◌∙◌}
use mathlib.Core.Bool.{Bool, true, false, cond}
use mathlib.Core.List.{List, [], ◌∷◌, ◌++◌}
use lib.Dec.{leb}
use Rattle.std.specs.Prelude.{Option}
use Rattle.std.specs.Bool.{then_some}
use Rattle.std.specs.Option.{option_or}
use Rattle.text.specs.declared.refusals.Refusal.{Refusal}
use Rattle.text.specs.declared.refusals.Refusal.TheVariants.{OutOfOrder, NameTooLong, PathTooLong}
use Rattle.notation.specs.Limits.{max_steps}
use Rattle.notation.specs.Sets.{Step, Path, folder, FolderSet, test_of}
use Rattle.notation.specs.Form.{long_test, step_faults, path_faults, paths_faults, faults_after}
use Rattle.notation.specs.Code.Taking.{first_of, path_begun, State, state, moved, take_step, take_all, take_path, take_number, take_folder}
use Rattle.notation.specs.declared.tally.Tally.{Tally}
use Rattle.notation.proofs.Laws.Faults.First.{or-assoc, or-none, first-append}

-- so far and then these: the first of both
then-first : (a : Option Refusal) (xs ys : List Refusal) → option_or (option_or a (first_of xs)) (first_of ys) ≡ option_or a (first_of (xs ++ ys))
then-first a xs ys = or-assoc a (first_of xs) (first_of ys) ∙ ap (option_or a) (sym (first-append xs ys))

one-fault : (c : Bool) (r : Refusal) → then_some c r ≡ first_of (cond c (r ∷ []) [])
one-fault true r = refl
one-fault false r = refl

-- these faults were met, and no folder's number
record Met (found : List Refusal) (t u : Tally) : Type 0 where
  fault : u.fault ≡ option_or t.fault (first_of found)
  last : u.last ≡ t.last

met-none : (t : Tally) → Met [] t t
met-none t = record { fault = sym (or-none t.fault); last = refl }

met-both : {xs ys : List Refusal} {t u v : Tally} → Met xs t u → Met ys u v → Met (xs ++ ys) t v
met-both {xs} {ys} {t} m n =
    record { fault = n.fault ∙ ap (λ a. option_or a (first_of ys)) m.fault ∙ then-first t.fault xs ys; last = n.last ∙ m.last }

step-met : (x : Step) (s : State) (k : ℕ) → s.tally.steps ≡ s.tally.first + k → Met (step_faults k x) s.tally (take_step x s).tally
unfolding take_step
step-met x s k e =
    let at : s.tally.steps - s.tally.first ≡ k = omega arith in
    record {
      fault = rw (at, one-fault (long_test (test_of x)) NameTooLong, one-fault (leb max_steps k) PathTooLong, first-append);
      last = refl;
    }

-- k steps of the path stand before these
steps-met : (p : Path) (s : State) (k : ℕ) → s.tally.steps ≡ s.tally.first + k → Met (path_faults k p) s.tally (take_all take_step p s).tally
unfolding take_all path_faults take_step
steps-met [] s k e = met-none s.tally
steps-met (x ∷ p) s k e = met-both (step-met x s k e) (steps-met p (take_step x s) (suc k) (omega arith))

path-met : (p : Path) (s : State) → Met (path_faults 0 p) s.tally (take_path p s).tally
unfolding take_path
path-met p s =
    let m = steps-met p (state (path_begun s.tally) s.part) 0 (omega arith) in
    record { fault = m.fault; last = m.last }

paths-met : (ps : List Path) (s : State) → Met (paths_faults ps) s.tally (take_all take_path ps s).tally
unfolding take_all paths_faults
paths-met [] s = met-none s.tally
paths-met (p ∷ ps) s = met-both (path-met p s) (paths-met ps (take_path p s))

pub set-fault : (fs : FolderSet) (s : State)
    → (take_all take_folder fs s).tally.fault ≡ option_or s.tally.fault (first_of (faults_after s.tally.last fs))
unfolding take_all faults_after take_folder moved
set-fault [] s = sym (or-none s.tally.fault)
set-fault (folder n ps ∷ fs) s =
    let m = paths-met ps (take_number n s) in
    let falls = leb n s.tally.last in
    set-fault fs (take_folder (folder n ps) s)
    ∙ rw (m.last, m.fault, then-first _ (paths_faults ps) (faults_after n fs), one-fault falls OutOfOrder)
    (then-first s.tally.fault (cond falls (OutOfOrder ∷ []) []) (paths_faults ps ++ faults_after n fs))
