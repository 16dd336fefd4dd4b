-- Call by call, what is left of run and counters is the run and the counters of the machine's state.
use Prim.Native.Nat.{ℕ, suc, ◌<◌}
use mathlib.Core.Path.{◌≡◌, refl, sym, ◌∙◌, ap, ap₂, subst}
use mathlib.Core.Bool.{◌||◌}
use mathlib.Core.List.Memᴰ
use mathlib.Core.List.{List, [], ◌∷◌, ◌++◌, map, reverse-cons}
use native.Mathlib.Omega.{arith}
use native.Mathlib.Numerals.{add-one}
use borrow.Author.Tests.{leb-false}
use lib.ListN.{length, get_or, drop, length-append}
use Rattle.text.specs.Names.{max_name, Name}
use Rattle.notation.specs.Sets.{FolderSet}
use Rattle.notation.specs.Form.{paths_of}
use Rattle.notation.specs.Activity.{fits}
use Rattle.model.specs.Limits.{max_depth}
use Rattle.model.specs.Words.{Word}
use Rattle.model.specs.Walk.{moves_of, walk}
use Rattle.text.specs.Order.{is_none}
use Rattle.model.specs.Calls.{as_left, otherwise, Call, open_call, close_call, Level, name_of, State, names_of, open_names, fresh, opened, closed_from, closed, refusal, accepted, step, after}
use Rattle.model.specs.Calls as machine
use Rattle.stored.specs.Run.{run_size, run_with, run_of}
use Rattle.stored.specs.RunCalls.{open_walk, open_run, open_counters, close_run, close_counters, no_counters}
use Rattle.stored.specs.Demand3.{Made, calls_of, Left, started, Calls}
use Rattle.stored.specs.declared.counters.Counters.{Counters}
use Rattle.stored.specs.declared.walk.Walk.{Walk}
use Rattle.text.proofs.Laws.Tests.{cases}
use Rattle.text.proofs.Laws.Order.{number-none}
use Rattle.model.proofs.Laws.Machine.Calls.{Openable, open-accepted, Closable, close-accepted, lent-otherwise-open, lent-otherwise-close, always}
use Rattle.model.proofs.Laws.Machine.Steps.{step-refused}
use Rattle.model.proofs.Laws.Machine.Sound.{Sound}
use Rattle.model.proofs.Laws.Machine.Moves.{Few, fresh-few, open-few, close-few}
use Rattle.stored.proofs.Laws.Running.RunBytes.{Short}
use Rattle.stored.proofs.Laws.Running.Means.{Means}
use Rattle.stored.proofs.Laws.Running.Opening.{short-close, open-walk, open-run, close-run}
use Rattle.stored.proofs.Laws.Running.Starting.{start-run}
use Rattle.stored.proofs.Laws.Running.MadeCalls.{leaves, left_after, calls-left}
use Rattle.stored.proofs.Laws.Shapes.Passing.{counters_of, names-length, names-deep, names-short, open-refused, close-refused}

-- the run's bytes and the counters of a state; `rest` are the bytes behind the run
abbrev pub left_of : FolderSet → List ℕ → State → Left
left_of s rest st = record { bytes = run_of s st ++ rest; counters = counters_of st }

-- what every list of calls keeps
pub few-step : (s : FolderSet) (st : State) (call : Call) → Few s st [] → Few s (step s st call) []
unfolding after
few-step s st call f = always s (Few s) (open-few s) (close-few s) (call ∷ []) st [] f

pub few-after : (s : FolderSet) (calls : List Call) (st : State) → Few s st [] → Few s (after s st calls) []
few-after s calls st f = always s (Few s) (open-few s) (close-few s) calls st [] f

pub accepted-asked : (st : State) (e : Name) → accepted st (open_call as_left e) ≡ is_none (refusal st (open_call as_left e))
unfolding accepted
accepted-asked st e = refl

pub accepted-closed : (st : State) (e : Name) → accepted st (close_call as_left e) ≡ is_none (refusal st (close_call as_left e))
unfolding accepted
accepted-closed st e = refl

module _ (s : FolderSet) (a : List ℕ) (m : Means s a) (rest : List ℕ) where
  module _ (st : State) (few : Few s st []) where
    abbrev g : Sound s st
    g = few.0

    abbrev names : List Name
    names = open_names st

    -- an accepted open
    opened-run : (e : Name) → Openable st e → open_run a (run_of s st ++ rest) e ≡ run_of s (opened s st e) ++ rest
    unfolding opened
    opened-run e o =
        open-run s a m names st.matched (omega (arith, names-length s st g, o.shallow)) (names-short s st g) rest e (omega (arith, leb-false (suc max_name) (length e) o.short))
        ∙ ap (λ (l : List Name). run_with s l (λ place. st.matched place || fits (get_or (paths_of s) place []) l) ++ rest) (sym (reverse-cons e (map name_of st.levels)))

    -- its failure moves are those of the walk
    pub opened-moves : (e : Name) → (open_walk a (run_of s st ++ rest) e).moves ≡ moves_of (walk s st.current e)
    opened-moves e =
        ap (λ (x : Walk). x.moves) (open-walk s a m names (names-deep s st g) (names-short s st g) rest st.matched e) ∙ ap (λ (v : Word). moves_of (walk s v e)) (sym g.prefix)

    opened-counters : (e : Name) → open_counters a (run_of s st ++ rest) (counters_of st) e ≡ counters_of (opened s st e)
    unfolding open_counters opened
    opened-counters e = rw (add-one st.opens, opened-moves e)

    -- an accepted close
    closed_run : (e : Name) → Closable st e → close_run (run_of s st ++ rest) ≡ run_of s (closed st) ++ rest
    unfolding closed_from
    closed_run e c =
        let outer = names_of c.outer in
        let is : names ≡ outer ++ (e ∷ []) = ap names_of c.innermost ∙ reverse-cons e (map name_of c.outer) in
        let short : Short (outer ++ (e ∷ [])) = subst Short is (names-short s st g) in
        let d : length names ≡ suc (length outer) = ap length is ∙ length-append outer (e ∷ []) ∙ add-one (length outer) in
        let deep : length outer < max_depth = omega (arith, names-deep s st g) in
        ap (λ (l : List Name). close_run (run_with s l st.matched ++ rest)) is
        ∙ close-run s outer e st.matched deep (short-close outer e short) (short e (Memᴰ.append_right outer (Memᴰ.head refl))) rest
        ∙ ap (λ (l : List Level). run_of s (closed_from l st) ++ rest) (sym c.innermost)

    closed-counters : (e : Name) → Closable st e → close_counters (counters_of st) ≡ counters_of (closed st)
    unfolding closed_from
    closed-counters e c = rw (add-one st.closes) (ap (λ (l : List Level). counters_of (closed_from l st)) (sym c.innermost))

    open-leaves : (e : Name) → leaves a (left_of s rest st) (open_call as_left e) ≡ left_of s rest (step s st (open_call as_left e))
    unfolding step
    open-leaves e =
        rw (open-refused s a m st few rest as_left e, number-none (refusal st (open_call as_left e)), accepted-asked st e)
        (cases (is_none (refusal st (open_call as_left e)))
        (λ t. rw t (ap₂ (λ (x : List ℕ) (y : Counters). record { bytes = x; counters = y }) (opened-run e (open-accepted st e (accepted-asked st e ∙ t))) (opened-counters e)))
        (λ t. rw t))

    close-leaves : (e : Name) → leaves a (left_of s rest st) (close_call as_left e) ≡ left_of s rest (step s st (close_call as_left e))
    unfolding step
    close-leaves e =
        rw (close-refused s a m st few rest as_left e, number-none (refusal st (close_call as_left e)), accepted-closed st e)
        (cases (is_none (refusal st (close_call as_left e)))
        (λ t. let c = close-accepted st e (accepted-closed st e ∙ t) in
        rw t (ap₂ (λ (x : List ℕ) (y : Counters). record { bytes = x; counters = y }) (closed_run e c) (closed-counters e c)))
        (λ t. rw t))

    -- one call
    pub one-leaves : (call : Call) → leaves a (left_of s rest st) call ≡ left_of s rest (step s st call)
    one-leaves (open_call as_left e) = open-leaves e
    one-leaves (close_call as_left e) = close-leaves e
    one-leaves (open_call otherwise e) = ap (left_of s rest) (sym (step-refused s st (open_call otherwise e) (lent-otherwise-open st e)))
    one-leaves (close_call otherwise e) = ap (left_of s rest) (sym (step-refused s st (close_call otherwise e) (lent-otherwise-close st e)))

  -- all calls
  pub all-leave : (calls : List Call) (st : State) → Few s st [] → left_after a (left_of s rest st) calls ≡ left_of s rest (after s st calls)
  unfolding left_after after
  all-leave [] st few = refl
  all-leave (call ∷ calls) st few =
      ap (λ (t : Left). left_after a t calls) (one-leaves st few call) ∙ all-leave calls (step s st call) (few-step s st call few)

no-counters : (s : FolderSet) → no_counters ≡ counters_of (fresh s)
unfolding fresh
no-counters s = refl

-- what a start leaves is the fresh run
pub start_left : (s : FolderSet) (a : List ℕ) → Means s a → (buffer : List ℕ) → started a buffer ≡ left_of s (drop run_size buffer) (fresh s)
start_left s a m buffer = ap₂ (λ (x : List ℕ) (y : Counters). record { bytes = x; counters = y }) (start-run s a m buffer) (no-counters s)

-- what calls leave from a fresh run on
pub left_by-is : (s : FolderSet) (a : List ℕ) → Means s a → (buffer : List ℕ) {made : List Made} {t : Left} → Calls a (started a buffer) made t
    → t ≡ left_of s (drop run_size buffer) (machine.run s (calls_of made))
left_by-is s a m buffer {made} c =
    calls-left a c
    ∙ ap (λ (t : Left). left_after a t (calls_of made)) (start_left s a m buffer)
    ∙ all-leave s a m (drop run_size buffer) (calls_of made) (fresh s) (fresh-few s)

-- after every list of calls
pub few-run : (s : FolderSet) (calls : List Call) → Few s (machine.run s calls) []
few-run s calls = few-after s calls (fresh s) (fresh-few s)
