-- What a list of calls leaves, computed call by call: the calls' contracts determine it, and any list of calls can be made.
use Prim.Native.Nat.{ℕ}
use mathlib.Core.Path.{◌≡◌, refl, sym, ◌∙◌, ap, ap₂}
use mathlib.Core.Bool.{Bool, true, false, cond}
use mathlib.Core.Option.{Option, none, some}
use mathlib.Core.List.{List, [], ◌∷◌, ◌++◌}
use native.Mathlib.Omega.{arith}
use lib.Dec.{eqb}
use Rattle.text.specs.declared.refusals.Refusal.TheVariants.{ShortBuffer}
use Rattle.text.specs.Refusals.{number_of}
use Rattle.text.specs.Names.{Name}
use Rattle.std.specs.Prelude.{Result, Ok, Err}
use Rattle.text.specs.declared.refusals.Refusal.{Refusal}
use Rattle.text.specs.Answers.{said, says, refusal_in}
use Rattle.text.proofs.Laws.Results.{err_says, number_in_said}
use Rattle.text.specs.Order.{Condition, first, number_in, given}
use Rattle.model.specs.Calls.{as_left, otherwise, Call, open_call, close_call}
use Rattle.stored.specs.Automaton.{automaton_size}
use Rattle.stored.specs.RunCalls.{no_counters, open_conditions, open_refusal, open_run, open_walk, open_counters, close_refusal, close_run, close_counters}
use Rattle.stored.specs.RunContracts.{Opens, Closes}
use Rattle.stored.specs.Demand3.{Made, made_open, made_close, calls_of, Left, Calls, no_calls, an_open, a_close, other_open, other_close}
use Rattle.stored.specs.declared.counters.Counters.{Counters}

-- a call lent all as last left leaves what its contract says; any other changes nothing of it
abbrev pub leaves : List ℕ → Left → Call → Left
leaves a t (open_call as_left e) =
    cond (eqb (open_refusal a t.bytes t.counters e) 0)
    (record { bytes = open_run a t.bytes e; counters = open_counters a t.bytes t.counters e })
    t
leaves a t (close_call as_left e) =
    cond (eqb (close_refusal a t.bytes t.counters e) 0)
    (record { bytes = close_run t.bytes; counters = close_counters t.counters })
    t
leaves a t (open_call otherwise e) = t
leaves a t (close_call otherwise e) = t

unfoldable pub left_after : List ℕ → Left → List Call → Left
left_after a t [] = t
left_after a t (call ∷ calls) = left_after a (leaves a t call) calls

-- a call changes both or none
both_left : (b : Bool) (t u : Left) (bytes : List ℕ) (counters : Counters) → u.bytes ≡ cond b bytes t.bytes → u.counters ≡ cond b counters t.counters
    → u ≡ cond b (record { bytes = bytes; counters = counters }) t
both_left true t u bytes counters p q = ap₂ (λ (x : List ℕ) (y : Counters). record { bytes = x; counters = y }) p q
both_left false t u bytes counters p q = ap₂ (λ (x : List ℕ) (y : Counters). record { bytes = x; counters = y }) p q

module _ (a : List ℕ) where
  open-left : {t u : Left} {e : Name} {answer : Result ℕ Refusal} → Opens a t.bytes t.counters e answer u.bytes u.counters → u ≡ leaves a t (open_call as_left e)
  open-left {t} {u} {e} o =
      both_left (eqb (open_refusal a t.bytes t.counters e) 0) t u (open_run a t.bytes e) (open_counters a t.bytes t.counters e) o.run_after o.counters_after

  close-left : {t u : Left} {e : Name} {answer : ℕ} → Closes a t.bytes t.counters e answer u.bytes u.counters → u ≡ leaves a t (close_call as_left e)
  close-left {t} {u} {e} o =
      both_left (eqb (close_refusal a t.bytes t.counters e) 0) t u (close_run t.bytes) (close_counters t.counters) o.run_after o.counters_after

  -- the contracts determine what is left
  pub calls-left : {t v : Left} {made : List Made} → Calls a t made v → v ≡ left_after a t (calls_of made)
  unfolding left_after
  calls-left no_calls = refl
  calls-left (an_open {later = later} o c) = calls-left c ∙ ap (λ (x : Left). left_after a x (calls_of later)) (open-left o)
  calls-left (a_close {later = later} o c) = calls-left c ∙ ap (λ (x : Left). left_after a x (calls_of later)) (close-left o)
  calls-left (other_open o r c) = calls-left c
  calls-left (other_close o r c) = calls-left c

  pub calls-only : {t u v : Left} {made : List Made} → Calls a t made u → Calls a t made v → u ≡ v
  calls-only c d = calls-left c ∙ sym (calls-left d)

  -- the calls before, and those after
  pub calls-split : {t v : Left} (before : List Made) {later : List Made} → Calls a t (before ++ later) v → (u : Left) × Calls a t before u × Calls a u later v
  calls-split {t} [] c = (t, no_calls, c)
  calls-split (made_open as_left e answer ∷ before) (an_open o c) = let r = calls-split before c in (r.0, an_open o r.1, r.2)
  calls-split (made_close as_left e answer ∷ before) (a_close o c) = let r = calls-split before c in (r.0, a_close o r.1, r.2)
  calls-split (made_open otherwise e answer ∷ before) (other_open o n c) = let r = calls-split before c in (r.0, other_open o n r.1, r.2)
  calls-split (made_close otherwise e answer ∷ before) (other_close o n c) = let r = calls-split before c in (r.0, other_close o n r.1, r.2)

  pub split-open : {t v : Left} {e : Name} {answer : Result ℕ Refusal} {later : List Made} → Calls a t (made_open as_left e answer ∷ later) v
      → (u : Left) × Opens a t.bytes t.counters e answer u.bytes u.counters
  split-open (an_open {u = u} o c) = (u, o)

  pub split-close : {t v : Left} {e : Name} {answer : ℕ} {later : List Made} → Calls a t (made_close as_left e answer ∷ later) v
      → (u : Left) × Closes a t.bytes t.counters e answer u.bytes u.counters
  split-close (a_close {u = u} o c) = (u, o)

-- whatever number an order gives, a `Result` says it
can-say : (order : List Condition) (v : ℕ) → (answer : Result ℕ Refusal) × (says answer ≡ said (given order) v)
unfolding given
can-say order v = say (first order)
  where
    say : (o : Option Refusal) → (answer : Result ℕ Refusal) × (says answer ≡ said (number_in o) v)
    say none = (Ok v, refl)
    say (some r) = (Err r, err_says r (number_of r) v refl)

-- what the contracts say of what is lent
opens-so : (a : List ℕ) (t : Left) (e : Name) → (answer : Result ℕ Refusal) × (u : Left) × (refusal_in answer ≡ open_refusal a t.bytes t.counters e) × Opens a t.bytes t.counters e answer u.bytes u.counters
unfolding open_refusal
opens-so a t e =
    let ok = eqb (open_refusal a t.bytes t.counters e) 0 in
    let can = can-say (open_conditions a t.bytes t.counters e) (open_walk a t.bytes e).moves in (
      can.0,
      record { bytes = cond ok (open_run a t.bytes e) t.bytes; counters = cond ok (open_counters a t.bytes t.counters e) t.counters },
      number_in_said can.0 (open_refusal a t.bytes t.counters e) (open_walk a t.bytes e).moves can.1,
      record { answers = can.1; run_after = refl; counters_after = refl },
    )

closes-so : (a : List ℕ) (t : Left) (e : Name) → (u : Left) × Closes a t.bytes t.counters e (close_refusal a t.bytes t.counters e) u.bytes u.counters
closes-so a t e =
    let ok = eqb (close_refusal a t.bytes t.counters e) 0 in (
      record { bytes = cond ok (close_run t.bytes) t.bytes; counters = cond ok (close_counters t.counters) t.counters },
      record { answers = refl; run_after = refl; counters_after = refl },
    )

-- buffers of no bytes are too short
abbrev nothing : Left
nothing = record { bytes = []; counters = no_counters }

short-open : (e : Name) → open_refusal [] [] no_counters e ≡ number_of ShortBuffer
unfolding open_refusal given first automaton_size
short-open e = refl

short-close : (e : Name) → close_refusal [] [] no_counters e ≡ number_of ShortBuffer
unfolding close_refusal given first automaton_size
short-close e = refl

-- every list of calls can be made
pub calls-can : (a : List ℕ) (t : Left) (calls : List Call) → (made : List Made) × (v : Left) × (calls_of made ≡ calls) × Calls a t made v
calls-can a t [] = ([], t, refl, no_calls)
calls-can a t (open_call as_left e ∷ calls) =
    let (answer, u, n, o) = opens-so a t e in
    let (made, v, is, c) = calls-can a u calls in
    (made_open as_left e answer ∷ made, v, ap (λ (l : List Call). open_call as_left e ∷ l) is, an_open o c)
calls-can a t (close_call as_left e ∷ calls) =
    let (u, o) = closes-so a t e in
    let (made, v, is, c) = calls-can a u calls in
    (made_close as_left e (close_refusal a t.bytes t.counters e) ∷ made, v, ap (λ (l : List Call). close_call as_left e ∷ l) is, a_close o c)
calls-can a t (open_call otherwise e ∷ calls) =
    let (answer, u, n, o) = opens-so [] nothing e in
    let (made, v, is, c) = calls-can a t calls in
    (made_open otherwise e answer ∷ made, v, ap (λ (l : List Call). open_call otherwise e ∷ l) is, other_open o (λ z. omega (arith, n, short-open e)) c)
calls-can a t (close_call otherwise e ∷ calls) =
    let (u, o) = closes-so [] nothing e in
    let (made, v, is, c) = calls-can a t calls in
    (made_close otherwise e (close_refusal [] [] no_counters e) ∷ made, v, ap (λ (l : List Call). close_call otherwise e ∷ l) is, other_close o (λ z. omega (arith, short-close e)) c)
