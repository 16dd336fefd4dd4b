-- `build::parents::pass_step`: the step's axis, then its test.
use Rattle.std.proofs.Common.{Option, Some, None}
use Prim.Native.Nat.{ℕ, suc, ◌+◌, ◌≤◌}
use mathlib.Core.Path.{◌≡◌, sym, ap, ap₂, ◌∙◌}
use mathlib.Core.Bool.{Bool, true, false}
use mathlib.Core.List.{List}
use Rattle.std.proofs.Common.{Option, Some, None}
use native.Mathlib.Omega.{arith}
use Rattle.notation.specs.Reads.{label_count, path_at, step_at}
use Rattle.notation.specs.declared.reads.StoredStep.{StoredStep}
use Rattle.stored.specs.Code.Parents.{Passed, starts_at, entered, emptied, labelled, passed_by, passed}
use Rattle.stored.specs.declared.place.Place.{Place}
use Rattle.machine.proofs.build.parents.pass_step.Goals as goal

-- what a step does, by what is stored of it
module _ (i : ℕ) (at : Place) (a : List ℕ) (first : Bool) (e : first ≡ starts_at (path_at a (record { 0 = at.paths })) i) where
  missing : step_at a i ≡ None → passed i at a ≡ record { bytes = a; place = at }
  unfolding passed
  missing h = rw h

  by-step : {x : Option StoredStep} → step_at a i ≡ x → passed i at a ≡ passed_by x first at a
  unfolding passed
  by-step h = ap₂ (λ (x : Option StoredStep) (f : Bool). passed_by x f at a) h (sym e)

  module _ (x : StoredStep) (h : step_at a i ≡ Some x) (on : Place) (g : on ≡ entered first x.descendant at) where
    by-star : x.star ≡ true → passed i at a ≡ record { bytes = a; place = emptied on }
    by-star k = by-step h ∙ rw (k, g)

    by-label : x.star ≡ false → passed i at a ≡ labelled on a
    by-label k = by-step h ∙ rw (k, g)

entered-paths : (first deep : Bool) (at : Place) → (entered first deep at).paths ≤ at.paths + 1
entered-paths true deep at = omega arith
entered-paths false true at = omega arith
entered-paths false false at = omega arith

entered-state : (first deep : Bool) (at : Place) (n : ℕ) → at.state ≤ suc n → (entered first deep at).state ≤ suc n
entered-state true true at n h = omega arith
entered-state true false at n h = omega arith
entered-state false true at n h = omega arith
entered-state false false at n h = h

pub returns-then-step : goal.returns-then-step
returns-then-step c =
    let i = c.args.i in
    let at = c.args.at in
    let a = c.args.part.now in
    let step = c.in-Some.step in
    let first = c.starts_path-first.result in
    let on = c.enter-on.result in
    let low : on.paths ≤ at.paths + 1 = rw c.enter-on.ensures (entered-paths first step.descendant at) in
    let e = by-star i at a first c.starts_path-first.ensures step (sym c.in-Some.ensures) on c.enter-on.ensures c.if-step.true in
    record {
      bytes = sym (ap (λ (r : Passed). r.bytes) e);
      place = c.emptied.ensures ∙ sym (ap (λ (r : Passed). r.place) e);
      sound = rw c.emptied.ensures (record { searchable = c.requires.0.searchable; paths = omega (arith, low, c.requires.0.paths); state = omega arith });
    }

pub put_word-requires : goal.put_word-requires
put_word-requires c = (
  c.requires.0.searchable,
  rw c.enter-on.ensures (entered-state c.starts_path-first.result c.in-Some.step.descendant c.args.at (label_count c.args.part.now) c.requires.0.state),
)

pub returns-else-step : goal.returns-else-step
returns-else-step c =
    let i = c.args.i in
    let at = c.args.at in
    let a = c.args.part.now in
    let step = c.in-Some.step in
    let first = c.starts_path-first.result in
    let on = c.enter-on.result in
    let low : on.paths ≤ at.paths + 1 = rw c.enter-on.ensures (entered-paths first step.descendant at) in
    let e = by-label i at a first c.starts_path-first.ensures step (sym c.in-Some.ensures) on c.enter-on.ensures c.if-step.false in
    let s = c.put_word.ensures.sound in
    record {
      bytes = c.put_word.ensures.bytes ∙ sym (ap (λ (r : Passed). r.bytes) e);
      place = c.put_word.ensures.place ∙ sym (ap (λ (r : Passed). r.place) e);
      sound = record { searchable = s.searchable; paths = omega (arith, low, s.paths, c.requires.0.paths); state = s.state };
    }

pub returns-in_default : goal.returns-in_default
returns-in_default c =
    let i = c.args.i in
    let at = c.args.at in
    let a = c.args.part.now in
    let e = missing i at a c.starts_path-first.result c.starts_path-first.ensures (sym c.in_default.ensures) in
    let s = c.requires.0 in
    record {
      bytes = sym (ap (λ (r : Passed). r.bytes) e);
      place = sym (ap (λ (r : Passed). r.place) e);
      sound = record { searchable = s.searchable; paths = omega (arith, s.paths); state = s.state };
    }
