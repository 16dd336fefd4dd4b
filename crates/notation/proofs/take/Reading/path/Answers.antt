-- `take::Reading::path`: its word, its steps, its entry, its bracket.
use Prim.Native.Nat.{◌+◌}
use mathlib.Core.List.{[], ◌∷◌}
use mathlib.Core.Path.{◌≡◌, refl, ap, ◌∙◌}
use native.Mathlib.Omega.{arith}
use lib.ListN.{length, drop}
use Rattle.std.proofs.Common.{Some, of_calls}
use Rattle.notation.specs.Print.{print_path}
use Rattle.notation.specs.Code.Reader.{read_steps, read_path}
use Rattle.notation.specs.Code.Taking.{state}
use Rattle.notation.specs.Code.Readings.{Kept, Takes}
use Rattle.notation.specs.declared.tally.Tally.{Tally}
use Rattle.notation.specs.declared.take.Reading.{Reading}
use Rattle.notation.proofs.Laws.Reading.Paths.{steps-more}
use Rattle.notation.proofs.Laws.Taking.Readings.{calls-take, moves, kept-both}
use Rattle.notation.proofs.Laws.Taking.Paths.{path_steps, from-first, steps-unread, many, no-steps, no-bracket, path-taken, counted-small, step-moves}
use Rattle.notation.proofs.take.Reading.path.Goals as goal
use Rattle.notation.proofs.take.Reading.path.Goals.{In_ok-all}

pub returns-in_err-word : goal.returns-in_err-word
unfolding read_path
returns-in_err-word c = rw c.from_residual.ensures (record { kept = c.in_err-word.ensures.kept; came = rw c.in_err-word.ensures.came })

pub all-requires : goal.all-requires
all-requires c = λ k. ((refl, tt), (search of_calls, λ p x q t. moves step-moves t))

pub returns-in_err-all : goal.returns-in_err-all
returns-in_err-all c =
    let e = from-first _ c.word.new.self _ _ (calls-take (47 ∷ []) steps-more (λ p x q t. t) c.in_err-all.ensures) refl refl c.path_first-self.ensures in
    let w = c.in_ok-word.ensures in
    rw c.from_residual-in_err-all.ensures (record { kept = kept-both w.kept e.kept; came = steps-unread _ _ _ w.came e })

-- the steps, read from behind the word
module _ (c : In_ok-all) where
  abbrev before : Reading
  before = c.word.new.self

  abbrev behind : Reading
  behind = c.all.new.self

  steps : Takes read_steps path_steps before (Some tt) behind
  steps = from-first _ before _ _ (calls-take (47 ∷ []) steps-more (λ p x q t. t) c.in_ok-all.ensures) refl refl c.path_first-self.ensures

  kept : Kept c.args.self.now behind
  kept = kept-both c.in_ok-word.ensures.kept steps.kept

  counts : (behind.tally.steps ≡ before.tally.steps + length steps.came.item) × (behind.tally.at ≡ before.tally.at + length (print_path steps.came.item))
  counts = many _ _ _ c.in_ok-word.ensures.came steps.came

pub returns-then-ended-begun : goal.returns-then-ended-begun
returns-then-ended-begun c =
    let here = (goal.at.returns-then-ended-begun c).In_ok-all in
    record { kept = kept here; came = no-steps _ _ _ c.in_ok-word.ensures.came (steps here).came c.if-ended-begun.true }

pub overflow_sub-path : goal.overflow_sub-path
overflow_sub-path c = let n = counts (goal.at.overflow_sub-path c).In_ok-all in omega arith

pub overflow_sub-path-2 : goal.overflow_sub-path-2
overflow_sub-path-2 c = let n = counts (goal.at.overflow_sub-path-2 c).In_ok-all in omega arith

pub returns-in_err-word-2 : goal.returns-in_err-word-2
returns-in_err-word-2 c =
    let here = (goal.at.returns-in_err-word-2 c).In_ok-all in
    let l = c.in_err-word-2.ensures in
    rw c.from_residual-in_err-word-2.ensures (record {
      kept = record { text = l.kept.text ∙ (kept here).text; part = l.kept.part ∙ (kept here).part };
      came = no-bracket _ _ _ c.in_ok-word.ensures.came (steps here).came _ c.if-ended-begun.false refl _ l;
    })

pub invariant_of-self-3 : goal.invariant_of-self-3
invariant_of-self-3 c =
    record { small = rw c.with_path-self.ensures (counted-small _ _ c.in_ok-word-2.ensures.came) }

pub returns : goal.returns
returns c =
    let here = (goal.at.returns c).In_ok-all in
    let l = c.in_ok-word-2.ensures in
    record {
      kept = record { text = l.kept.text ∙ (kept here).text; part = l.kept.part ∙ (kept here).part };
      came = path-taken _ _ _ c.in_ok-word.ensures.came (steps here).came _ c.if-ended-begun.false refl _ _ (ap (state (behind here).tally) c.put_path.ensures) l.came
          (ap (λ (t : Tally). drop t.at c.word-2.new.self.text.now) c.with_path-self.ensures)
          (ap (λ (t : Tally). state t c.word-2.new.self.part.now) c.with_path-self.ensures);
    }
