-- `take::Reading::line`: its paths, and its end.
use mathlib.Core.List.{[], ◌∷◌}
use mathlib.Core.Path.{refl}
use Rattle.std.proofs.Common.{of_calls}
use Rattle.notation.specs.Print.{footer}
use Rattle.notation.proofs.Laws.Reading.Paths.{paths-more}
use Rattle.notation.proofs.Laws.Taking.Readings.{calls-take, moves}
use Rattle.notation.proofs.Laws.Taking.Paths.{path-moves}
use Rattle.notation.proofs.Laws.Taking.Folders.{paths-unread, no-paths, line-takes}
use Rattle.notation.proofs.take.Reading.line.Goals as goal

pub all-requires : goal.all-requires
all-requires c = λ k. ((refl, tt), (search of_calls, λ p x q t. moves path-moves t))

pub returns-in_err-all : goal.returns-in_err-all
returns-in_err-all c =
    let t = calls-take (32 ∷ []) paths-more (λ p x q t. t) c.in_err-all.ensures in
    rw c.from_residual.ensures (record { kept = t.kept; came = paths-unread _ _ t })

pub returns-then-self-before : goal.returns-then-self-before
returns-then-self-before c =
    let t = calls-take (32 ∷ []) paths-more (λ p x q t. t) c.in_ok-all.ensures in
    record { kept = t.kept; came = no-paths _ _ t.came c.if-self-before.true }

pub returns : goal.returns
unfolding footer
returns c =
    let t = calls-take (32 ∷ []) paths-more (λ p x q t. t) c.in_ok-all.ensures in
    line-takes _ _ t.came _ _ c.if-self-before.false t.kept c.word.ensures
