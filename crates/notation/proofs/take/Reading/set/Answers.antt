-- `take::Reading::set`: the first line, the folders, the last line, and no byte more.
use mathlib.Core.List.{[], ◌∷◌}
use mathlib.Core.Path.{refl}
use Rattle.std.proofs.Common.{of_calls}
use Rattle.notation.specs.Print.{header, footer}
use Rattle.notation.specs.Code.Reader.{read_set}
use Rattle.notation.proofs.Laws.Reading.Folders.{folders-more}
use Rattle.notation.proofs.Laws.Taking.Readings.{calls-take, moves, kept-both}
use Rattle.notation.proofs.Laws.Taking.Folders.{folder-moves, folders-unread, no-footer, set-takes}
use Rattle.notation.proofs.take.Reading.set.Goals as goal

pub returns-in_err-word : goal.returns-in_err-word
unfolding read_set header
returns-in_err-word c = rw c.from_residual.ensures (record { kept = c.in_err-word.ensures.kept; came = rw c.in_err-word.ensures.came })

pub all-requires : goal.all-requires
all-requires c = λ k. ((refl, tt), (search of_calls, λ p x q t. moves folder-moves t))

pub returns-in_err-all : goal.returns-in_err-all
unfolding header
returns-in_err-all c =
    let w = c.in_ok-word.ensures in
    let t = calls-take (40 ∷ []) folders-more (λ p x q t. t) c.in_err-all.ensures in
    rw c.from_residual-in_err-all.ensures (record { kept = kept-both w.kept t.kept; came = folders-unread _ _ _ w.came t })

pub returns-in_err-word-2 : goal.returns-in_err-word-2
unfolding header footer
returns-in_err-word-2 c =
    let w = c.in_ok-word.ensures in
    let t = calls-take (40 ∷ []) folders-more (λ p x q t. t) c.in_ok-all.ensures in
    let l = c.in_err-word-2.ensures in
    rw c.from_residual-in_err-word-2.ensures (record { kept = kept-both w.kept (kept-both t.kept l.kept); came = no-footer _ _ _ w.came t.came _ l })

pub returns : goal.returns
unfolding header footer
returns c =
    let w = c.in_ok-word.ensures in
    let t = calls-take (40 ∷ []) folders-more (λ p x q t. t) c.in_ok-all.ensures in
    let l = c.in_ok-word-2.ensures in
    rw c.then_some.ensures (set-takes _ _ _ w.came t.came _ l.came (kept-both w.kept (kept-both t.kept l.kept)))
