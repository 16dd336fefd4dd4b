-- `order::sort` meets its contract. The measure is the number of offsets.
use native.Mathlib.Omega.{arith}
use mathlib.Core.Path.{ap}
use Rattle.std.specs.Result.{is_err}
use Rattle.std.proofs.lemmas.Result.{err_from_is_err_and}
use Rattle.reports.proofs.Laws.Ordered.Sorted.{few}
use Rattle.reports.proofs.Laws.Ordered.Halves.{halves-joined, halves-met, left-twice, right-twice}
use Rattle.reports.proofs.order.+sort.Goals as goal

pub returns-then-n-lt2 : goal.returns-then-n-lt2
returns-then-n-lt2 t c = few c.args.s.now c.args.places.now c.if-n-lt2.true

-- a name twice in the first half
pub returns-in_err-sort : goal.returns-in_err-sort
returns-in_err-sort t c =
    rw (ap is_err (err_from_is_err_and _ c.from_residual.ensures.1).1)
    (left-twice c.args.places.now c.sort.new.places _ (omega arith) c.sort.auto.places c.args.s.now _ c.sort.ensures (ap is_err c.in_err-sort.was))

-- in the second half
pub returns-in_err-sort-2 : goal.returns-in_err-sort-2
returns-in_err-sort-2 t c =
    rw (ap is_err (err_from_is_err_and _ c.from_residual-in_err-sort-2.ensures.1).1)
    (right-twice c.args.places.now c.sort.new.places _ (omega arith) c.sort.auto.places c.args.s.now _ c.sort-2.ensures (ap is_err c.in_err-sort-2.was))

-- in both, or not at all
pub returns-in_err-merge : goal.returns-in_err-merge
returns-in_err-merge t c =
    rw (ap is_err (err_from_is_err_and _ c.from_residual-in_err-merge.ensures.1).1)
    (halves-met c.args.places.now c.sort.new.places _ (omega arith) c.sort.auto.places c.sort-2.new.places c.sort-2.auto.places c.args.s.now
    c.sort.ensures c.sort-2.ensures (ap is_err c.in_ok-sort.was) (ap is_err c.in_ok-sort-2.was) c.merge.new.out c.merge.ensures (ap is_err c.in_err-merge.was) _)

pub returns : goal.returns
returns t c =
    let merged = halves-joined c.args.places.now c.sort.new.places _ (omega arith) c.sort.auto.places c.sort-2.new.places c.sort-2.auto.places c.args.s.now
    c.sort.ensures c.sort-2.ensures (ap is_err c.in_ok-sort.was) (ap is_err c.in_ok-sort-2.was) c.merge.new.out c.merge.ensures in
    rw c.copy_all.ensures (rw (ap is_err c.in_ok-merge.was) at merged)
