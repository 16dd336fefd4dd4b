-- `lines::put_path`: the front of a path that is cut has the length that the code takes.
use native.Mathlib.Omega.{arith}
use mathlib.Core.Path.{sym}
use lib.Seq.{length-take-le}
use Rattle.sheets.proofs.lines.put_path.Goals as goal

pub slice_bounds-put-end : goal.slice_bounds-put-end
slice_bounds-put-end g c = sym (length-take-le 65 c.args.path.now (omega (arith, c.if-size-le-PATH_WIDTH.false)))
