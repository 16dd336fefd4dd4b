-- `listing::write_line`: the line, which has room.
use native.Mathlib.Omega.{arith}
use Prim.Native.Nat.{◌≤◌}
use mathlib.Core.List.{[]}
use lib.ListN.{length}
use Rattle.text.proofs.Laws.Order.{given-none}
use Rattle.text.proofs.Laws.Output.{same-buffer, written_as}
use Rattle.filing.specs.Listing.{refused_line}
use Rattle.filing.proofs.Laws.Listing.Written.{refused-length}
use Rattle.filing.proofs.listing.write_line.Goals as goal

pub returns : goal.returns
returns c =
    let a = c.args in
    let x = rw c.new-front.ensures at c.put_refused.ensures in
    let l : length (refused_line a.n) ≤ length a.out.now = omega (arith, refused-length a.n (omega (arith, c.ranges.n)), c.requires) in
    let same = same-buffer [] (refused_line a.n) _ given-none l x in
    written_as [] (refused_line a.n) _ given-none l x _ _ _ c.written.ensures (grind (arith, same))
