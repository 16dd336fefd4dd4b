-- `listing::write_listing`: the refusal, or the listing, which has room.
use native.Mathlib.Omega.{arith}
use mathlib.Core.Path.{sym}
use Rattle.text.proofs.Laws.Output.{same-buffer, written_as}
use Rattle.filing.specs.Listed.{listing_in, listing_conditions}
use Rattle.filing.proofs.Laws.Listing.Written.{listing-room}
use Rattle.filing.proofs.listing.write_listing.Goals as goal

pub returns : goal.returns
returns c = let a = c.args in
    let conditions = listing_conditions a.a.now a.run.now a.c a.out.now in
    let text = listing_in a.a.now a.run.now a.c in
    let z = sym (c.in_ok-check.ensures) in
    let l = listing-room a.a.now a.run.now a.c a.out.now z in
    let x = rw c.new-front.ensures at c.put_listing.ensures in
    let same = same-buffer conditions text _ z l x in
    written_as conditions text _ z l x _ _ _ c.written.ensures (grind (arith, same))
