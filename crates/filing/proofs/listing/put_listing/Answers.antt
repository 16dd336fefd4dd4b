-- `listing::put_listing`: the header, the folders, the moves and the footer.
use Rattle.notation.specs.Print.{footer}
use Rattle.text.specs.Output.{a_piece}
use Rattle.text.proofs.Laws.Output.{one, and_then}
use Rattle.filing.specs.Listing.{filed_header}
use Rattle.filing.specs.Listed.{listing_in}
use Rattle.filing.proofs.listing.put_listing.Goals as goal

pub returns : goal.returns
unfolding listing_in filed_header footer
returns g c = a_piece c.put.ensures (and_then c.put_folders.ensures (and_then c.put_moves.ensures (one c.put-2.ensures)))
