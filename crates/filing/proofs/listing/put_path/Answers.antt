-- `listing::put_path`: the path's text between its brackets.
use Rattle.text.specs.Output.{a_piece}
use Rattle.text.proofs.Laws.Output.{one}
use Rattle.filing.specs.Listed.{path_listed}
use Rattle.filing.proofs.listing.put_path.Goals as goal

pub returns : goal.returns
unfolding path_listed
returns g c = a_piece c.put.ensures (a_piece (rw c.path_text.ensures at c.put-2.ensures) (one c.put-3.ensures))
