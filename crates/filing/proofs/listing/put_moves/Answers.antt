-- `listing::put_moves`: the two numbers, a space between them, and the line's end.
use Rattle.notation.specs.Print.{footer}
use Rattle.text.specs.Output.{a_piece}
use Rattle.text.proofs.Laws.Output.{one, and_then, same_bytes}
use Rattle.filing.specs.Listing.{moves_word}
use Rattle.filing.proofs.Laws.Listing.Steps.{moves-joined}
use Rattle.filing.proofs.listing.put_moves.Goals as goal

pub returns : goal.returns
unfolding footer moves_word
returns g c = same_bytes (and_then c.put_numbered.ensures (a_piece c.put.ensures (and_then c.put_number.ensures (one c.put-2.ensures)))) (moves-joined _ _)
