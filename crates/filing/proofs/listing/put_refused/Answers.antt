-- `listing::put_refused`: word, number, and the line's end.
use mathlib.Core.List.{append_assoc}
use Rattle.text.specs.Decimal.{decimal}
use Rattle.notation.specs.Print.{footer}
use Rattle.text.proofs.Laws.Output.{one, and_then, same_bytes}
use Rattle.filing.specs.Listing.{refused_word, refused_line}
use Rattle.filing.proofs.listing.put_refused.Goals as goal

pub returns : goal.returns
unfolding refused_line refused_word footer
returns g c = same_bytes (and_then (rw c.from.ensures at c.put_numbered.ensures) (one c.put.ensures)) (append_assoc refused_word (decimal c.args.n) footer)
