-- `filed`: the buffers have their sizes, so that something is printed.
use native.Mathlib.Omega.{arith}
use Rattle.notation.specs.Limits.{max_set_bytes}
use Rattle.stored.specs.Automaton.{automaton_size}
use Rattle.stored.specs.Run.{run_size}
use Rattle.filing.specs.Limits.{listing_size, max_moves_line}
use Rattle.filing.specs.Printed.{PrintedFor}
use Rattle.filing.proofs.Laws.Listing.PrintedText.{listing-total}
use Rattle.programs.proofs.Laws.Shows.{shows}
use Rattle.filer.proofs.filed.Goals as goal

pub returns : goal.returns
unfolding automaton_size run_size listing_size max_moves_line max_set_bytes
returns c =
    let p = c.print_filing in
    shows listing_size PrintedFor listing-total _ _ _ _ _ p.result _ _ _ (omega (arith, c.told-automaton)) (omega (arith, c.told-run)) (omega (arith, c.told-out)) p.ensures
