-- `shown`: the buffers have their sizes, so that something is printed.
use native.Mathlib.Omega.{arith}
use Rattle.stored.specs.Automaton.{automaton_size}
use Rattle.stored.specs.Run.{run_size}
use Rattle.sheets.specs.Limits.{sheet_size, max_pages, page_size, body_lines, line_width, number_width, path_width}
use Rattle.sheets.specs.SheetOf.{SheetFor}
use Rattle.sheets.proofs.Laws.Filed.Selected.{sheet-total}
use Rattle.programs.proofs.Laws.Shows.{shows}
use Rattle.sheet.proofs.shown.Goals as goal

pub returns : goal.returns
unfolding automaton_size run_size sheet_size max_pages page_size body_lines line_width number_width path_width
returns c =
    let p = c.print_sheet in
    shows sheet_size SheetFor sheet-total _ _ _ _ _ p.result _ _ _ (omega (arith, c.told-automaton)) (omega (arith, c.told-run)) (omega (arith, c.told-out)) p.ensures
