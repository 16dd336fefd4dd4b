-- All that is promised of the class sheet.
use Prim.Native.Nat.{ℕ, ◌≤◌}
use native.Mathlib.Omega.{arith}
use mathlib.Core.Path.{◌≡◌, refl, ◌∙◌, ap}
use mathlib.Core.Bool.{true, false}
use mathlib.Core.List.{List, map}
use lib.ListN.{length}
use Rattle.notation.specs.Limits.{max_number, max_paths}
use Rattle.stored.specs.Shape.{automaton_shaped}
use Rattle.stored.specs.Asking.{place_matched}
use Rattle.filing.proofs.Laws.Listing.Shown.{shown-once, shown-some}
use Rattle.filing.proofs.Laws.Demand1.Calls.{written-by}
use Rattle.filing.proofs.Laws.Demand1.Shown.{printed-by}
use Rattle.sheets.specs.Limits.{number_width, path_width, line_width, body_lines, page_size, max_pages, sheet_size}
use Rattle.sheets.specs.Sheet.{sheet, pages_for}
use Rattle.sheets.specs.SheetIn.{place_row, rows_in, sheet_in, sheet_conditions}
use Rattle.sheets.specs.SheetOf.{SheetFor}
use Rattle.sheets.specs.ClassSheet.{blank_sheet, OfShaped, ClassSheet}
use Rattle.sheets.proofs.Laws.Page.Pages.{pages-are, pages-most}
use Rattle.sheets.proofs.Laws.Page.Lines.{in_lines-is, sheet-length, sheet-blank}
use Rattle.sheets.proofs.Laws.Stored.Shaped.{rows_few, rows-small, sheet-fits}
use Rattle.sheets.proofs.Laws.Stored.Numbered.{number_of, places-are, places-rise}
use Rattle.sheets.proofs.Laws.Filed.Selected.{sheet-once, sheet-total, no_rows, none-selects, rows-added}
use Rattle.sheets.proofs.Laws.Filed.Same.{none_from}
use Rattle.sheets.proofs.Laws.Filed.SetRows.{sheet-plain, blank_none}
use Rattle.sheets.proofs.Laws.Page.Content.{of-rows}
use Rattle.sheets.proofs.Laws.Filed.Faithful.{of-filed}

of-shaped : (a run : List ℕ) → automaton_shaped a ≡ true → OfShaped a run
unfolding sheet_in max_pages max_number
of-shaped a run h =
    let rows = rows_in a run in
    let few : pages_for (length rows) ≤ 4 = pages-most (length rows) (rows_few a run) in
    record {
      pages = pages_for (length rows);
      fewest = pages-are (length rows);
      in_lines = in_lines-is rows (rows-small a run h) (omega arith);
      size = sheet-length rows (rows-small a run h) (omega arith);
      most = sheet-fits a run h;
    }

-- nothing matched
none-matched : (a run : List ℕ) → ((p : ℕ) → place_matched a run (record { 0 = p }) ≡ false) → sheet_in a run ≡ blank_sheet
unfolding sheet_in rows_in
none-matched a run h = ap (λ (l : List ℕ). sheet (map (place_row a) l)) (none_from a run (λ _. true) 0 max_paths (λ i k. h i)) ∙ sheet-blank

pub class-sheet : ClassSheet
unfolding sheet_size max_pages page_size body_lines line_width number_width path_width
class-sheet = record {
  measures = (refl, (refl, refl));
  writes = λ a run before answer after w. written-by (sheet_conditions a run before) (sheet_in a run) before answer after w;
  prints = printed-by sheet_size SheetFor sheet-total;
  rows = of-rows;
  stored = λ a run. record { places = places-are a run; rising = places-rise a run; few = rows_few a run; numbers = number_of a; none = none-matched a run };
  shaped = of-shaped;
  filed = of-filed;
  once = sheet-once;
  printed = λ text report.
      let (bytes, x) = shown-some SheetFor sheet-total text report in
      (bytes, x, λ y z. shown-once SheetFor sheet-once report text y bytes z x);
  plain = sheet-plain;
  blank = λ text s acc report bytes x. (
    λ e. none-selects x.selecting (blank_none text s acc report bytes x e),
    λ none. x.printed ∙ ap sheet (no_rows x.selecting none) ∙ sheet-blank,
  );
  adding = λ text larger-text s larger acc more_acc has. rows-added s larger acc.rising more_acc.rising has;
}
