-- A report has at most one document, and what a path selects in it is what fits after some open.
use Prim.Native.Nat.{ℕ}
use mathlib.Core.Path.{◌≡◌, ap}
use mathlib.Core.Logic.{◌↔◌}
use mathlib.Core.List.{List, Memᴰ}
use Rattle.text.specs.Names.{Name}
use Rattle.notation.specs.Sets.{Path}
use Rattle.notation.specs.Fit.{Fits}
use Rattle.documents.specs.Tree.{Place, kind_at}
use Rattle.documents.specs.XPath.{IsElement, selected}
use Rattle.documents.specs.Document.{document_of, Report, document_in}
use Rattle.documents.specs.Code.Events.{passed_in}
use Rattle.documents.proofs.Laws.Printed.OneRun.{one-run}
use Rattle.documents.proofs.Laws.Trees.Balance.{one-tree}
use Rattle.documents.proofs.Laws.Trees.Passed.{selects-passed}

pub one-document : (bytes : List ℕ) (r s : Report bytes) → document_in r ≡ document_in s
one-document bytes r s =
    ap document_of (one-tree r.run.tokens s.run.tokens (one-run bytes r.run s.run) r.tree s.tree)

-- demand 2, of a report's bytes
pub report-selects : (bytes : List ℕ) (r : Report bytes) (p : Path)
    → ((x : Place) × IsElement (kind_at (document_in r) x) × selected (document_in r) p x)
    ↔ ((l : List Name) × Memᴰ l (passed_in r) × Fits p l)
report-selects bytes r p = selects-passed r.run.tokens r.tree p
