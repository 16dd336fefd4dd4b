-- What is printed is determined by the set and the report.
use Prim.Native.Nat.{ℕ}
use mathlib.Core.Path.{◌≡◌, refl, sym, ap, ◌∙◌}
use mathlib.Core.List.{List, ◌∷◌}
use Rattle.notation.specs.Sets.{Path, FolderSet}
use Rattle.documents.specs.Tree.{Document}
use Rattle.documents.specs.Document.{document_in}
use Rattle.documents.proofs.Laws.Trees.OneDocument.{one-document}
use Rattle.filing.specs.Printed.{Selecting, no_paths, chosen, left, LinesFor, no_folders, line, no_line, PrintedFor}
use Rattle.text.proofs.Laws.Tests.{zero_one}
use Rattle.filing.proofs.Laws.Filing.FilingMoves.{moves-once}

pub selecting-once : {d : Document} {ps qs rs : List Path} → Selecting d ps qs → Selecting d ps rs → qs ≡ rs
selecting-once no_paths no_paths = refl
selecting-once (chosen {p = p} x l) (chosen y r) = ap (◌∷◌ p) (selecting-once l r)
selecting-once (chosen x l) (left never r) = absurd (never x)
selecting-once (left never l) (chosen y r) = absurd (never y)
selecting-once (left never l) (left also r) = selecting-once l r

pub lines-once : {d : Document} {fs : FolderSet} {x y : List ℕ} → LinesFor d fs x → LinesFor d fs y → x ≡ y
lines-once no_folders no_folders = refl
lines-once (line a l) (line b r) =
    let same = selecting-once a b in
    rw (same, lines-once l r)
lines-once (line a l) (no_line b r) = let same = selecting-once a b in zero_one (cc)
lines-once (no_line a l) (line b r) = let same = selecting-once a b in zero_one (cc)
lines-once (no_line a l) (no_line b r) = lines-once l r

pub listing-once : (s : FolderSet) (report x y : List ℕ) → PrintedFor s report x → PrintedFor s report y → x ≡ y
listing-once s report x y p q =
    let same : document_in q.has ≡ document_in p.has = one-document report q.has p.has in
    let lines : p.lines ≡ q.lines = lines-once p.folders (rw same at q.folders) in
    let moves : p.moves ≡ q.moves = moves-once s p.counted (rw same at q.counted) in
    p.printed ∙ rw (lines, moves, ← same) (sym q.printed)
