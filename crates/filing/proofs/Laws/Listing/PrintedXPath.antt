-- From the bytes of a set and a report to the bytes that are printed, by XPath 1.0.
use Prim.Native.Nat.{ℕ, suc, ◌+◌, ◌<◌, suc-le-suc}
use mathlib.Core.Path.{◌≡◌, ap, ◌∙◌, subst}
use mathlib.Core.Bool.{Bool, true}
use mathlib.Core.Logic.{◌↔◌}
use mathlib.Core.List.{List, [], ◌∷◌, ◌++◌}
use lib.ListN.{length, get_or, length-append, get_or-append}
use lib.Seq.{get_or-append-add}
use native.Mathlib.Nat.{zero-add, add-zero, add-suc, suc-add}
use native.Mathlib.Omega.{arith}
use Rattle.notation.specs.Sets.{Path, folder, FolderSet}
use Rattle.notation.specs.Form.{paths_of}
use Rattle.notation.specs.Print.{footer}
use Rattle.model.specs.Calls.{State, fresh, run as after}
use Rattle.text.proofs.Laws.Tests.{cases, clash}
use Rattle.documents.specs.Tree.{Document}
use Rattle.documents.specs.Document.{Event, events_in, document_in}
use Rattle.filing.specs.Filing.{FiledWith, calls_in, all_accepted}
use Rattle.filing.specs.Demand2.{SelectsElement, OfDocument}
use Rattle.filing.specs.Listing.{filed_header, matched_paths, line_of, lines_from, moves_line, listing}
use Rattle.filing.specs.Printed.{Selecting, no_paths, chosen, left, LinesFor, no_folders, line, no_line, MovesIn, PrintedFor}
use Rattle.filing.proofs.Laws.Filing.FilingMoves.{calls-moves}
use Rattle.filing.proofs.Laws.Filing.Demand2.{of-document}

-- what is matched is what selects an element
module _ (d : Document) (matched : ℕ → Bool) where
  -- of the paths from this place on
  abbrev pub Matches : ℕ → List Path → Type 0
  Matches first ps = (j : ℕ) → j < length ps → (matched (first + j) ≡ true) ↔ SelectsElement d (get_or ps j [])

  pub paths-selecting : (first : ℕ) (ps : List Path) → Matches first ps → Selecting d ps (matched_paths matched first ps)
  unfolding matched_paths
  paths-selecting first [] h = no_paths
  paths-selecting first (p ∷ ps) h =
      let here : (matched first ≡ true) ↔ SelectsElement d p = rw add-zero at (h 0 (omega arith)) in
      let later = paths-selecting (suc first) ps (λ j k. rw (suc-add, ← add-suc) (h (suc j) (suc-le-suc k))) in
      cases (matched first)
      (λ t. rw t (chosen (here.0 t) later))
      (λ f. rw f (left (λ x. clash (here.1 x) f) later))

  line-for : (n : ℕ) (ps qs : List Path) (fs : FolderSet) (later : List ℕ) → Selecting d ps qs → LinesFor d fs later → LinesFor d (folder n ps ∷ fs) (line_of n qs ++ later)
  unfolding line_of
  line-for n ps [] fs later x r = no_line x r
  line-for n ps (q ∷ qs) fs later x r = line x r

  lines-for : (first : ℕ) (fs : FolderSet) → Matches first (paths_of fs) → LinesFor d fs (lines_from matched first fs)
  unfolding lines_from paths_of
  lines-for first [] h = no_folders
  lines-for first (folder n ps ∷ fs) h =
      line-for n ps (matched_paths matched first ps) fs (lines_from matched (first + length ps) fs)
      (paths-selecting first ps (λ j k.
      let l : j < length (ps ++ paths_of fs) = omega (arith, length-append ps (paths_of fs)) in
      rw (← get_or-append ps (paths_of fs) [] j k) (h j l)))
      (lines-for (first + length ps) fs (λ j k.
      let l : length ps + j < length (ps ++ paths_of fs) = omega (arith, length-append ps (paths_of fs)) in
      let e : first + length ps + j ≡ first + (length ps + j) = omega arith in
      rw (e, ← get_or-append-add ps (paths_of fs) j []) (h (length ps + j) l)))

-- a filed report's listing is that of its document
module _ (s : FolderSet) (report : List ℕ) (m : State) (f : FiledWith s report m) where
  pub listing-printed : PrintedFor s report (listing s m)
  unfolding listing
  listing-printed =
      let d : OfDocument s report m = of-document s report m f in
      let tree = d.report.tree in
      let all : all_accepted s (fresh s) (calls_in (events_in tree.nodes)) ≡ true =
      ap (λ (es : List Event). all_accepted s (fresh s) (calls_in es)) tree.same ∙ d.all_taken in
      let same : after s (calls_in (events_in tree.nodes)) ≡ m = ap (λ (es : List Event). after s (calls_in es)) tree.same ∙ d.machine in
      record {
        has = d.report;
        lines = lines_from m.matched 0 s;
        folders = lines-for (document_in d.report) m.matched 0 s (λ j k. rw zero-add (d.paths j));
        moves = m.moves;
        counted = subst (λ (x : State). MovesIn s [] (document_in d.report) x.moves) same (calls-moves s tree.nodes all);
        most = d.moves;
        printed = ap (λ (n : ℕ). filed_header ++ (lines_from m.matched 0 s ++ (moves_line n m.moves ++ footer))) d.opens;
      }
