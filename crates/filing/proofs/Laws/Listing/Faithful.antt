-- The listing of what filing left is that of the report's document.
use Prim.Native.Nat.{ℕ, ◌≤◌}
use mathlib.Core.Path.{sym, subst}
use mathlib.Core.List.{List, ◌++◌}
use lib.ListN.{length, drop}
use Rattle.std.specs.Prelude.{Result}
use Rattle.text.specs.declared.refusals.Refusal.{Refusal}
use Rattle.notation.specs.Sets.{FolderSet}
use Rattle.notation.specs.Accepted.{Accepted}
use Rattle.stored.specs.Run.{run_size, run_of}
use Rattle.stored.proofs.Laws.Shapes.Passing.{counters_of}
use Rattle.stored.specs.Build.{Built}
use Rattle.stored.specs.declared.counters.Counters.{Counters}
use Rattle.stored.proofs.Laws.Building.BuiltSet.{built-means}
use Rattle.filing.specs.Limits.{listing_size, line-within}
use Rattle.filing.specs.Filing.{filed}
use Rattle.filing.specs.ReportRefusals.{Files}
use Rattle.filing.specs.Code.Filing.{file_with}
use Rattle.filing.specs.Listing.{listing}
use Rattle.filing.specs.Listed.{ListingWritten}
use Rattle.filing.specs.Printed.{PrintedFor}
use Rattle.filing.specs.Shown.{Faithful, PrintsText}
use Rattle.filing.proofs.Laws.Filing.FilingOrder.{filing-is}
use Rattle.filing.proofs.Laws.Filing.FilingParts.{given-filed}
use Rattle.filing.proofs.Laws.Filing.FromBytes.{answer-is, left-filed}
use Rattle.filing.proofs.Laws.Listing.PrintedOnce.{listing-once}
use Rattle.filing.proofs.Laws.Listing.PrintedXPath.{listing-printed}
use Rattle.filing.proofs.Laws.Listing.Showing.{text-printed}
use Rattle.filing.proofs.Laws.Listing.Whole.{listing-fits, not-refused, listing-written}

listing-filed : (text before a : List ℕ) (s : FolderSet) → Accepted text s → Built text before 0 a
    → (report run : List ℕ) → run_size ≤ length run → (c : Counters) (run' : List ℕ) (c' : Counters) → Files a run c report 0 run' c'
    → (out : List ℕ) → listing_size ≤ length out → (answer : Result ℕ Refusal) (out' : List ℕ) → ListingWritten a run' c' out answer out'
    → (bytes : List ℕ) × PrintedFor s report bytes × PrintsText listing_size bytes out answer out'
listing-filed text before a s acc b report run long c run' c' files out room answer out' w =
    let means = built-means text s acc before a b in
    let (m, e) = given-filed (file_with s report) (sym (answer-is s a means run long c report 0 run' c' files)) in
    let (few, r, k) = left-filed s a means run long c report 0 run' c' files m e in
    let rest = drop run_size run in
    let same : ListingWritten a (run_of s m ++ rest) (counters_of m) out answer out' =
    subst (λ (x : List ℕ). ListingWritten a x (counters_of m) out answer out') r (subst (λ (x : Counters). ListingWritten a run' x out answer out') k w) in
    let written = listing-written s a means m few rest out out' answer room same in
    let printed = text-printed (listing-fits s a means m few rest) room written (not-refused s a means m few rest out room) in
    (listing s m, listing-printed s report m ((filing-is s report (filed m)).1 e), printed)

pub listing_faithful : Faithful listing_size PrintedFor ListingWritten
listing_faithful = record { line = line-within; once = listing-once; filed = listing-filed }
