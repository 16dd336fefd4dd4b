-- Every text and report have exactly one printed text.
use Prim.Native.Nat.{ℕ}
use mathlib.Core.Path.{◌≡◌}
use mathlib.Core.List.{List}
use Rattle.filing.specs.Listing.{listing}
use Rattle.filing.specs.Printed.{PrintedFor, PrintedText}
use Rattle.filing.proofs.Laws.Listing.PrintedOnce.{listing-once}
use Rattle.filing.proofs.Laws.Listing.PrintedXPath.{listing-printed}
use Rattle.filing.proofs.Laws.Listing.Shown.{Total, shown-some, shown-once}

pub listing-total : Total PrintedFor
listing-total s report m f = (listing s m, listing-printed s report m f)

module _ (text report : List ℕ) where
  pub printed-text-some : (bytes : List ℕ) × PrintedText text report bytes
  printed-text-some = shown-some PrintedFor listing-total text report

  pub printed-text-once : (x y : List ℕ) → PrintedText text report x → PrintedText text report y → x ≡ y
  printed-text-once = shown-once PrintedFor listing-once report text
