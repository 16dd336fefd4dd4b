-- What the filing program's one call promises, from the bytes of a set and a report to the bytes that are printed: the number of a refusal, or
-- the listing of the filed report.
use Rattle.std.specs.Prelude.{ℕ, List, Result}
use Rattle.text.specs.declared.refusals.Refusal.{Refusal}
use Rattle.filing.specs.Limits.{listing_size}
use Rattle.filing.specs.Printed.{PrintedFor}
use Rattle.filing.specs.Shown.{PrintsBy}

abbrev pub Prints : List ℕ → List ℕ → List ℕ → List ℕ → List ℕ → Result ℕ Refusal → List ℕ → List ℕ → List ℕ → Type 0
Prints = PrintsBy listing_size PrintedFor
