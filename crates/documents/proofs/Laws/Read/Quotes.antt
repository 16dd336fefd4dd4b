-- Reading a quote.
use Prim.Native.Nat.{ℕ}
use mathlib.Core.Path.{◌≡◌, sym, ap}
use mathlib.Core.List.{List, [], ◌∷◌}
use lib.Dec.{eqb}
use borrow.Author.Tests.{eqb-true}
use Rattle.documents.specs.Tokens.{quote_byte}
use Rattle.documents.specs.Reading.{read_quote}
use Rattle.text.proofs.Laws.Reads.{WhenRead, failed, gotten, when-holds, cond-holds}

pub quote-sound : (l : List ℕ) → WhenRead (λ q r. quote_byte q ∷ r ≡ l) (read_quote l)
quote-sound [] = failed
quote-sound (b ∷ l) =
    cond-holds (eqb b 34) (λ t. gotten (ap (λ (c : ℕ). c ∷ l) (sym (eqb-true b 34 t))))
    (λ f. when-holds (eqb b 39) (λ t. gotten (ap (λ (c : ℕ). c ∷ l) (sym (eqb-true b 39 t)))))
