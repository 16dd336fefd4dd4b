-- Words at an offset, as std tests them, and byte by byte.
use Prim.Native.Nat.{ℕ, ◌+◌, ◌-◌, ◌<◌}
use mathlib.Core.Path.{◌≡◌, sym, ap, ◌∙◌}
use mathlib.Core.Bool.{Bool, ◌&&◌}
use mathlib.Core.List.{List, ◌∷◌}
use lib.Dec.{eqb, ltb}
use lib.ListN.{length, get_or, take, drop}
use borrow.Author.Tests.{ltb-true, ltb-false, eqb-true, eqb-false}
use Rattle.std.proofs.lemmas.List.{take_rest}
use Rattle.std.specs.List.{starts_with as begins}
use Rattle.text.specs.Read.{starts_with}
use Rattle.text.proofs.Laws.Scans.{begins-other, begins-here, begins-past, begins-is}
use Rattle.text.proofs.Laws.Tests.{cases}
use Rattle.reports.specs.Code.Seen.{has_byte}

-- what std's test of the slice from an offset on tells of a word
pub told : (s w : List ℕ) (at : ℕ) {t u : Bool} → t ≡ begins eqb (take (length s - at) (drop at s)) w → t ≡ u → starts_with w (drop at s) ≡ u
told s w at e is = begins-is w (drop at s) ∙ sym (ap (λ (l : List ℕ). begins eqb l w) (take_rest s at)) ∙ sym e ∙ is

-- a word stands at an offset if its first byte does, and the rest behind it
pub by_byte : (s : List ℕ) (i b : ℕ) (w : List ℕ) → starts_with (b ∷ w) (drop i s) ≡ (has_byte s i b && starts_with w (drop (i + 1) s))
by_byte s i b w =
    cases (ltb i (length s))
    (λ t.
    let h : i < length s = ltb-true i (length s) t in
    cases (eqb (get_or s i 0) b)
    (λ x. rw (t, x) (begins-here b w s i h (eqb-true (get_or s i 0) b x)))
    (λ x. rw (t, x) (begins-other b w s i h (eqb-false (get_or s i 0) b x))))
    (λ f. rw f (begins-past b w s i (ltb-false i (length s) f)))
