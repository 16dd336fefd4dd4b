-- A word at an offset, as the library tests it.
use Prim.Native.Nat.{ℕ}
use mathlib.Core.Path.{◌≡◌, sym, ap, ◌∙◌}
use mathlib.Core.Bool.{Bool}
use mathlib.Core.List.{List}
use lib.Dec.{eqb}
use lib.ListN.{length, drop}
use Rattle.std.specs.List.{slice_range}
use Rattle.std.specs.List as list
use Rattle.std.proofs.lemmas.List.{take_rest}
use Rattle.text.specs.Read.{starts_with}
use Rattle.text.proofs.Laws.Scans.{begins-is}

-- the bytes from an offset on, as the library gives them, and a word that they begin with
pub tail_word : (s w l : List ℕ) (at : ℕ) (b : Bool) → l ≡ slice_range s at (length s) → b ≡ list.starts_with eqb l w → b ≡ starts_with w (drop at s)
tail_word s w l at b e f = f ∙ ap (λ (x : List ℕ). list.starts_with eqb x w) (e ∙ take_rest s at) ∙ sym (begins-is w (drop at s))
