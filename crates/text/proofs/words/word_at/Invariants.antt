-- The answer is whether the rest of the word stands at the rest of the bytes.
use Prim.Native.Nat.{◌+◌}
use mathlib.Core.Path.{◌≡◌}
use lib.ListN.{drop}
use Rattle.text.specs.Read.{starts_with}
use Rattle.text.proofs.words.word_at.Given as goal

abbrev pub invariant-loop-i : goal.invariant-loop-i
invariant-loop-i l = starts_with l.w (drop l.at l.s) ≡ starts_with (drop l.i l.w) (drop (l.at + l.i) l.s)
