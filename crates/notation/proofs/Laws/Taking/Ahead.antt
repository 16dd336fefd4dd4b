-- A word ahead, and what is read past it.
use Prim.Native.Nat.{ℕ, ◌+◌, ◌≤◌}
use native.Mathlib.Omega.{arith}
use mathlib.Core.Path.{◌≡◌}
use mathlib.Core.Bool.{true, false}
use mathlib.Core.List.{List, [], ◌∷◌}
use lib.ListN.{length, drop}
use lib.Seq.{drop-drop}
use Rattle.text.specs.Read.{fail, got, starts_with, read_word}
use Rattle.text.proofs.Laws.Reads.{word-is, word_fits}
use Rattle.notation.specs.Code.Taking.{moved_tally, Small}
use Rattle.notation.specs.declared.tally.Tally.{Tally}

-- no word stands there
pub no-word : (w l : List ℕ) → starts_with w l ≡ false → read_word w l ≡ fail
no-word w l f = rw (word-is w l, f)

-- a word stands at an offset: what follows it is read
pub past-word : (w text : List ℕ) (at : ℕ) → starts_with w (drop at text) ≡ true → read_word w (drop at text) ≡ got [] (drop (at + length w) text)
past-word w text at t = rw (word-is w (drop at text), t, drop-drop (length w) at text)

-- it ends within the bytes
pub word-ends : (w text : List ℕ) (at : ℕ) → at ≤ length text → starts_with w (drop at text) ≡ true → at + length w ≤ length text
word-ends [] text at on y = omega arith
word-ends (b ∷ w) text at on y = word_fits (b ∷ w) text at (omega arith) y

-- so many bytes on
pub moved-small : {text : List ℕ} {t : Tally} (n : ℕ) → Small text t → t.at + n ≤ length text → Small text (moved_tally n t)
moved-small n k h = record {
  short = k.short;
  at = h;
  folders = omega (arith, k.folders);
  paths = omega (arith, k.paths);
  steps = omega (arith, k.steps);
  labels = omega (arith, k.labels);
}

pub ruleset words = (no-word, past-word, word-ends, moved-small)
