-- `words::word_at`: the word and the bytes, side by side.
use Prim.Native.Nat.{◌+◌}
use mathlib.Core.Path.{sym, ◌∙◌}
use native.Mathlib.Omega.{arith}
use native.Mathlib.Numerals.{add-one}
use native.Mathlib.Nat.{add-suc}
use lib.ListN.{length-drop}
use Rattle.text.proofs.Laws.Scans.{begins-no, begins-yes, begins-end, begins-short}
use Rattle.text.proofs.words.word_at.Goals as goal

pub returns-then-saturating_sub-w : goal.returns-then-saturating_sub-w
returns-then-saturating_sub-w c = let a = c.args in sym (begins-short _ _ (rw (length-drop a.at a.s.now) (rw c.saturating_sub.ensures at c.if-saturating_sub-w.true)))

pub returns-then-s-at : goal.returns-then-s-at
returns-then-s-at c =
    let a = c.args in
    let i = c.loop-i.i in
    sym (c.loop-i.invariant ∙ begins-no a.w.now a.s.now i (a.at + i) (omega arith) (omega arith) c.if-s-at.true)

pub loop-i-preserved : goal.loop-i-preserved
loop-i-preserved c =
    let a = c.args in
    let i = c.loop-i.i in
    rw (add-one, add-suc) (c.loop-i.invariant ∙ begins-yes a.w.now a.s.now i (a.at + i) (omega arith) (omega arith) c.if-s-at.false)

pub returns : goal.returns
returns c =
    let a = c.args in
    let i = c.loop-i.i in
    sym (c.loop-i.invariant ∙ begins-end a.w.now a.s.now i (a.at + i) (omega arith))
