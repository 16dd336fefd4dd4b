-- `Tables::steps_shaped`: the bits of all kinds are those of a kind exactly if each kind is one.
use mathlib.Core.Path.{◌≡◌, ap, ◌∙◌}
use Prim.Native.Nat.{ℕ}
use mathlib.Core.List.{List}
use borrow.Author.Rules.{rules}
use lib.Dec.{ltb}
use lib.ListN.{length, get_or, take, drop}
use lib.Bits.{bit_or}
use Rattle.std.proofs.Common.{get_or-drop, get_or-take}
use Rattle.std.specs.List.{fold}
use Rattle.notation.specs.Layout.{step_kinds, steps_at}
use Rattle.notation.specs.Reads.{step_count}
use Rattle.stored.specs.Shape.{all_below, step_shaped}
use Rattle.stored.proofs.Laws.Bytes.AllBelow.{all-elements, all-same}
use Rattle.stored.proofs.Laws.Shapes.Tested.{or-all}
use Rattle.machine.proofs.shape.Tables.steps_shaped.Goals as goal

-- the kinds of the steps, as a part of the bytes
kinds : (a part : List ℕ) (n : ℕ) → part ≡ take n (drop steps_at a) → length part ≡ n → ltb (fold bit_or 0 part) step_kinds ≡ all_below n (step_shaped a)
kinds a part n e size =
    or-all 2 part 0
    ∙ (all-elements (λ k. ltb k step_kinds) part
    ∙ (ap (λ m. all_below m (λ i. ltb (get_or part i 0) step_kinds)) size
    ∙ all-same n (λ i. ltb (get_or part i 0) step_kinds) (step_shaped a) (λ i l. rw (e, get_or-take, get_or-drop))))

pub returns : goal.returns
returns c =
    let a = c.args.self.now in
    let n = c.self.inside.steps in
    let part = c.kinds-kinds.result.now in
    let bits : c.fold-bits.result ≡ fold bit_or 0 part = search rules in
    let steps : n ≡ step_count a = c.self.invariant.3 ∙ ap step_count c.self.view_is in
    let held : part ≡ take n (drop steps_at a) = c.kinds-kinds.ensures.value ∙ ap (λ b. take n (drop steps_at b)) c.self.view_is in
    ap (λ b. ltb b step_kinds) (c.from.ensures ∙ bits)
    ∙ (kinds a part n held c.kinds-kinds.ensures.size ∙ ap (λ m. all_below m (step_shaped a)) steps)
