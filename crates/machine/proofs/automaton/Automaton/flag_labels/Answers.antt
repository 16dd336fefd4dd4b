use native.Mathlib.Omega.{arith}
use mathlib.Core.Path.{◌≡◌, refl, sym, ◌∙◌, ap}
use mathlib.Core.Bool.{Bool, ◌||◌, or-false}
use Prim.Native.Nat.{ℕ, suc, ◌<◌}
use Rattle.notation.specs.Limits.{max_labels}
use Rattle.notation.specs.Reads.{label_count}
use Rattle.machine.specs.Places.{place_of}
use Rattle.stored.specs.Tables.{far_at}
use Rattle.stored.specs.Bits.{bit_at}
use Rattle.stored.specs.Marked.{marked_from}
use Rattle.stored.proofs.Laws.Tables.Along.{closer}
use Rattle.stored.proofs.Laws.Tables.MarkTurns.{marked-none, flagged}
use Rattle.machine.proofs.automaton.Automaton.flag_labels.Goals as goal

pub loop-next-init : goal.loop-next-init
loop-next-init c = record { within = c.requires.within; rest = λ j. refl }

pub flag_label-requires : goal.flag_label-requires
flag_label-requires c =
    let p : place_of c.loop-next.next ≡ suc c.number-l.result = ap place_of c.in-Some.is ∙ sym c.number-l.ensures in
    let there : c.number-l.result < label_count c.args.self.now = rw p at c.loop-next.invariant.within in
    omega (arith, c.requires.openable.walkable.searchable.lookable.few)

pub linked-next-requires : goal.linked-next-requires
linked-next-requires c =
    let p : place_of c.loop-next.next ≡ suc c.number-l.result = ap place_of c.in-Some.is ∙ sym c.number-l.ensures in
    let there : c.number-l.result < label_count c.args.self.now = rw p at c.loop-next.invariant.within in
    record { label = omega (arith, c.requires.openable.walkable.searchable.lookable.few); field = omega arith }

pub loop-next-smaller : goal.loop-next-smaller
loop-next-smaller c =
    let a = c.args.self.now in
    let l = c.number-l.result in
    let p : place_of c.loop-next.next ≡ suc l = ap place_of c.in-Some.is ∙ sym c.number-l.ensures in
    let there : l < label_count a = rw p at c.loop-next.invariant.within in
    rw (p, c.linked-next.ensures.place) (closer a l (far_at a l) there (c.requires.openable.far l there))

pub loop-next-preserved : goal.loop-next-preserved
loop-next-preserved c =
    let a = c.args.self.now in
    let l = c.number-l.result in
    let turn = c.loop-next in
    let p : place_of turn.next ≡ suc l = ap place_of c.in-Some.is ∙ sym c.number-l.ensures in
    let there : l < label_count a = rw p at turn.invariant.within in
    let next = c.linked-next.ensures.place in
    record {
      within = rw next (c.requires.openable.far l there).within;
      rest = λ j.
          ap (λ (k : ℕ). bit_at c.flag_label.new.out j || marked_from max_labels a k j) next
          ∙ (flagged a c.requires.openable l there j (bit_at c.flag_label.new.out j) (bit_at turn.out j) (c.flag_label.ensures j)
          ∙ (ap (λ k. bit_at turn.out j || marked_from max_labels a k j) (sym p) ∙ turn.invariant.rest j));
    }

pub returns : goal.returns
returns c =
    let a = c.args.self.now in
    let turn = c.loop-next in
    λ j.
    sym (or-false (bit_at turn.out j))
    ∙ (ap (λ (x : Bool). bit_at turn.out j || x) (sym (marked-none max_labels a j) ∙ ap (λ o. marked_from max_labels a (place_of o) j) (sym c.in_default.is))
    ∙ turn.invariant.rest j)
