use Prim.Native.Nat.{◌-◌}
use lib.ListN.{length}
use Rattle.std.specs.Prelude.{Option}
use Rattle.notation.specs.Code.Readings.{Kept, At, Ran}
use Rattle.notation.specs.declared.take.Reading.{Reading}
use Rattle.notation.proofs.take.Reading.all.Given as goal

-- what the items from here on come to is what all of them come to
abbrev pub invariant-loop-item : goal.invariant-loop-item
invariant-loop-item g l =
    Kept l.initial.self l.self
    × ((x : Option (Unit {0})) (v : Reading) → Ran l.word (At (λ p x q. goal.F-post g l.item p x q)) l.self x v → Ran l.word (At (λ p x q. goal.F-post g l.item p x q)) l.initial.self x v)

abbrev pub decreases-loop-item : goal.decreases-loop-item
decreases-loop-item g l = length l.self.text.now - l.self.tally.at
