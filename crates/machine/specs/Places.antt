-- Labels by their places.
use Rattle.std.specs.Prelude.{ℕ, Option, Some, None}
use Rattle.machine.specs.declared.automaton.Label.{Label}

-- the place of a label, 0 for none
abbrev pub place_of : Option Label → ℕ
place_of None = 0
place_of (Some l) = l.place
