-- A number that was found at an offset.
use Rattle.std.specs.Prelude.{ℕ, ◌-◌, Option, Some, None, length}
use Rattle.text.specs.Read.{Read, fail, got}
use Rattle.text.specs.declared.numbers.Number.{Number}

-- its value, and where it ends in bytes of this length in all
abbrev pub number_found : ℕ → Read ℕ → Option Number
number_found total fail = None
number_found total (got n r) = Some (record { value = n; end = total - length r })
