-- The refusals, and the number that each returns.
use Rattle.std.specs.Prelude.{ℕ}
use Rattle.text.specs.declared.refusals.Refusal.{Refusal}
use Rattle.text.specs.declared.refusals.Refusal.TheVariants.{ShortBuffer, TooLarge, MalformedSet, OutOfOrder, NameTooLong, PathTooLong, OverCapacity, InvalidByte, SyntaxError, NotOneRoot, TooDeep, MismatchedClose, NotFound, BadShape, RepeatedAttribute}

abbrev pub number_of : Refusal → ℕ
number_of ShortBuffer = 1
number_of TooLarge = 2
number_of MalformedSet = 3
number_of OutOfOrder = 4
number_of NameTooLong = 5
number_of PathTooLong = 6
number_of OverCapacity = 7
number_of InvalidByte = 8
number_of SyntaxError = 9
number_of NotOneRoot = 10
number_of TooDeep = 11
number_of MismatchedClose = 12
number_of NotFound = 13
number_of BadShape = 14
number_of RepeatedAttribute = 15
