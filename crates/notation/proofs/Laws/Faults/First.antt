-- The first fault of two parts of a text is that of the first part, or else that of the second.
use mathlib.Core.Path.{◌≡◌, refl}
use mathlib.Core.List.{List, [], ◌∷◌, ◌++◌}
use Rattle.std.specs.Prelude.{Option, Some, None}
use Rattle.std.specs.Option.{option_or}
use Rattle.text.specs.declared.refusals.Refusal.{Refusal}
use Rattle.notation.specs.Code.Taking.{first_of}

pub or-assoc : (a b c : Option Refusal) → option_or (option_or a b) c ≡ option_or a (option_or b c)
or-assoc None b c = refl
or-assoc (Some r) b c = refl

pub or-none : (a : Option Refusal) → option_or a None ≡ a
or-none None = refl
or-none (Some r) = refl

pub first-append : (xs ys : List Refusal) → first_of (xs ++ ys) ≡ option_or (first_of xs) (first_of ys)
first-append [] ys = refl
first-append (r ∷ xs) ys = refl
