-- The elements that a list of calls opens, their depths, and which are childless (paper 01: no open was accepted while it was innermost).
use Rattle.std.specs.Prelude.{ℕ, suc, ◌+◌, Bool, true, false, List, [], ◌∷◌, length}
use Rattle.model.specs.Calls.{Call, open_call, close_call}

-- an element's depth, and whether it is childless so far
pub data Element : Type 0 where
  element : ℕ → Bool → Element

-- the elements still open, innermost first, and those that were closed
pub data Elements : Type 0 where
  elements : List Element → List Element → Elements

abbrev pub open_elements : Elements → List Element
open_elements (elements inner gone) = inner

abbrev pub closed_elements : Elements → List Element
closed_elements (elements inner gone) = gone

-- an open is accepted while the first of these is innermost
abbrev pub with_child : List Element → List Element
with_child [] = []
with_child (element d childless ∷ outer) = element d false ∷ outer

-- each accepted open opens an element of its own, whose depth is the number then open, its own included
abbrev pub opening : Elements → Elements
opening (elements inner gone) = elements (element (suc (length inner)) true ∷ with_child inner) gone

abbrev pub closing : Elements → Elements
closing (elements [] gone) = elements [] gone
closing (elements (e ∷ outer) gone) = elements outer (e ∷ gone)

-- the elements of a list of accepted calls, the last call first
unfoldable pub elements_of : List Call → Elements
elements_of [] = elements [] []
elements_of (open_call l n ∷ earlier) = opening (elements_of earlier)
elements_of (close_call l n ∷ earlier) = closing (elements_of earlier)

abbrev pub childless_depth : Element → ℕ
childless_depth (element d true) = d
childless_depth (element d false) = 0

unfoldable pub sum_depths : List Element → ℕ
sum_depths [] = 0
sum_depths (e ∷ es) = childless_depth e + sum_depths es

-- the depths of all childless elements added up
abbrev pub childless_depths : Elements → ℕ
childless_depths (elements inner gone) = sum_depths inner + sum_depths gone
