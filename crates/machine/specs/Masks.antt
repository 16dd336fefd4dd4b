-- The masks by their places.
use Rattle.std.specs.Prelude.{ℕ}
use Rattle.stored.specs.Automaton.{star_mask, child_mask, descendant_mask, anywhere_mask, root_mask, last_mask}
use Rattle.machine.specs.declared.layout.Mask.{Mask}
use Rattle.machine.specs.declared.layout.Mask.TheVariants.{Star, Child, Descendant, Anywhere, Root, Last}

-- how many masks stand before it
abbrev pub mask_number : Mask → ℕ
mask_number Star = star_mask
mask_number Child = child_mask
mask_number Descendant = descendant_mask
mask_number Anywhere = anywhere_mask
mask_number Root = root_mask
mask_number Last = last_mask
