-- Which steps are active, computed element by element. The plain definition is `Active` (Fit); a law says that both agree.
use Rattle.std.specs.Prelude.{ℕ, zero, suc, Bool, true, false, ◌&&◌, ◌||◌, List, [], ◌∷◌, reverse, leb, length}
use Rattle.text.specs.Names.{Name, same_name}
use Rattle.notation.specs.Sets.{Axis, child, descendant, Test, label, star, Path, axis_of, test_of}
use Rattle.notation.specs.Fit.{nth_step}

abbrev pub takes : Test → Name → Bool
takes (label l) n = same_name l n
takes star n = true

-- whether the step after k others may stand here: below says of each step whether it is active on the element around this one,
-- above whether it is on that one or any further out
abbrev pub by_axis : Axis → Bool → Bool → Bool
by_axis child below above = below
by_axis descendant below above = above

abbrev pub allowed : Path → Bool → (ℕ → Bool) → (ℕ → Bool) → ℕ → Bool
allowed p root below above zero = by_axis (axis_of (nth_step p 1)) root true
allowed p root below above (suc j) = by_axis (axis_of (nth_step p (suc (suc j)))) (below (suc j)) (above (suc j))

unfoldable pub here : Path → Bool → (ℕ → Bool) → (ℕ → Bool) → Name → ℕ → Bool
here p root below above e zero = false
here p root below above e (suc k) =
    leb (suc k) (length p) && (takes (test_of (nth_step p (suc k))) e && allowed p root below above k)

abbrev pub is_empty : List Name → Bool
is_empty [] = true
is_empty (n ∷ ns) = false

-- of names innermost first: step s is active on the innermost; it is active there or on an element further out
unfoldable mutual
  pub active_reversed : List Name → Path → ℕ → Bool
  active_reversed [] p s = false
  active_reversed (e ∷ outer) p s = here p (is_empty outer) (λ i. active_reversed outer p i) (λ i. seen_reversed outer p i) e s

  pub seen_reversed : List Name → Path → ℕ → Bool
  seen_reversed [] p s = false
  seen_reversed (e ∷ outer) p s = here p (is_empty outer) (λ i. active_reversed outer p i) (λ i. seen_reversed outer p i) e s || seen_reversed outer p s

-- the same of names outermost first
abbrev pub active : Path → ℕ → List Name → Bool
active p s names = active_reversed (reverse names) p s

abbrev pub seen : Path → ℕ → List Name → Bool
seen p s names = seen_reversed (reverse names) p s

abbrev pub fits : Path → List Name → Bool
fits p names = active p (length p) names
