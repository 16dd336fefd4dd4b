-- The table of cases of Fit.
use Rattle.std.specs.Prelude.{Bool, true, false, List, [], ◌∷◌}
use Rattle.text.specs.Names.{Name}
use Rattle.notation.specs.Sets.{child, descendant, label, star, step, Path}

-- a path, the open names, and whether the path fits
pub record Row : Type 0 where
  pub path : Path
  pub names : List Name
  pub answer : Bool

-- names of one letter
abbrev a : Name
a = 97 ∷ []

abbrev b : Name
b = 98 ∷ []

abbrev c : Name
c = 99 ∷ []

abbrev r : Name
r = 114 ∷ []

abbrev row : Path → List Name → Bool → Row
row p ns yes? = record { path = p; names = ns; answer = yes? }

unfoldable pub fit_table : List Row
fit_table =
    -- /a
    row (step child (label a) ∷ []) (a ∷ []) true
    ∷ row (step child (label a) ∷ []) (r ∷ a ∷ []) false
    -- //a
    ∷ row (step descendant (label a) ∷ []) (a ∷ []) true
    -- //*/a
    ∷ row (step descendant star ∷ step child (label a) ∷ []) (a ∷ []) false
    ∷ row (step descendant star ∷ step child (label a) ∷ []) (r ∷ a ∷ []) true
    -- //a/*/c
    ∷ row (step descendant (label a) ∷ step child star ∷ step child (label c) ∷ []) (a ∷ a ∷ b ∷ c ∷ []) true
    -- /a/*
    ∷ row (step child (label a) ∷ step child star ∷ []) (a ∷ []) false
    ∷ row (step child (label a) ∷ step child star ∷ []) (a ∷ b ∷ []) true
    -- //a/b//b
    ∷ row (step descendant (label a) ∷ step child (label b) ∷ step descendant (label b) ∷ []) (a ∷ b ∷ []) false
    ∷ row (step descendant (label a) ∷ step child (label b) ∷ step descendant (label b) ∷ []) (a ∷ b ∷ b ∷ []) true
    -- //a//b
    ∷ row (step descendant (label a) ∷ step descendant (label b) ∷ []) (a ∷ c ∷ b ∷ []) true
    ∷ []
