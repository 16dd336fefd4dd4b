-- What a path means on the names of the open elements, outermost first (an active step is one that "stands").
use Rattle.std.specs.Prelude.{ℕ, suc, ◌≤◌, ◌<◌, pred, ◌≡◌, List, [], length, get_or}
use Rattle.text.specs.Names.{Name}
use Rattle.notation.specs.Sets.{child, Test, label, star, Step, step, Path, axis_of, test_of}

-- a label takes an element of its name, `*` takes any element
abbrev pub Takes : Test → Name → Type 0
Takes (label l) n = l ≡ n
Takes star n = Unit {0}

-- step i of a path and the name at position d, both counted from 1
abbrev pub nth_step : Path → ℕ → Step
nth_step p i = get_or p (pred i) (step child star)

abbrev pub name_at : List Name → ℕ → Name
name_at names d = get_or names (pred d) []

-- step s of the path is active on the innermost of the names: positions d 1 < .. < d s, the last of them the innermost element's
pub record Active (p : Path) (s : ℕ) (names : List Name) : Type 0 where
  pub d : ℕ → ℕ
  pub there : (1 ≤ s) × (s ≤ length p)
  pub within : 1 ≤ d 1
  pub rising : (i : ℕ) → 1 ≤ i → i < s → d i < d (suc i)
  pub innermost : d s ≡ length names
  pub taken : (i : ℕ) → 1 ≤ i → i ≤ s → Takes (test_of (nth_step p i)) (name_at names (d i))
  pub first : axis_of (nth_step p 1) ≡ child → d 1 ≡ 1
  pub next : (i : ℕ) → 1 ≤ i → i < s → axis_of (nth_step p (suc i)) ≡ child → d (suc i) ≡ suc (d i)

-- a path fits when its last step is active
abbrev pub Fits : Path → List Name → Type 0
Fits p names = Active p (length p) names
