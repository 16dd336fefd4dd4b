-- What a program prints, whatever it shows of a filed report.
use Rattle.std.specs.Prelude.{ℕ, ◌≡◌, ◌≤◌, List, length, take}
use Rattle.notation.specs.Sets.{FolderSet}
use Rattle.filing.specs.Shown.{ShownText}

-- a buffer begins with what is shown of a set and a report, by their bytes, up to the length that was answered
pub record Shows (For : FolderSet → List ℕ → List ℕ → Type 0) (set report : List ℕ) (answer : ℕ) (after : List ℕ) : Type 0 where
  pub counts : answer ≤ length after
  -- the line of the set's refusal, or of the report's, or what is shown of the filed report
  pub shown : (bytes : List ℕ) → ShownText For set report bytes → take answer after ≡ bytes
