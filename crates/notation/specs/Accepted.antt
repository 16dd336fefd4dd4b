-- An accepted text and its set: what reading a text that is not refused gives.
use Rattle.std.specs.Prelude.{ℕ, ◌≡◌, true, false, List}
use Rattle.notation.specs.Sets.{FolderSet}
use Rattle.notation.specs.Print.{print}
use Rattle.notation.specs.Form.{formed, over_bytes, numbers_fall, names_long, paths_long, over_limits}

-- the well-formed set prints to the text (so 3 does not hold), and no condition of 2, 4, 5, 6 and 7 holds
pub record Accepted (text : List ℕ) (s : FolderSet) : Type 0 where
  pub well : formed s ≡ true
  pub prints : print s ≡ text
  pub short : over_bytes text ≡ false
  pub rising : numbers_fall s ≡ false
  pub names : names_long s ≡ false
  pub paths : paths_long s ≡ false
  pub room : over_limits s ≡ false
