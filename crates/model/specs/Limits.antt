-- The limits of a run, once. A proof that needs the number says `unfolding` of its name.
use Rattle.std.specs.Prelude.{ℕ}

-- elements open at once
unfoldable pub max_depth : ℕ
max_depth = 64

-- opens accepted in one run
unfoldable pub max_opens : ℕ
max_opens = 65535
