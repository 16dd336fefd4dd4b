-- The limits of a listing, once. A proof that needs the number says `unfolding` of its name.
use Rattle.std.specs.Prelude.{ℕ, ◌+◌, ◌≤◌}
use Rattle.std.proofs.Common.{arith}
use Rattle.notation.specs.Limits.{max_set_bytes}

-- bytes of a moves line: opens take at most 5 digits and failure moves 7
unfoldable pub max_moves_line : ℕ
max_moves_line = 22

-- bytes of a listing: its lines are no longer than the set's
unfoldable pub listing_size : ℕ
unfolding max_set_bytes max_moves_line
listing_size = max_set_bytes + max_moves_line

-- bytes of the line of a refusal, the number of which has at most three digits
abbrev pub max_refused_line : ℕ
max_refused_line = 14

-- a listing has room for it
pub line-within : max_refused_line ≤ listing_size
unfolding listing_size max_set_bytes max_moves_line
line-within = omega arith
