-- The run: what is stored of the machine's state in the lent buffer. It is nothing but the definitions written down:
-- the depth, a match bit for the last step of each path, and for each depth a row with the innermost name, the state of the current prefix,
-- the active steps, and the steps active here or further out. The layout is the program's choice; what every choice has in common is what the
-- asking calls answer of it (Demand3).
use Rattle.std.specs.Prelude.{ℕ, suc, ◌+◌, ◌-◌, ◌*◌, Bool, false, ◌&&◌, cond, List, [], ◌∷◌, ◌++◌, ltb, eqb, length}
use Rattle.text.specs.Names.{Name, max_name}
use Rattle.notation.specs.Sets.{Path, FolderSet}
use Rattle.notation.specs.Form.{paths_of}
use Rattle.notation.specs.Layout.{word_size}
use Rattle.text.specs.Bytes.{le16, joined, padded}
use Rattle.notation.specs.Activity.{active, seen}
use Rattle.model.specs.Prefix.{prefix_of}
use Rattle.stored.specs.Automaton.{mask_size, state_of, bit_bytes}
use Rattle.model.specs.Calls.{State, open_names}

-- sizes and offsets

abbrev pub depth_at : ℕ
depth_at = 0

unfoldable pub matches_at : ℕ
matches_at = depth_at + word_size

unfoldable pub rows_at : ℕ
unfolding matches_at mask_size
rows_at = matches_at + mask_size

-- within a row: the name's length, the name, the state, the active steps, the steps seen
unfoldable pub name_in : ℕ
name_in = 1

unfoldable pub state_in : ℕ
unfolding name_in max_name
state_in = name_in + max_name

unfoldable pub active_in : ℕ
unfolding state_in
active_in = state_in + word_size

unfoldable pub seen_in : ℕ
unfolding active_in mask_size
seen_in = active_in + mask_size

unfoldable pub row_size : ℕ
unfolding seen_in mask_size
row_size = seen_in + mask_size

-- the row of a depth
abbrev pub row_at : ℕ → ℕ
row_at d = rows_at + row_size * d

unfoldable pub run_size : ℕ
run_size = 65536

-- bit i of a row of bits over all steps of the paths, in set order: what f says of the path and of its step, counted from 1
unfoldable pub step_bit : (Path → ℕ → Bool) → List Path → ℕ → Bool
step_bit f [] i = false
step_bit f (p ∷ ps) i = cond (ltb i (length p)) (f p (suc i)) (step_bit f ps (i - length p))

-- the match bit of the last step of each path; `place` is that of the first of the paths
unfoldable pub match_bit : (ℕ → Bool) → ℕ → List Path → ℕ → Bool
match_bit matched place [] i = false
match_bit matched place (p ∷ ps) i =
    cond (ltb i (length p)) (eqb (suc i) (length p) && matched place) (match_bit matched (suc place) ps (i - length p))

abbrev pub active_bits : FolderSet → List Name → ℕ → Bool
active_bits s names = step_bit (λ p k. active p k names) (paths_of s)

abbrev pub seen_bits : FolderSet → List Name → ℕ → Bool
seen_bits s names = step_bit (λ p k. seen p k names) (paths_of s)

-- a row: the innermost of the names is `e`, which is empty in the row of depth 0
unfoldable pub row_of : FolderSet → Name → List Name → List ℕ
row_of s e names =
    length e ∷ (padded max_name e ++ (le16 (state_of s (prefix_of s names))
    ++ (bit_bytes (active_bits s names) mask_size ++ bit_bytes (seen_bits s names) mask_size)))

-- the rows of all depths down to the innermost element; `outer` are the names of the depth that this row is for, `e` the last of them
unfoldable pub rows_from : FolderSet → Name → List Name → List Name → List (List ℕ)
rows_from s e outer [] = row_of s e outer ∷ []
rows_from s e outer (n ∷ names) = row_of s e outer ∷ rows_from s n (outer ++ (n ∷ [])) names

-- the bytes of a run with these open names and matches
unfoldable pub run_with : FolderSet → List Name → (ℕ → Bool) → List ℕ
run_with s names matched =
    padded run_size (le16 (length names) ++ (bit_bytes (match_bit matched 0 (paths_of s)) mask_size ++ joined (rows_from s [] [] names)))

-- the run of a machine's state
abbrev pub run_of : FolderSet → State → List ℕ
run_of s m = run_with s (open_names m) m.matched
