-- The pass that writes the masks and the initial state behind a read set. It follows the code; laws say that on a set's bytes it gives
-- the set's masks.
use Rattle.std.specs.Prelude.{ℕ, zero, suc, ◌+◌, ◌*◌, ◌/◌, ◌%◌, Bool, true, false, not, ◌||◌, cond, List, ltb, eqb, get_or, set, Option, Some, None}
use Rattle.std.proofs.lemmas.List.Edits.{sets}
use Rattle.text.specs.Bytes.{le16}
use Rattle.notation.specs.Reads.{path_at, step_at, path_count}
use Rattle.notation.specs.declared.reads.StoredPath.{StoredPath}
use Rattle.notation.specs.declared.reads.StoredStep.{StoredStep}
use Rattle.stored.specs.Bits.{with_bit}
use Rattle.stored.specs.Automaton.{mask_size, star_mask, child_mask, descendant_mask, anywhere_mask, root_mask, last_mask, masks_at, start_at, bit}

-- bit i of mask m is set if `on`
unfoldable pub flagged : Bool → ℕ → ℕ → List ℕ → List ℕ
flagged on m i part =
    let at = masks_at + (8 * mask_size * m + i) / 8 in
    cond on (set part at (with_bit (get_or part at 0) ((8 * mask_size * m + i) % 8))) part

-- the mask of a step's axis: `/` or `//`, of a first step or another
abbrev pub axis_mask : Bool → Bool → ℕ
axis_mask true true = anywhere_mask
axis_mask true false = root_mask
axis_mask false true = descendant_mask
axis_mask false false = child_mask

-- a step in the masks
unfoldable pub flag_role : ℕ → Bool → Bool → Bool → Bool → List ℕ → List ℕ
flag_role i deep star first last part = flagged last last_mask i (flagged true (axis_mask first deep) i (flagged star star_mask i part))

abbrev pub flag_step_at : Option StoredStep → ℕ → Bool → Bool → List ℕ → List ℕ
flag_step_at (Some x) i first last part = flag_role i x.descendant x.star first last part
flag_step_at None i first last part = part

unfoldable pub flag_step : ℕ → Bool → Bool → List ℕ → List ℕ
flag_step i first last part = cond (ltb i (8 * mask_size)) (flag_step_at (step_at part i) i first last part) part

-- the steps of a path that are left, from step i on
unfoldable pub flag_steps : ℕ → ℕ → Bool → List ℕ → List ℕ
flag_steps zero i first part = part
flag_steps (suc left) i first part = flag_steps left (suc i) false (flag_step i first (eqb left 0) part)

abbrev pub flag_path_at : Option StoredPath → List ℕ → List ℕ
flag_path_at (Some p) part = flag_steps p.steps p.first true part
flag_path_at None part = part

unfoldable pub flag_path : ℕ → List ℕ → List ℕ
flag_path place part = flag_path_at (path_at part (record { 0 = place })) part

-- the paths that are left, from a place on
unfoldable pub flag_paths : ℕ → ℕ → List ℕ → List ℕ
flag_paths zero place part = part
flag_paths (suc left) place part = flag_paths left (suc place) (flag_path place part)

-- a path's first step is `/`
abbrev pub child_at : Option StoredStep → Bool
child_at (Some x) = not x.descendant
child_at None = false

abbrev pub rooted_at : List ℕ → Option StoredPath → Bool
rooted_at part (Some p) = child_at (step_at part p.first)
rooted_at part None = false

unfoldable pub rooted : List ℕ → ℕ → Bool
rooted part place = rooted_at part (path_at part (record { 0 = place }))

-- some path that is left begins so
unfoldable pub any_rooted : ℕ → ℕ → List ℕ → Bool
any_rooted zero place part = false
any_rooted (suc left) place part = rooted part place || any_rooted left (suc place) part

unfoldable pub with_start : List ℕ → List ℕ
with_start part = sets part start_at (le16 (bit (any_rooted (path_count part) 0 part)))

unfoldable pub with_masks : List ℕ → List ℕ
with_masks part = flag_paths (path_count part) 0 part
