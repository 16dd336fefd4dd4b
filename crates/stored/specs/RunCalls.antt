-- What the calls on a run answer and leave, of any automaton, run and counters, by what is stored: the equations of their contracts.
use Rattle.std.specs.Prelude.{ℕ, zero, suc, ◌+◌, ◌*◌, ◌/◌, pred, min, Bool, false, not, ◌&&◌, ◌||◌, List, [], ◌∷◌, ◌++◌, leb, ltb, eqb, length, get_or, take, drop, replicate}
use Rattle.std.proofs.lemmas.List.Edits.{sets}
use Rattle.text.specs.Names.{Name, name_form, too_long, max_name, same_name}
use Rattle.text.specs.Bytes.{le16, padded}
use Rattle.notation.specs.Reads.{word16, step_count, label_count}
use Rattle.model.specs.Limits.{max_depth, max_opens}
use Rattle.stored.specs.Automaton.{mask_size, star_mask, child_mask, descendant_mask, anywhere_mask, root_mask, last_mask, automaton_size, mask_at, byte_of, tabulate}
use Rattle.stored.specs.Tables.{start_of, walk_over}
use Rattle.stored.specs.Marked.{marked}
use Rattle.stored.specs.Bits.{bit_in}
use Rattle.stored.specs.Shape.{automaton_shaped, all_below}
use Rattle.stored.specs.Run.{depth_at, matches_at, name_in, state_in, active_in, seen_in, row_at, row_size, run_size}
use Rattle.stored.specs.declared.counters.Counters.{Counters}
use Rattle.stored.specs.declared.walk.Walk.{Walk}
use Rattle.text.specs.declared.refusals.Refusal.TheVariants.{ShortBuffer, BadShape, SyntaxError, NameTooLong, NotOneRoot, TooDeep, OverCapacity, MismatchedClose}
use Rattle.text.specs.Order.{Condition, gives, given}

-- what is stored of a run

unfoldable pub depth_of : List ℕ → ℕ
depth_of run = word16 run depth_at

abbrev pub name_length : List ℕ → ℕ → ℕ
name_length run d = get_or run (row_at d) 0

abbrev pub stored_name : List ℕ → ℕ → Name
stored_name run d = take (name_length run d) (drop (row_at d + name_in) run)

abbrev pub state_at : List ℕ → ℕ → ℕ
state_at run d = word16 run (row_at d + state_in)

abbrev pub active_at : List ℕ → ℕ → ℕ → Bool
active_at run d i = bit_in run (row_at d + active_in) i

abbrev pub seen_at : List ℕ → ℕ → ℕ → Bool
seen_at run d i = bit_in run (row_at d + seen_in) i

abbrev pub matched_at : List ℕ → ℕ → Bool
matched_at run i = bit_in run matches_at i

-- bit i of a mask
abbrev pub mask_bit : List ℕ → ℕ → ℕ → Bool
mask_bit a m i = bit_in a (mask_at m) i

-- the shape test of a run on an automaton, and of the counters

abbrev pub row_shaped : List ℕ → List ℕ → ℕ → Bool
row_shaped a run d = leb (name_length run d) max_name && leb (state_at run d) (suc (label_count a))

unfoldable pub run_shaped : List ℕ → List ℕ → Bool
run_shaped a run = leb (depth_of run) max_depth && all_below (suc (depth_of run)) (row_shaped a run)

unfoldable pub counters_shaped : List ℕ → Counters → Bool
counters_shaped run c =
    leb c.opens max_opens && (eqb c.opens (c.closes + depth_of run) && leb c.moves (max_depth * c.opens))

unfoldable pub shaped : List ℕ → List ℕ → Counters → Bool
shaped a run c = automaton_shaped a && (run_shaped a run && counters_shaped run c)

-- refusals: each call's order of conditions

abbrev pub too_short : List ℕ → List ℕ → Bool
too_short a run = ltb (length a) automaton_size || ltb (length run) run_size

abbrev pub start_conditions : List ℕ → List ℕ → List Condition
start_conditions a run = gives (too_short a run) ShortBuffer ∷ gives (not (automaton_shaped a)) BadShape ∷ []

abbrev pub root_closed : List ℕ → Counters → Bool
root_closed run c = not (eqb c.opens 0) && eqb (depth_of run) 0

-- those of what is lent, with which open and close begin
abbrev pub lent_conditions : List ℕ → List ℕ → Counters → List Condition
lent_conditions a run c = gives (too_short a run) ShortBuffer ∷ gives (not (shaped a run c)) BadShape ∷ []

-- those of the name, which are next
abbrev pub name_conditions : Name → List Condition
name_conditions e = gives (not (name_form e)) SyntaxError ∷ gives (too_long e) NameTooLong ∷ []

-- all others of an open, and of a close
abbrev pub open_others : List ℕ → Counters → Name → List Condition
open_others run c e =
    name_conditions e
    ++ (gives (root_closed run c) NotOneRoot ∷ gives (leb max_depth (depth_of run)) TooDeep ∷ gives (leb max_opens c.opens) OverCapacity ∷ [])

abbrev pub close_others : List ℕ → Name → List Condition
close_others run e =
    name_conditions e ++ (gives (eqb (depth_of run) 0) NotOneRoot ∷ gives (not (same_name (stored_name run (depth_of run)) e)) MismatchedClose ∷ [])

abbrev pub open_conditions : List ℕ → List ℕ → Counters → Name → List Condition
open_conditions a run c e = lent_conditions a run c ++ open_others run c e

abbrev pub close_conditions : List ℕ → List ℕ → Counters → Name → List Condition
close_conditions a run c e = lent_conditions a run c ++ close_others run e

unfoldable pub start_refusal : List ℕ → List ℕ → ℕ
start_refusal a run = given (start_conditions a run)

unfoldable pub open_refusal : List ℕ → List ℕ → Counters → Name → ℕ
open_refusal a run c e = given (open_conditions a run c e)

unfoldable pub close_refusal : List ℕ → List ℕ → Counters → Name → ℕ
close_refusal a run c e = given (close_conditions a run c e)

-- what a start leaves
unfoldable pub start_run : List ℕ → List ℕ → List ℕ
start_run a run = sets (replicate run_size 0) (row_at 0 + state_in) (le16 (start_of a)) ++ drop run_size run

abbrev pub no_counters : Counters
no_counters = record { opens = 0; closes = 0; moves = 0 }

-- what an accepted open leaves

-- bytes of a row of bits that an open makes; those behind are zero. How many is the program's choice: whole blocks of sixteen, enough for all
-- steps; of a built automaton no bit behind its steps is ever set. The bound shows on no bytes that pass the shape test
abbrev pub used_bytes : List ℕ → ℕ
used_bytes a = min mask_size (16 * ((step_count a + 127) / 128))

-- step i takes e: it is `*`, or one of the labels of that name
unfoldable pub candidate : List ℕ → Name → ℕ → Bool
candidate a e i = mask_bit a star_mask i || marked a e i

-- the step before
abbrev pub shifted : (ℕ → Bool) → ℕ → Bool
shifted f zero = false
shifted f (suc i) = f i

unfoldable pub permitted : List ℕ → List ℕ → ℕ → ℕ → Bool
permitted a run d i =
    (mask_bit a child_mask i && shifted (active_at run d) i) || ((mask_bit a descendant_mask i && shifted (seen_at run d) i)
    || (mask_bit a anywhere_mask i || (eqb d 0 && mask_bit a root_mask i)))

unfoldable pub now_active : List ℕ → List ℕ → Name → ℕ → Bool
now_active a run e i = candidate a e i && permitted a run (depth_of run) i

unfoldable pub now_seen : List ℕ → List ℕ → Name → ℕ → Bool
now_seen a run e i = seen_at run (depth_of run) i || now_active a run e i

unfoldable pub now_matched : List ℕ → List ℕ → Name → ℕ → Bool
now_matched a run e i = matched_at run i || (now_active a run e i && mask_bit a last_mask i)

abbrev pub used_bits : List ℕ → (ℕ → Bool) → List ℕ
used_bits a f = tabulate (byte_of f) (used_bytes a)

-- the walk of an open
abbrev pub open_walk : List ℕ → List ℕ → Name → Walk
open_walk a run e = walk_over a (state_at run (depth_of run)) e

-- the bits of all steps: zeros behind those used
abbrev pub step_bits : List ℕ → (ℕ → Bool) → List ℕ
step_bits a f = padded mask_size (used_bits a f)

-- the new row, all of it
unfoldable pub row_opened : List ℕ → List ℕ → Name → List ℕ
row_opened a run e =
    length e ∷ (padded max_name e ++ (le16 (open_walk a run e).state
    ++ (step_bits a (now_active a run e) ++ step_bits a (now_seen a run e))))

-- a run with this row at a depth, and all else as it was
abbrev pub with_row : List ℕ → ℕ → List ℕ → List ℕ
with_row run d row = take (row_at d) run ++ (row ++ drop (row_at d + row_size) run)

unfoldable pub open_run : List ℕ → List ℕ → Name → List ℕ
open_run a run e =
    sets (sets (with_row run (suc (depth_of run)) (row_opened a run e)) matches_at (used_bits a (now_matched a run e)))
    depth_at (le16 (suc (depth_of run)))

-- counters after an open of so many failure moves
abbrev pub after_open : Counters → ℕ → Counters
after_open c moves = record { opens = c.opens + 1; closes = c.closes; moves = c.moves + moves }

unfoldable pub open_counters : List ℕ → List ℕ → Counters → Name → Counters
open_counters a run c e = after_open c (open_walk a run e).moves

-- what an accepted close leaves: its row is zero
unfoldable pub close_run : List ℕ → List ℕ
close_run run = sets (with_row run (depth_of run) (replicate row_size 0)) depth_at (le16 (pred (depth_of run)))

abbrev pub close_counters : Counters → Counters
close_counters c = record { opens = c.opens; closes = c.closes + 1; moves = c.moves }
