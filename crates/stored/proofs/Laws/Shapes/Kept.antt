-- Start, open and close that are accepted leave a run and counters that pass the shape test, of any automaton and run that do.
use Prim.Native.Nat.{ℕ, suc, ◌+◌, ◌*◌, ◌≤◌, ◌<◌, pred}
use mathlib.Core.Path.{◌≡◌, refl, sym, ◌∙◌, ap}
use mathlib.Core.Bool.{Bool, true, ◌&&◌}
use mathlib.Core.List.{List, ◌∷◌, ◌++◌}
use native.Mathlib.Omega.{arith}
use native.Mathlib.Nat.{add-zero, add_assoc}
use lib.Dec.{leb, eqb}
use lib.ListN.{length, get_or, drop, replicate, length-append, length-drop, length-replicate, get_or-replicate, get_or-append}
use lib.Seq.{sets, length-sets}
use borrow.Author.Tests.{leb-true, leb-false, le-leb, eqb-true, eq-eqb, eqb-false}
use Rattle.text.specs.Names.{Name, max_name}
use Rattle.notation.specs.Limits.{max_steps, max_labels}
use Rattle.text.specs.Bytes.{le16, padded}
use Rattle.notation.specs.Layout.{word_size}
use Rattle.notation.specs.Reads.{word16, label_count}
use Rattle.notation.proofs.Laws.Stored.Stands.{Stands}
use Rattle.notation.proofs.Laws.Stored.Words.{word_read}
use Rattle.notation.proofs.Laws.Fill.Padded.{length-padded}
use Rattle.model.specs.Limits.{max_depth, max_opens}
use Rattle.stored.specs.Automaton.{mask_size, byte_of}
use Rattle.stored.specs.Tables.{start_of, first_of}
use Rattle.stored.specs.Shape.{automaton_shaped}
use Rattle.stored.specs.Run.{matches_at, rows_at, name_in, state_in, active_in, seen_in, row_size, row_at, run_size, depth_at}
use Rattle.stored.specs.RunCalls.{depth_of, name_length, state_at, row_shaped, run_shaped, counters_shaped, start_refusal, open_refusal, close_refusal, start_run, no_counters, used_bytes, used_bits, now_active, now_seen, now_matched, open_walk, step_bits, row_opened, with_row, open_run, open_counters, close_run, close_counters}
use Rattle.stored.specs.Usable.{Ready, Usable}
use Rattle.stored.specs.declared.counters.Counters.{Counters}
use Rattle.text.proofs.Laws.Tests.{cases, both, both_true}
use Rattle.stored.proofs.Laws.Bytes.AllBelow.{is_all}
use Rattle.stored.proofs.Laws.Bytes.Tabulate.{tabulate-length}
use Rattle.stored.proofs.Laws.Bytes.Beside.{byte-before, byte-behind, rest-behind, word-stored, word_same, put-length, put-before, put-within, put-behind}
use Rattle.stored.proofs.Laws.Tables.LookTurns.{first-within}
use Rattle.stored.proofs.Laws.Tables.Fuel.{size-within, over-state, over-moves}
use Rattle.stored.proofs.Laws.Running.RunBytes.{rows_fit, used-room}
use Rattle.stored.proofs.Laws.Shapes.Shaped.{shaped-is, shaped-walkable}
use Rattle.stored.proofs.Laws.Shapes.RunShape.{RunShape, run-shape}
use Rattle.stored.proofs.Laws.Shapes.Given.{may-start, may-open, may-close, within-run}

is-run-shaped : (a run : List ℕ) → RunShape a run → run_shaped a run ≡ true
unfolding run_shaped
is-run-shaped a run s =
    both_true (le-leb (depth_of run) max_depth s.deepest)
    (is_all (suc (depth_of run)) (row_shaped a run)
    (λ d h. both_true (le-leb (name_length run d) max_name (s.name d (omega arith))) (le-leb (state_at run d) (suc (label_count a)) (s.state d (omega arith)))))

record CounterFacts (run : List ℕ) (c : Counters) : Type 0 where
  few : c.opens ≤ max_opens
  balance : c.opens ≡ c.closes + depth_of run
  moved : c.moves ≤ max_depth * c.opens

counter-facts : (run : List ℕ) (c : Counters) → counters_shaped run c ≡ true → CounterFacts run c
unfolding counters_shaped
counter-facts run c h =
    let s = both (leb c.opens max_opens) (eqb c.opens (c.closes + depth_of run) && leb c.moves (max_depth * c.opens)) h in
    let t = both (eqb c.opens (c.closes + depth_of run)) (leb c.moves (max_depth * c.opens)) s.1 in
    record { few = leb-true _ _ s.0; balance = eqb-true _ _ t.0; moved = leb-true _ _ t.1 }

are-counters-shaped : (run : List ℕ) (c : Counters) → CounterFacts run c → counters_shaped run c ≡ true
unfolding counters_shaped
are-counters-shaped run c f = both_true (le-leb _ _ f.few) (both_true (eq-eqb _ _ f.balance) (le-leb _ _ f.moved))

-- places in a run
rows_apart : (d d' : ℕ) → d < d' → row_at d + row_size ≤ row_at d'
unfolding row_size
rows_apart d d' h = omega arith

row_fits : (d : ℕ) → d ≤ max_depth → row_at d + row_size ≤ run_size
row_fits d h = omega (arith, rows_apart d (suc d) (omega arith), rows_fit d h)

row-begins : (d : ℕ) → rows_at ≤ row_at d
row-begins d = omega arith

matches-end : matches_at + mask_size ≡ rows_at
unfolding rows_at
matches-end = refl

depth-end : depth_at + word_size ≤ matches_at
unfolding matches_at
depth-end = omega arith

record RowPlaces : Type 0 where
  state : state_in + word_size ≡ active_in
  name : 1 + max_name ≡ state_in
  seen : active_in + mask_size ≡ seen_in
  end : seen_in + mask_size ≡ row_size

row-places : RowPlaces
unfolding row_size seen_in active_in state_in name_in
row-places = record { state = refl; name = refl; seen = refl; end = refl }

-- a row of the same bytes
row-alike : (run run' : List ℕ) (d : ℕ) → ((j : ℕ) → row_at d ≤ j → j < row_at d + row_size → get_or run' j 0 ≡ get_or run j 0)
    → (name_length run' d ≡ name_length run d) × (state_at run' d ≡ state_at run d)
row-alike run run' d same = (
  same (row_at d) (omega arith) (omega (arith, row-places.name, row-places.state, row-places.seen, row-places.end)),
  word_same run' run (row_at d + state_in) (row_at d + state_in)
      (same (row_at d + state_in) (omega arith) (omega (arith, row-places.state, row-places.seen, row-places.end)))
      (same (row_at d + state_in + 1) (omega arith) (omega (arith, row-places.state, row-places.seen, row-places.end))),
)

-- a start
start-length : (a run : List ℕ) → run_size ≤ length run → length (start_run a run) ≡ length run
unfolding start_run
start-length a run h =
    omega (
      arith,
      length-append (sets (replicate run_size 0) (row_at 0 + state_in) (le16 (start_of a))) (drop run_size run),
      length-sets (replicate run_size 0) (row_at 0 + state_in) (le16 (start_of a)),
      length-replicate {A = ℕ} run_size 0,
      length-drop run_size run,
    )

-- its bytes but for the state of depth 0
start-zero : (a run : List ℕ) (j : ℕ) → j < row_at 0 + state_in → get_or (start_run a run) j 0 ≡ 0
unfolding start_run
start-zero a run j h =
    get_or-append (sets (replicate run_size 0) (row_at 0 + state_in) (le16 (start_of a))) (drop run_size run) 0 j
    (omega (arith, within-run, length-sets (replicate run_size 0) (row_at 0 + state_in) (le16 (start_of a)), length-replicate {A = ℕ} run_size 0))
    ∙ byte-before (le16 (start_of a)) (replicate run_size 0) (row_at 0 + state_in) j h
    ∙ get_or-replicate run_size j 0 0 (omega (arith, within-run))

start-state : (a run : List ℕ) → start_of a ≤ 1 → state_at (start_run a run) 0 ≡ start_of a
unfolding start_run
start-state a run h =
    let l = sets (replicate run_size 0) (row_at 0 + state_in) (le16 (start_of a)) in
    let k : length (sets (replicate run_size 0) (row_at 0 + state_in) (le16 (start_of a))) ≡ run_size =
    length-sets (replicate run_size 0) (row_at 0 + state_in) (le16 (start_of a)) ∙ length-replicate {A = ℕ} run_size 0 in
    word_same (l ++ drop run_size run) l (row_at 0 + state_in) (row_at 0 + state_in)
    (get_or-append l (drop run_size run) 0 (row_at 0 + state_in) (omega (arith, within-run, k)))
    (get_or-append l (drop run_size run) 0 (row_at 0 + state_in + 1) (omega (arith, within-run, k)))
    ∙ word-stored (replicate run_size 0) (row_at 0 + state_in) (start_of a) (omega (arith, within-run, length-replicate {A = ℕ} run_size 0)) (omega arith)

start-depth : (a run : List ℕ) → depth_of (start_run a run) ≡ 0
unfolding depth_of word16
start-depth a run =
    omega (
      arith,
      start-zero a run 0 (omega (arith, matches-end, depth-end)),
      start-zero a run 1 (omega (arith, matches-end, depth-end)),
    )

start-shape : (a run : List ℕ) → automaton_shaped a ≡ true → RunShape a (start_run a run)
start-shape a run s =
    let n : (d : ℕ) → d ≤ depth_of (start_run a run) → d ≡ 0 = λ d h. omega (arith, start-depth a run) in
    let b = (shaped-is a s).counts.start in
    record {
      deepest = rw (start-depth a run) (omega arith);
      name = λ d h. rw (n d h, start-zero a run (row_at 0) (omega (arith, row-places.name))) (omega arith);
      state = λ d h. rw (n d h, start-state a run b) (omega arith);
    }

pub start-usable : (a run : List ℕ) → start_refusal a run ≡ 0 → Usable a (start_run a run) no_counters
start-usable a run z =
    let m = may-start a run z in
    record {
      ready = record { size = m.size; shaped = m.shaped; run_length = rw (start-length a run m.run_length) m.run_length; run_is_shaped = is-run-shaped a (start_run a run) (start-shape a run m.shaped) };
      counts = are-counters-shaped (start_run a run) no_counters (record { few = omega arith; balance = omega (arith, start-depth a run); moved = omega arith });
    }

-- an open
module _ (a run : List ℕ) (e : Name) (r : Ready a run) (room : depth_of run < max_depth) (short : length e ≤ max_name) where
  abbrev at : ℕ
  at = row_at (suc (depth_of run))

  abbrev row : List ℕ
  row = row_opened a run e

  abbrev held : List ℕ
  held = with_row run (suc (depth_of run)) row

  fits : at + row_size ≤ length run
  fits = omega (arith, row_fits (suc (depth_of run)) room, r.run_length)

  few : used_bytes a ≤ mask_size
  few = used-room a (shaped-is a r.shaped).counts.steps

  bits-length : (f : ℕ → Bool) → length (step_bits a f) ≡ mask_size
  bits-length f = length-padded mask_size (used_bits a f) (omega (arith, few, tabulate-length (byte_of f) (used_bytes a)))

  abbrev bits : List ℕ
  bits = step_bits a (now_active a run e) ++ step_bits a (now_seen a run e)

  row-length : length row ≡ row_size
  unfolding row_opened
  row-length =
      omega (
        arith,
        row-places.name,
        row-places.state,
        row-places.seen,
        row-places.end,
        length-padded max_name e short,
        length-append (padded max_name e) (le16 (open_walk a run e).state ++ bits),
        length-append (step_bits a (now_active a run e)) (step_bits a (now_seen a run e)),
        bits-length (now_active a run e),
        bits-length (now_seen a run e),
      )

  matches-length : matches_at + length (used_bits a (now_matched a run e)) ≤ rows_at
  matches-length = omega (arith, matches-end, tabulate-length (byte_of (now_matched a run e)) (used_bytes a), few)

  pub open-length : length (open_run a run e) ≡ length run
  unfolding open_run
  open-length =
      length-sets (sets held matches_at (used_bits a (now_matched a run e))) depth_at (le16 (suc (depth_of run)))
      ∙ length-sets held matches_at (used_bits a (now_matched a run e))
      ∙ put-length run row at row_size fits row-length

  -- what is behind the run
  pub open-behind : drop run_size (open_run a run e) ≡ drop run_size run
  unfolding open_run
  open-behind =
      rest-behind (le16 (suc (depth_of run))) (sets held matches_at (used_bits a (now_matched a run e))) depth_at run_size (omega (arith, row_fits 0 (omega arith), matches-end, depth-end))
      ∙ rest-behind (used_bits a (now_matched a run e)) held matches_at run_size (omega (arith, row_fits 0 (omega arith), matches-length))
      ∙ put-behind run row at row_size fits row-length run_size (row_fits (suc (depth_of run)) room)

  open-rows : (j : ℕ) → rows_at ≤ j → get_or (open_run a run e) j 0 ≡ get_or held j 0
  unfolding open_run
  open-rows j h =
      byte-behind (le16 (suc (depth_of run))) (sets held matches_at (used_bits a (now_matched a run e))) depth_at j (omega (arith, matches-end, depth-end))
      ∙ byte-behind (used_bits a (now_matched a run e)) held matches_at j (omega (arith, matches-length))

  open-depth : depth_of (open_run a run e) ≡ suc (depth_of run)
  unfolding depth_of open_run max_depth
  open-depth =
      word-stored (sets held matches_at (used_bits a (now_matched a run e))) depth_at (suc (depth_of run))
      (omega (arith, length-sets held matches_at (used_bits a (now_matched a run e)), put-length run row at row_size fits row-length, fits, row-begins (suc (depth_of run)), matches-end, depth-end))
      (omega arith)

  -- the rows further out
  open-outer : (k : ℕ) → k ≤ depth_of run → (name_length (open_run a run e) k ≡ name_length run k) × (state_at (open_run a run e) k ≡ state_at run k)
  open-outer k h =
      row-alike run (open_run a run e) k
      (λ j l i. open-rows j (omega (arith, row-begins k)) ∙ put-before run row at row_size fits row-length j (omega (arith, rows_apart k (suc (depth_of run)) (omega arith))))

  -- the new row
  row-byte : (k : ℕ) → k < row_size → get_or (open_run a run e) (at + k) 0 ≡ get_or row k 0
  row-byte k h = open-rows (at + k) (omega (arith, row-begins (suc (depth_of run)))) ∙ put-within run row at row_size fits row-length k h

  new-name : name_length (open_run a run e) (suc (depth_of run)) ≡ length e
  unfolding row_opened
  new-name = ap (λ (n : ℕ). get_or (open_run a run e) n 0) (sym (add-zero at)) ∙ row-byte 0 (omega (arith, row-places.name, row-places.state, row-places.seen, row-places.end))

  state-bound : (open_walk a run e).state ≤ suc (label_count a)
  state-bound = let w = shaped-walkable a r.shaped in over-state a w (state_at run (depth_of run)) (first_of a e) ((run-shape a run r.run_is_shaped).state (depth_of run) (omega arith)) (first-within a w.searchable e)

  moves-bound : (open_walk a run e).moves ≤ suc max_steps
  moves-bound =
      let q = (run-shape a run r.run_is_shaped).state (depth_of run) (omega arith) in
      let w = shaped-walkable a r.shaped in
      omega (arith, over-moves a w (state_at run (depth_of run)) (first_of a e) q (first-within a w.searchable e), size-within a w.falling (state_at run (depth_of run)) q)

  state-stands : Stands state_in (le16 (open_walk a run e).state) row
  unfolding row_opened
  state-stands = record { before = length e ∷ padded max_name e; after = bits; split = refl; size = omega (arith, row-places.name, length-padded max_name e short) }

  new-state : state_at (open_run a run e) (suc (depth_of run)) ≡ (open_walk a run e).state
  unfolding max_labels
  new-state =
      word_same (open_run a run e) row (at + state_in) state_in
      (row-byte state_in (omega (arith, row-places.state, row-places.seen, row-places.end)))
      (ap (λ (n : ℕ). get_or (open_run a run e) n 0) (add_assoc at state_in 1) ∙ row-byte (state_in + 1) (omega (arith, row-places.state, row-places.seen, row-places.end)))
      ∙ word_read (open_walk a run e).state state_in (omega (arith, state-bound, (shaped-is a r.shaped).counts.labels)) state-stands

  open-shape : RunShape a (open_run a run e)
  open-shape =
      let s = run-shape a run r.run_is_shaped in
      let new : (k : ℕ) → (k ≤ depth_of run → ⊥) → k ≤ depth_of (open_run a run e) → k ≡ suc (depth_of run) = λ k n h. omega (arith, open-depth) in
      record {
        deepest = rw open-depth room;
        name = λ k h. cases (leb k (depth_of run))
            (λ t. rw (open-outer k (leb-true _ _ t)).0 (s.name k (leb-true _ _ t)))
            (λ t. rw (new k (λ n. let x : depth_of run < k = leb-false _ _ t in omega arith) h, new-name) short);
        state = λ k h. cases (leb k (depth_of run))
            (λ t. rw (open-outer k (leb-true _ _ t)).1 (s.state k (leb-true _ _ t)))
            (λ t. rw (new k (λ n. let x : depth_of run < k = leb-false _ _ t in omega arith) h, new-state) state-bound);
      }

pub open-usable : (a run : List ℕ) (c : Counters) (e : Name) → Usable a run c → open_refusal a run c e ≡ 0 → Usable a (open_run a run e) (open_counters a run c e)
unfolding open_counters max_steps max_depth
open-usable a run c e u z =
    let r = u.ready in
    let m = may-open a run c e z in
    let f = counter-facts run c u.counts in
    let b = moves-bound a run e r m.depth m.name in
    let d = open-depth a run e r m.depth m.name in
    record {
      ready = record { size = r.size; shaped = r.shaped; run_length = rw (open-length a run e r m.depth m.name) r.run_length; run_is_shaped = is-run-shaped a (open_run a run e) (open-shape a run e r m.depth m.name) };
      counts = are-counters-shaped (open_run a run e) (open_counters a run c e) (record { few = omega (arith, m.opens); balance = omega (arith, d, f.balance); moved = omega (arith, f.moved, b) });
    }

-- a close
module _ (a run : List ℕ) (r : Ready a run) where
  abbrev from : ℕ
  from = row_at (depth_of run)

  abbrev none : List ℕ
  none = replicate row_size 0

  none-length : length none ≡ row_size
  none-length = length-replicate row_size 0

  inside : from + row_size ≤ length run
  inside = omega (arith, row_fits (depth_of run) (run-shape a run r.run_is_shaped).deepest, r.run_length)

  abbrev kept : List ℕ
  kept = with_row run (depth_of run) none

  pub close-length : length (close_run run) ≡ length run
  unfolding close_run
  close-length = length-sets kept depth_at (le16 (pred (depth_of run))) ∙ put-length run none from row_size inside none-length

  pub close-behind : drop run_size (close_run run) ≡ drop run_size run
  unfolding close_run
  close-behind =
      rest-behind (le16 (pred (depth_of run))) kept depth_at run_size (omega (arith, row_fits 0 (omega arith), matches-end, depth-end))
      ∙ put-behind run none from row_size inside none-length run_size (row_fits (depth_of run) (run-shape a run r.run_is_shaped).deepest)

  close-depth : depth_of (close_run run) ≡ pred (depth_of run)
  unfolding depth_of close_run max_depth
  close-depth =
      word-stored kept depth_at (pred (depth_of run))
      (omega (arith, put-length run none from row_size inside none-length, inside, row-begins (depth_of run), matches-end, depth-end))
      (omega (arith, (run-shape a run r.run_is_shaped).deepest))

  close-rows : (k : ℕ) → k < depth_of run → (name_length (close_run run) k ≡ name_length run k) × (state_at (close_run run) k ≡ state_at run k)
  unfolding close_run
  close-rows k h =
      row-alike run (close_run run) k
      (λ j l i. byte-behind (le16 (pred (depth_of run))) kept depth_at j (omega (arith, row-begins k, matches-end, depth-end)) ∙ put-before run none from row_size inside none-length j (omega (arith, rows_apart k (depth_of run) h)))

  close-shape : 0 < depth_of run → RunShape a (close_run run)
  close-shape some =
      let s = run-shape a run r.run_is_shaped in
      let less : (k : ℕ) → k ≤ depth_of (close_run run) → k < depth_of run = λ k h. omega (arith, close-depth, some) in
      record {
        deepest = omega (arith, close-depth, s.deepest);
        name = λ k h. rw (close-rows k (less k h)).0 (s.name k (omega (arith, less k h)));
        state = λ k h. rw (close-rows k (less k h)).1 (s.state k (omega (arith, less k h)));
      }

pub close-usable : (a run : List ℕ) (c : Counters) (e : Name) → Usable a run c → close_refusal a run c e ≡ 0 → Usable a (close_run run) (close_counters c)
close-usable a run c e u z =
    let r = u.ready in
    let some : 0 < depth_of run = omega (arith, eqb-false (depth_of run) 0 (may-close a run c e z).depth) in
    let f = counter-facts run c u.counts in
    record {
      ready = record { size = r.size; shaped = r.shaped; run_length = rw (close-length a run r) r.run_length; run_is_shaped = is-run-shaped a (close_run run) (close-shape a run r some) };
      counts = are-counters-shaped (close_run run) (close_counters c) (record { few = f.few; balance = omega (arith, close-depth a run r, f.balance, some); moved = f.moved });
    }
