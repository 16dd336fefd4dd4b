-- The refusals of the calls on a run, condition by condition, and what an accepted call may rely on.
use Prim.Native.Nat.{ℕ, suc, ◌+◌, ◌≤◌, ◌<◌}
use mathlib.Core.Path.{◌≡◌, ◌∙◌}
use mathlib.Core.Bool.{Bool, true, false, not, ◌&&◌}
use mathlib.Core.List.{List, ◌++◌}
use native.Mathlib.Omega.{arith}
use lib.Dec.{leb, ltb, eqb}
use lib.ListN.{length, drop, replicate, length-replicate}
use lib.Seq.{sets}
use borrow.Author.Tests.{le-ltb, ltb-false, not-false, leb-false}
use Rattle.text.specs.Names.{Name, name_form, too_long, max_name}
use Rattle.text.specs.Bytes.{le16}
use Rattle.notation.specs.Layout.{word_size}
use Rattle.text.specs.declared.refusals.Refusal.TheVariants.{ShortBuffer, NameTooLong, OverCapacity, SyntaxError, NotOneRoot, TooDeep, NotFound, BadShape}
use Rattle.text.specs.Refusals.{number_of}
use Rattle.model.specs.Limits.{max_depth, max_opens}
use Rattle.text.specs.Order.{given, first}
use Rattle.stored.specs.Automaton.{automaton_size}
use Rattle.stored.specs.Tables.{start_of}
use Rattle.stored.specs.Shape.{automaton_shaped}
use Rattle.stored.specs.Run.{row_at, rows_at, row_size, run_size, state_in}
use Rattle.stored.specs.RunCalls.{depth_of, run_shaped, counters_shaped, shaped, too_short, lent_conditions, open_others, close_others, root_closed, start_refusal, open_refusal, close_refusal, start_run}
use Rattle.stored.specs.Asking.{ask_refusal}
use Rattle.stored.specs.Usable.{Ready, Usable}
use Rattle.stored.specs.declared.counters.Counters.{Counters}
use Rattle.text.proofs.Laws.Tests.{both, neither}
use Rattle.text.proofs.Laws.Order.{not-given, given-first, given-then}
use Rattle.stored.proofs.Laws.Bytes.Stores.{sets-left}

pub long-enough : (a run : List ℕ) → too_short a run ≡ false → (automaton_size ≤ length a) × (run_size ≤ length run)
long-enough a run h = let n = neither (ltb (length a) automaton_size) (ltb (length run) run_size) h in (ltb-false _ _ n.0, ltb-false _ _ n.1)

pub record MayStart (a run : List ℕ) : Type 0 where
  pub size : automaton_size ≤ length a
  pub run_length : run_size ≤ length run
  pub shaped : automaton_shaped a ≡ true

pub may-start : (a run : List ℕ) → start_refusal a run ≡ 0 → MayStart a run
unfolding start_refusal
may-start a run h =
    let s = not-given (too_short a run) ShortBuffer _ h in
    let t = not-given (not (automaton_shaped a)) BadShape _ s.1 in
    let l = long-enough a run s.0 in
    record { size = l.0; run_length = l.1; shaped = not-false _ t.0 }

pub record MayOpen (a run : List ℕ) (c : Counters) (e : Name) : Type 0 where
  pub ready : Ready a run
  pub depth : depth_of run < max_depth
  pub name : length e ≤ max_name
  pub opens : c.opens < max_opens
  pub counters : counters_shaped run c ≡ true

pub may-open : (a run : List ℕ) (c : Counters) (e : Name) → open_refusal a run c e ≡ 0 → MayOpen a run c e
unfolding open_refusal shaped
may-open a run c e h =
    let s = not-given (too_short a run) ShortBuffer _ h in
    let t = not-given (not (shaped a run c)) BadShape _ s.1 in
    let u = not-given (not (name_form e)) SyntaxError _ t.1 in
    let v = not-given (too_long e) NameTooLong _ u.1 in
    let w = not-given (root_closed run c) NotOneRoot _ v.1 in
    let x = not-given (leb max_depth (depth_of run)) TooDeep _ w.1 in
    let y = not-given (leb max_opens c.opens) OverCapacity _ x.1 in
    let l = long-enough a run s.0 in
    let f = both (automaton_shaped a) (run_shaped a run && counters_shaped run c) (not-false _ t.0) in
    let g = both (run_shaped a run) (counters_shaped run c) f.1 in
    let n : length e < suc max_name = leb-false _ _ v.0 in
    record {
      ready = record { size = l.0; shaped = f.0; run_length = l.1; run_is_shaped = g.0 };
      depth = leb-false _ _ x.0;
      name = omega arith;
      opens = leb-false _ _ y.0;
      counters = g.1;
    }

pub record MayClose (a run : List ℕ) (c : Counters) : Type 0 where
  pub ready : Ready a run
  pub depth : eqb (depth_of run) 0 ≡ false
  pub counters : counters_shaped run c ≡ true

pub may-close : (a run : List ℕ) (c : Counters) (e : Name) → close_refusal a run c e ≡ 0 → MayClose a run c
unfolding close_refusal shaped
may-close a run c e h =
    let s = not-given (too_short a run) ShortBuffer _ h in
    let t = not-given (not (shaped a run c)) BadShape _ s.1 in
    let u = not-given (not (name_form e)) SyntaxError _ t.1 in
    let v = not-given (too_long e) NameTooLong _ u.1 in
    let w = not-given (eqb (depth_of run) 0) NotOneRoot _ v.1 in
    let l = long-enough a run s.0 in
    let f = both (automaton_shaped a) (run_shaped a run && counters_shaped run c) (not-false _ t.0) in
    let g = both (run_shaped a run) (counters_shaped run c) f.1 in
    record { ready = record { size = l.0; shaped = f.0; run_length = l.1; run_is_shaped = g.0 }; depth = w.0; counters = g.1 }

pub may-ask : (a run : List ℕ) (there : Bool) → ask_refusal a run there ≡ 0 → Ready a run × (there ≡ true)
unfolding ask_refusal
may-ask a run there h =
    let s = not-given (too_short a run) ShortBuffer _ h in
    let t = not-given (not (automaton_shaped a && run_shaped a run)) BadShape _ s.1 in
    let u = not-given (not there) NotFound _ t.1 in
    let l = long-enough a run s.0 in
    let f = both (automaton_shaped a) (run_shaped a run) (not-false _ t.0) in
    (record { size = l.0; shaped = f.0; run_length = l.1; run_is_shaped = f.1 }, not-false _ u.0)

-- what passes the shape test, by the conditions of what is lent
pub lent-usable : (a run : List ℕ) (c : Counters) → given (lent_conditions a run c) ≡ 0 → Usable a run c
unfolding shaped
lent-usable a run c h =
    let s = not-given (too_short a run) ShortBuffer _ h in
    let t = not-given (not (shaped a run c)) BadShape _ s.1 in
    let l = long-enough a run s.0 in
    let f = both (automaton_shaped a) (run_shaped a run && counters_shaped run c) (not-false _ t.0) in
    let g = both (run_shaped a run) (counters_shaped run c) f.1 in
    record { ready = record { size = l.0; shaped = f.0; run_length = l.1; run_is_shaped = g.0 }; counts = g.1 }

pub usable-lent : (a run : List ℕ) (c : Counters) → Usable a run c → given (lent_conditions a run c) ≡ 0
unfolding given first shaped
usable-lent a run c u =
    rw (
      le-ltb (length a) automaton_size u.ready.size,
      le-ltb (length run) run_size u.ready.run_length,
      u.ready.shaped,
      u.ready.run_is_shaped,
      u.counts,
    )

module _ (a run : List ℕ) (c : Counters) (e : Name) where
  pub open_lent : (given (lent_conditions a run c) ≡ 0 → ⊥) → open_refusal a run c e ≡ given (lent_conditions a run c)
  unfolding open_refusal
  open_lent n = given-first (lent_conditions a run c) (open_others run c e) n

  pub close-lent : (given (lent_conditions a run c) ≡ 0 → ⊥) → close_refusal a run c e ≡ given (lent_conditions a run c)
  unfolding close_refusal
  close-lent n = given-first (lent_conditions a run c) (close_others run e) n

  -- of what passes the shape test only the others are left
  pub open-others : Usable a run c → open_refusal a run c e ≡ given (open_others run c e)
  unfolding open_refusal
  open-others u = given-then (lent_conditions a run c) (open_others run c e) (usable-lent a run c u)

  pub close-others : Usable a run c → close_refusal a run c e ≡ given (close_others run e)
  unfolding close_refusal
  close-others u = given-then (lent_conditions a run c) (close_others run e) (usable-lent a run c u)

  -- and the first of them is 9
  pub open-unformed : Usable a run c → name_form e ≡ false → open_refusal a run c e ≡ number_of SyntaxError
  unfolding given first
  open-unformed u f = open-others u ∙ rw f

  pub close-unformed : Usable a run c → name_form e ≡ false → close_refusal a run c e ≡ number_of SyntaxError
  unfolding given first
  close-unformed u f = close-others u ∙ rw f

pub within-run : row_at 0 + state_in + word_size ≤ run_size
unfolding rows_at row_size state_in run_size
within-run = omega arith

pub started : (a run : List ℕ) → sets (replicate run_size 0 ++ drop run_size run) (row_at 0 + state_in) (le16 (start_of a)) ≡ start_run a run
unfolding start_run
started a run =
    let h : row_at 0 + state_in + length (le16 (start_of a)) ≤ length {A = ℕ} (replicate run_size 0) = rw (length-replicate {A = ℕ} run_size 0) within-run in
    sets-left (le16 (start_of a)) (replicate run_size 0) (drop run_size run) (row_at 0 + state_in) h
