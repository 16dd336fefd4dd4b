use Rattle.std.specs.Borrow.{MutBor}
use Rattle.std.proofs.Common.{ℕ, List, ap, ◌≡◌, ◌+◌, ◌-◌, ◌≤◌, suc, refl, length, add-one, ◌∙◌, arith}
use Rattle.model.specs.Limits.{max_depth}
use Rattle.stored.specs.Automaton.{mask_size}
use Rattle.stored.specs.Run.{row_at, row_size, run_size}
use Rattle.stored.specs.RunCalls.{with_row, used_bytes}
use Rattle.stored.specs.Code.OpenSteps.{blank_row}
use Rattle.stored.proofs.Laws.Tables.LookTurns.{first-within}
use Rattle.stored.proofs.Laws.Running.RunBytes.{used-room, row_room}
use Rattle.stored.proofs.Laws.Running.Rows.{row-width, row_back}
use Rattle.stored.proofs.Laws.Running.Flagged.{opened}
use borrow.Rule.Slice.PartMut.{put_mid}
use Rattle.machine.proofs.Written.{written_again}
use Rattle.machine.proofs.run.open.write.Goals as goal

pub flag_labels-requires : goal.flag_labels-requires
flag_labels-requires c = let p = c.requires in
    record { openable = p.openable.0; within = rw p.first_value.0 (first-within c.args.automaton.now p.openable.0.walkable.searchable c.args.e.now) }

pub write_row-requires : goal.write_row-requires
unfolding row_size run_size
write_row-requires c =
    (row-width c.args.run.now.bytes.now c.row_at-at.result (omega (arith, c.args.run.now.sized)), c.requires.openable.1.1)

pub store_bits-requires-clause-steps : goal.store_bits-requires-clause-steps
store_bits-requires-clause-steps c = c.requires.openable.0.steps

pub returns : goal.returns
unfolding mask_size row_size run_size max_depth
returns c =
    let A = c.args.automaton.now in
    let r = c.args.run.now.bytes in
    let R = r.now in
    let E = c.args.e.now in
    let p = c.requires in
    let at = c.row_at-at in
    let fits : row_at (suc c.args.d) + row_size ≤ length R = row_room c.args.d R p.openable.1.0 c.args.run.now.sized in
    let row : put_mid at.result (at.result + row_size - at.result) R c.write_row.new.row ≡ with_row R (suc c.args.d) (blank_row E c.args.state) = row_back R c.write_row.new.row (c.args.d + 1) at.result at.ensures.0 ∙ rw (c.write_row.ensures, add-one c.args.d) in
    written_again r c.store_bits.ensures refl (c.put_word.ensures
    ∙ rw (ap (λ (b : MutBor (List ℕ)). b.now) c.store_bits.ensures, row)
    (opened A R E c.flag_labels.new.out c.args.d (used_bytes A) c.args.state (λ j. rw p.first_value.0 at (c.flag_labels.ensures j)) refl (used-room A p.openable.0.steps) p.first_value.1.0 p.first_value.1.1 p.openable.1.1 fits))
