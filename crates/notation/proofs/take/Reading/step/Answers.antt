use mathlib.Core.Path.{refl, sym, ap₂, ◌∙◌}
use Rattle.notation.specs.Code.Taking.{state}
use Rattle.notation.proofs.Laws.Taking.Steps.{Stands, found-stands, step-taken, step-small}
use Rattle.notation.proofs.take.Reading.step.Goals as goal
use Rattle.notation.proofs.take.Reading.step.Goals.{In_ok-found}

stood : (c : In_ok-found) → Stands c.args.self.now.text.now c.args.self.now.tally.at c.in_ok-found.found
stood c = let r = c.args.self.now in found-stands r.text.now r.tally.at _ r.small.at (sym c.in_ok-found.ensures)

pub invariant_of-self : goal.invariant_of-self
invariant_of-self c = let r = c.args.self.now in
    let s = stood (goal.at.invariant_of-self c).In_ok-found in
    record { small = rw c.with_step-self.ensures (step-small r.text.now r.tally r.part.now _ s r.small) }

pub returns : goal.returns
returns c = let r = c.args.self.now in
    let s = stood (goal.at.returns c).In_ok-found in
    record {
      kept = record { text = refl; part = refl };
      came = record {
        item = s.item;
        was = rw c.with_step-self.ensures s.was;
        taken = ap₂ state c.with_step-self.ensures c.put_found.ensures ∙ step-taken r.text.now r.tally r.part.now _ s;
      };
    }
