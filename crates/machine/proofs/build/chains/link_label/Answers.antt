-- `build::chains::link_label`: what is done by the label that the search finds is `linked`.
use Rattle.stored.specs.Code.Chains.{linked}
use Rattle.machine.proofs.build.chains.link_label.Goals as goal

pub returns-in-None : goal.returns-in-None
unfolding linked
returns-in-None c =
    rw (← c.label_name-e.ensures, ← c.in-None.ensures.found, ← c.hash_of-h.ensures.0) c.enter_name.ensures

pub returns-in-Some : goal.returns-in-Some
unfolding linked
returns-in-Some c =
    rw (← c.label_name-e.ensures, ← c.in-Some.ensures.found, ← c.number.ensures) c.precede.ensures
