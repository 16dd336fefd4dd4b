use lib.ListN.{length}
use Rattle.reports.proofs.order.+sort.Given as goal

abbrev pub decreases-sort : goal.decreases-sort
decreases-sort l = length l.places.now
