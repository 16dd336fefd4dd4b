-- `tokens::tag_name` meets its contract: it hands back the part between the offsets that `tag_span` answers, and they lie in the bytes.
use mathlib.Core.Path.{refl, ap}
use Prim.Native.Nat.{ℕ}
use native.Mathlib.Nat.{add_comm}
use Rattle.documents.proofs.Laws.Printed.TagAt.{tag-at-cut}
use Rattle.reports.proofs.Laws.Read.TagName.{tag-at}
use Rattle.reports.proofs.tokens.tag_name.Goals as goal

pub slice_bounds-result-end : goal.slice_bounds-result-end
slice_bounds-result-end c = (tag-at-cut _ _ (tag-at _ _ c.in-Some.ensures)).1.high

pub returns-in-Some : goal.returns-in-Some
returns-in-Some c = record {
  from = c.in-Some.name.from;
  to = c.in-Some.name.to;
  stands = tag-at _ _ c.in-Some.ensures;
  part = record { begins = ap (λ (o : ℕ). (c.args.s.ref_ptr.0, o)) (add_comm _ _); shows = refl };
}
