-- `text::names::name_form` meets its contract: it has a first byte that can begin a name, and all others can be in one.
use Rattle.std.proofs.Common.{rules, tests}
use Rattle.std.proofs.lemmas.Iterator.{YieldsList-from_slice}
use Rattle.std.proofs.lemmas.Iterator.Search.{all_from_yields_List}
use Rattle.std.proofs.lemmas.List.{nil_from_length}
use Rattle.text.specs.Names.{name_form}
use Rattle.text.specs.Classes.{class_of, can_follow}
use Rattle.text.proofs.Laws.Bytes.Classes.{begins-class, all-in-class}
use Rattle.text.proofs.names.name_form.Goals as goal

pub returns-then-begins_name : goal.returns-then-begins_name
unfolding name_form
returns-then-begins_name c =
    let rest = c.in-Some.rest.now in
    let all = all_from_yields_List (λ b. can_follow (class_of b)) _ _ c.all.result c.all.ensures.ran (YieldsList-from_slice rest cc) (λ x b q k. search (rules, tests)) in
    rw (c.in-Some.ensures.cases.0, begins-class, ← c.class_of.ensures, ← c.begins_name.ensures, c.if-begins_name.true, all-in-class) all

pub returns-else-begins_name : goal.returns-else-begins_name
unfolding name_form
returns-else-begins_name c = rw (c.in-Some.ensures.cases.0, begins-class, ← c.class_of.ensures, ← c.begins_name.ensures, c.if-begins_name.false)

pub returns-in-None : goal.returns-in-None
unfolding name_form
returns-in-None c = rw (nil_from_length c.args.s.now c.in-None.ensures.cases)
