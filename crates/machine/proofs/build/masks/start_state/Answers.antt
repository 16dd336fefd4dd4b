use mathlib.Core.Path.{◌≡◌, refl, ◌∙◌, ap}
use mathlib.Core.Bool.{Bool, true, false}
use borrow.Author.Rules.{rules}
use borrow.Author.Tests.{tests}
use native.Mathlib.Nat.{sub-zero}
use Rattle.std.specs.Int.{from_bool}
use Rattle.std.specs.List.{range_with_len, list_any}
use Rattle.std.proofs.lemmas.Iterator.{YieldsList-from_range}
use Rattle.std.proofs.lemmas.Iterator.Search.{any_from_yields_List}
use Rattle.notation.specs.Reads.{path_count}
use Rattle.stored.proofs.Laws.Building.Flagging.{rooted-among}
use Rattle.stored.specs.Automaton.{bit}
use Rattle.stored.specs.Code.Masks.{rooted, any_rooted}
use Rattle.machine.proofs.build.masks.start_state.Goals as goal

number : (b : Bool) → from_bool b ≡ bit b
number true = refl
number false = refl

pub returns : goal.returns
returns c =
    let part = c.args.part.now in
    let n = c.paths.result in
    let some : c.any-rooted.result ≡ list_any (rooted part) (range_with_len 0 n) = any_from_yields_List (rooted part) _ _ c.any-rooted.result c.any-rooted.ensures.ran (YieldsList-from_range 0 n n refl (sub-zero n)) (λ x b q k. search (rules, tests)) in
    let all : c.any-rooted.result ≡ any_rooted (path_count part) 0 part = some ∙ (rooted-among n 0 part ∙ ap (λ k. any_rooted k 0 part) c.paths.ensures.0) in
    c.from.ensures ∙ (number c.any-rooted.result ∙ ap bit all)
