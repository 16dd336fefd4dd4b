use Rattle.std.proofs.Common.{◌≡◌, ◌+◌, ◌-◌, ◌^◌, min, refl, ap, ◌∙◌, rules, tests, arith}
use Rattle.std.proofs.lemmas.Iterator.{YieldsList-from_range}
use Rattle.std.proofs.lemmas.Iterator.Search.{any_from_yields_List}
use Rattle.stored.specs.Asking.{place_matched, any_matched, paths_of_folder}
use Rattle.stored.proofs.Laws.Bytes.Ranges.{any-in_range}
use Rattle.machine.proofs.run.matches.folder_paths_matched.Goals as goal

pub returns-in-Some : goal.returns-in-Some
returns-in-Some c =
    let b = c.args in
    let f = c.in-Some.folder in
    let e : min (f.first.0 + f.paths) (2 ^ 64 - 1) ≡ f.first.0 + f.paths = omega (arith, c.in-Some.ensures.1) in
    let ran = rw (c.places.ensures, e) at c.any.ensures.ran in
    let y = YieldsList-from_range f.first.0 (f.first.0 + f.paths) f.paths refl (omega arith) in
    any_from_yields_List (λ p. place_matched b.a.now b.run.now (record { 0 = p })) _ _ _ ran y (λ x b q k. search (rules, tests))
    ∙ any-in_range (λ p. place_matched b.a.now b.run.now (record { 0 = p })) f.first.0 f.paths
    ∙ ap (λ o. any_matched b.a.now b.run.now (paths_of_folder o)) c.in-Some.ensures.0
