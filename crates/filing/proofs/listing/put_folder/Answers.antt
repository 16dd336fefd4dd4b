-- `listing::put_folder`: the line of the folder that is stored, or nothing.
use native.Mathlib.Omega.{arith}
use Prim.Native.Nat.{◌+◌, ◌-◌, ◌^◌, min}
use mathlib.Core.Path.{◌≡◌, sym, ◌∙◌, ap}
use Rattle.model.specs.Folders.{count_from}
use Rattle.notation.specs.Print.{footer, folder_word}
use Rattle.stored.specs.HeldSet.{top_held}
use Rattle.text.specs.Output.{no_pieces}
use Rattle.text.proofs.Laws.Output.{one, and_then, same_bytes}
use Rattle.filing.specs.Listed.{line_at}
use Rattle.filing.proofs.Laws.Listing.Steps.{folder-yes, folder-no, line-joined}
use Rattle.filing.proofs.listing.put_folder.Goals as goal

pub returns-then-not-folder_paths_matched : goal.returns-then-not-folder_paths_matched
returns-then-not-folder_paths_matched g c = same_bytes no_pieces (folder-no _ _ _ (sym c.folder_paths_matched.ensures ∙ c.if-not-folder_paths_matched.true))

pub returns-in-Some : goal.returns-in-Some
unfolding footer folder_word
returns-in-Some g c =
    let a = c.args in
    let f = c.in-Some.folder in
    let many : min (f.first.0 + f.paths) (2 ^ 64 - 1) - f.first.0 ≡ f.paths = omega (arith, ap top_held c.in-Some.is, c.folder_at.ensures.1) in
    let line = and_then c.put_numbered.ensures (and_then (rw (c.places.ensures, many) at c.put_paths.ensures) (one c.put.ensures)) in
    let at = ap (line_at a.a.now a.run.now) (sym c.in-Some.is ∙ c.folder_at.ensures.0) in
    same_bytes line (line-joined a.a.now a.run.now f.number.0 (count_from f.first.0 f.paths) ∙ at ∙ folder-yes a.a.now a.run.now a.i (sym c.folder_paths_matched.ensures ∙ c.if-not-folder_paths_matched.false))

pub returns-in_default : goal.returns-in_default
returns-in_default g c =
    let a = c.args in
    let at = ap (line_at a.a.now a.run.now) (sym c.in_default.is ∙ c.folder_at.ensures.0) in
    same_bytes no_pieces (at ∙ folder-yes a.a.now a.run.now a.i (sym c.folder_paths_matched.ensures ∙ c.if-not-folder_paths_matched.false))
