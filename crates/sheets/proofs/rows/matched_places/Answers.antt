-- `rows::matched_places`: after so many turns the places are the matched ones of so many.
use native.Mathlib.Omega.{arith}
use native.Mathlib.Numerals.{add-one}
use mathlib.Core.Path.{◌≡◌, sym, ap, ◌∙◌}
use mathlib.Core.List.{List, [], ◌∷◌, ◌++◌}
use Prim.Native.Nat.{ℕ}
use Rattle.text.specs.Bytes.{joined}
use Rattle.notation.specs.Limits.{max_paths}
use Rattle.model.specs.Folders.{count_from}
use Rattle.sheets.proofs.Laws.Stored.Tables.{place-added, place-left}
use Rattle.sheets.proofs.rows.matched_places.Goals as goal
use Rattle.sheets.proofs.rows.matched_places.Goals.{then-place_matched, else-place_matched}

pub loop-place-init : goal.loop-place-init
unfolding joined count_from
loop-place-init c = record { few = rw c.new-places.ensures (omega arith); are = c.new-places.ensures }

pub loop-place-preserved : goal.loop-place-preserved
loop-place-preserved c =
    let a = c.args in
    let l = c.loop-place in
    let is = sym c.place_matched.ensures in
    elim c.if-place_matched.branch [
      | then-place_matched w ↦ rw (w.places-is, add-one l.place) (record {
        few = omega (arith, w.push.ensures.len, l.invariant.few);
        are = w.push.ensures.items ∙ ap (λ (x : List ℕ). x ++ (l.place ∷ [])) l.invariant.are ∙ place-added a.a.now a.run.now l.place (is ∙ w.if-place_matched.true);
      })
      | else-place_matched w ↦ rw (w.places-is, add-one l.place) (record {
        few = omega (arith, l.invariant.few);
        are = l.invariant.are ∙ place-left a.a.now a.run.now l.place (is ∙ w.if-place_matched.false);
      })
    ]

pub returns : goal.returns
unfolding max_paths
returns c =
    let l = c.loop-place in
    let all : l.place ≡ 128 = omega arith in
    rw all at l.invariant.are
