-- `build::parents::put_word`: past the last label nothing is done; else the stores and the search are those of `labelled`.
use Prim.Native.Nat.{ℕ, ◌+◌, ◌≤◌, ◌<◌}
use mathlib.Core.Path.{◌≡◌, sym, ap, subst}
use mathlib.Core.List.{List}
use native.Mathlib.Omega.{arith}
use borrow.Author.Tests.{lt-ltb, le-ltb}
use Rattle.notation.specs.Limits.{max_labels}
use Rattle.notation.specs.Reads.{label_name}
use Rattle.stored.specs.Tables.{goto}
use Rattle.stored.specs.Usable.{Searchable}
use Rattle.stored.specs.Code.Parents.{Passed, word_stored, labelled}
use Rattle.stored.specs.declared.place.Place.{Place}
use Rattle.stored.proofs.Laws.Building.Elsewhere.{searchable-stored}
use Rattle.machine.proofs.build.parents.put_word.Goals as goal

over_capacity : (at : Place) (a : List ℕ) → max_labels ≤ at.labels → labelled at a ≡ record { bytes = a; place = at }
unfolding labelled
over_capacity at a h = rw (le-ltb at.labels max_labels h)

roomy : (at : Place) (a b : List ℕ) (r : ℕ) → at.labels < max_labels → b ≡ word_stored at.labels at.state a → r ≡ goto b at.state (label_name b at.labels)
    → labelled at a ≡ record { bytes = b; place = record { labels = at.labels + 1; paths = at.paths; state = r } }
unfolding labelled
roomy at a b r h e f = rw (lt-ltb at.labels max_labels h, ← e, f)

pub returns-then-l-ge-MAX_LABELS : goal.returns-then-l-ge-MAX_LABELS
unfolding max_labels
returns-then-l-ge-MAX_LABELS c = let at = c.args.at in
    let a = c.args.part.now in
    let e = over_capacity at a c.if-l-ge-MAX_LABELS.true in
    record { bytes = sym (ap (λ (r : Passed). r.bytes) e); place = sym (ap (λ (r : Passed). r.place) e); sound = record { searchable = c.requires.0; paths = omega arith; state = c.requires.1 } }

pub follow-requires : goal.follow-requires
follow-requires c =
    subst Searchable (sym c.store_word.ensures) (searchable-stored c.args.at.labels c.args.at.state c.args.part.now c.requires.0)

pub returns : goal.returns
unfolding max_labels
returns c =
    let args = c.args in
    let at = args.at in
    let a = args.part.now in
    let e = roomy at a c.store_word.new.part c.follow.result c.if-l-ge-MAX_LABELS.false c.store_word.ensures c.follow.ensures.0 in
    let s : Searchable c.store_word.new.part = subst Searchable (sym c.store_word.ensures) (searchable-stored at.labels at.state a c.requires.0) in
    record {
      bytes = sym (ap (λ (r : Passed). r.bytes) e);
      place = sym (ap (λ (r : Passed). r.place) e);
      sound = record { searchable = s; paths = omega arith; state = c.follow.ensures.1 };
    }
