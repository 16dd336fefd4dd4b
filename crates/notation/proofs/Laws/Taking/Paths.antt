-- A path, taken as it is read: its word, its steps, its entry, its bracket.
use Prim.Native.Nat.{ℕ, ◌+◌, ◌-◌, ◌*◌, ◌≤◌, ◌<◌}
use native.Mathlib.Omega.{arith}
use mathlib.Core.Path.{◌≡◌, refl, ap, ap₂, ◌∙◌}
use mathlib.Core.Bool.{true}
use mathlib.Core.List.{[], ◌∷◌}
use lib.ListN.{length, length-append}
use lib.Seq.{sets}
use Rattle.std.specs.Prelude.{Option, Some, None, MatchOption}
use Rattle.std.specs.Borrow.{MutBor}
use Rattle.text.specs.Lists.{non_empty}
use Rattle.text.specs.Read.{fail, got, then_read, when, read_word}
use Rattle.notation.specs.Sets.{label, star, Step, step, Path, test_of}
use Rattle.notation.specs.Print.{print_step, print_path}
use Rattle.notation.specs.Form.{labels_of, label_of}
use Rattle.notation.specs.Layout.{path_size, paths_at, path_entry}
use Rattle.notation.specs.Code.Reader.{read_steps, read_path}
use Rattle.notation.specs.Code.Taking.{path_first, path_ended, path_counted, State, state, moved, take_step, take_all, take_path, Small}
use Rattle.notation.specs.Code.Readings.{ahead, state_of, Got, Takes}
use Rattle.notation.specs.declared.tally.Tally.{Tally}
use Rattle.notation.specs.declared.take.Reading.{Reading}
use Rattle.notation.proofs.Laws.Taking.Grown.{steps-grown, path-grown, step-grown}
use Rattle.notation.proofs.Laws.Taking.Steps.{some_byte}

-- the steps of a path are no more than its bytes, and its labels, at most one a step, no more than its steps
pub many-bytes : (p : Path) → length p ≤ length (print_path p)
unfolding print_path
many-bytes [] = omega arith
many-bytes (x ∷ p) = omega (arith, many-bytes p, some_byte x, length-append (print_step x) (print_path p))

few-labels : (x : Step) → length (label_of (test_of x)) ≤ 1
few-labels (step a (label n)) = omega arith
few-labels (step a star) = omega arith

pub many-labels : (p : Path) → length (labels_of p) ≤ length p
unfolding labels_of
many-labels [] = omega arith
many-labels (x ∷ p) = omega (arith, many-labels p, few-labels x, length-append (label_of (test_of x)) (labels_of p))

pub step-moves : (x : Step) (s : State) → s.tally.at < (take_step x s).tally.at
step-moves x s = omega (arith, (step-grown x s).at, some_byte x)

pub path-moves : (p : Path) (s : State) → s.tally.at < (take_path p s).tally.at
path-moves p s = omega (arith, (path-grown p s).at)

-- a path is counted, and its entry, of these numbers, is written
abbrev counted : State → State
counted s = state (path_counted s.tally) s.part

abbrev entered : ℕ → ℕ → State → Tally → State
entered count size s t = state (path_ended s.tally) (sets s.part (paths_at + path_size * s.tally.paths) (path_entry t.steps count t.at size))

-- the steps of a path, where it begins
abbrev pub path_steps : Path → State → State
path_steps p s = take_all take_step p (state (path_first s.tally) s.part)

pub from-first : (b r u : Reading) (x : Option (Unit {0})) → Takes read_steps (take_all take_step) b x u → b.text ≡ r.text → b.part ≡ r.part → b.tally ≡ path_first r.tally
    → Takes read_steps path_steps r x u
from-first b r u x t text part tally = record { kept = record { text = t.kept.text ∙ text; part = t.kept.part ∙ ap MutBor.ghost_name part }; came = go x t.came }
  where
    go : (x : Option (Unit {0})) → MatchOption x (read_steps (ahead b) ≡ fail) (λ _. Got read_steps (take_all take_step) b u)
        → MatchOption x (read_steps (ahead r) ≡ fail) (λ _. Got read_steps path_steps r u)
    go None e = rw (tally, text) at e
    go (Some y) g = record { item = g.item; was = rw (tally, text) at g.was; taken = rw (tally, part) at g.taken }

-- the word before a path, and then its steps
module _ (r r₁ r₂ : Reading) (w : Got (read_word (32 ∷ 40 ∷ [])) (λ _. moved 2) r r₁) where
  pub steps-unread : Takes read_steps path_steps r₁ None r₂ → read_path (ahead r) ≡ fail
  unfolding read_path
  steps-unread t = rw (w.was, t.came)

  module _ (g : Got read_steps path_steps r₁ r₂) where
    -- so many steps, and so many bytes
    pub many : (r₂.tally.steps ≡ r₁.tally.steps + length g.item) × (r₂.tally.at ≡ r₁.tally.at + length (print_path g.item))
    many =
        let n = steps-grown g.item (state (path_first r₁.tally) r₁.part.now) in
        let t = ap State.tally g.taken in
        (omega (arith, n.steps, ap Tally.steps t), omega (arith, n.at, ap Tally.at t))

    pub no-steps : r₂.tally.steps ≡ r₁.tally.steps → read_path (ahead r) ≡ fail
    unfolding read_path
    no-steps e = rw (w.was, g.was) (go g.item (omega (arith, many.0)))
      where
        go : (p : Path) → length p ≡ 0 → when (non_empty p) (then_read (read_word (41 ∷ []) (ahead r₂)) (λ w l. got p l)) ≡ fail
        go [] z = refl
        go (x ∷ p) z = absurd (omega arith)

    some-steps : (r₂.tally.steps ≡ r₁.tally.steps → ⊥) → non_empty g.item ≡ true
    some-steps n = go g.item many.0
      where
        go : (p : Path) → r₂.tally.steps ≡ r₁.tally.steps + length p → non_empty p ≡ true
        go [] z = absurd (n (omega arith))
        go (x ∷ p) z = refl

    module _ (r₃ : Reading) (some : r₂.tally.steps ≡ r₁.tally.steps → ⊥) (there : ahead r₃ ≡ ahead r₂) where
      pub no-bracket : (u : Reading) → Takes (read_word (41 ∷ [])) (λ _. moved 1) r₃ None u → read_path (ahead r) ≡ fail
      unfolding read_path
      no-bracket u t = rw (w.was, g.was, some-steps some, ← there, t.came)

      -- its entry, and its bracket
      pub path-taken : (r₄ u : Reading) → state_of r₃ ≡ state r₂.tally (sets r₂.part.now (paths_at + path_size * r₂.tally.paths) (path_entry r₁.tally.steps (r₂.tally.steps - r₁.tally.steps) r₁.tally.at (r₂.tally.at - r₁.tally.at)))
          → Got (read_word (41 ∷ [])) (λ _. moved 1) r₃ r₄ → ahead u ≡ ahead r₄ → state_of u ≡ state (path_counted r₄.tally) r₄.part.now → Got read_path take_path r u
      unfolding read_path take_path moved
      path-taken r₄ u put l on last =
          let count : r₂.tally.steps - r₁.tally.steps ≡ length g.item = omega (arith, many.0) in
          let size : r₂.tally.at - r₁.tally.at ≡ length (print_path g.item) = omega (arith, many.1) in
          record {
            item = g.item;
            was = rw (w.was, g.was, some-steps some, ← there, l.was, on);
            taken = last
                ∙ ap (λ (s : State). counted s) l.taken
                ∙ ap (λ (s : State). counted (moved 1 s)) put
                ∙ ap₂ (λ (n m : ℕ). entered n m (state_of r₂) r₁.tally) count size
                ∙ ap₂ (entered (length g.item) (length (print_path g.item))) (g.taken ∙ ap (path_steps g.item) w.taken) (ap State.tally w.taken);
          }

-- the bracket is a byte more than the paths before had
pub counted-small : (r u : Reading) → Got (read_word (41 ∷ [])) (λ _. moved 1) r u → Small u.text.now (path_counted u.tally)
unfolding moved
counted-small r u g =
    let k = u.small in
    let t = ap State.tally g.taken in
    record { short = k.short; at = k.at; folders = k.folders; paths = omega (arith, r.small.paths, ap Tally.at t, ap Tally.paths t); steps = k.steps; labels = k.labels }
