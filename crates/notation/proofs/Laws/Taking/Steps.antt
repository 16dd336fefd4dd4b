-- One step that was found at an offset, counted and written.
use Prim.Native.Nat.{ℕ, ◌+◌, ◌-◌, ◌≤◌, ◌<◌}
use native.Mathlib.Omega.{arith}
use mathlib.Core.Path.{◌≡◌, refl, sym, ap, ◌∙◌}
use mathlib.Core.Bool.{Bool, true, false, cond}
use mathlib.Core.List.{List, ◌++◌}
use lib.ListN.{length, drop, length-append, length-drop}
use Rattle.std.specs.Prelude.{Some}
use Rattle.std.proofs.lemmas.Option.{none-some, same_Some}
use Rattle.text.specs.Bytes.{joined}
use Rattle.text.specs.Read.{Read, fail, got}
use Rattle.text.proofs.Laws.Reads.{WhenRead, holds-got, behind}
use Rattle.notation.specs.Sets.{Axis, child, descendant, label, star, Step, step, axis_of}
use Rattle.notation.specs.Print.{print_axis, print_step}
use Rattle.notation.specs.Form.{formed_step}
use Rattle.notation.specs.Reads.{stored_step}
use Rattle.notation.specs.Code.Reader.{read_step}
use Rattle.notation.specs.Code.Taking.{step_found, found_counted, found_written, state, take_step, Small}
use Rattle.notation.specs.declared.steps.StepFound.{StepFound}
use Rattle.notation.specs.declared.tally.Tally.{Tally}
use Rattle.notation.proofs.Laws.Reading.Paths.{step-sound}

-- a step has a byte at least
pub some_byte : (x : Step) → 1 ≤ length (print_step x)
unfolding print_step
some_byte (step child t) = omega arith
some_byte (step descendant t) = omega arith

abbrev found_of : ℕ → Step → StepFound
found_of at x = record { step = stored_step x; from = at + length (print_axis (axis_of x)); end = at + length (print_step x) }

-- the step that was found
pub record Stands (text : List ℕ) (at : ℕ) (f : StepFound) : Type 0 where
  pub item : Step
  pub was : read_step (drop at text) ≡ got item (drop f.end text)
  pub is : f ≡ found_of at item
  pub on : at < f.end
  pub ends : f.end ≤ length text

pub found-stands : (text : List ℕ) (at : ℕ) (f : StepFound) → at ≤ length text → step_found at (read_step (drop at text)) ≡ Some f → Stands text at f
unfolding print_step
found-stands text at f on e = go (read_step (drop at text)) (step-sound (drop at text)) refl e
  where
    go : (m : Read Step) → WhenRead (λ x r. (formed_step x ≡ true) × (print_step x ++ r ≡ drop at text)) m → read_step (drop at text) ≡ m → step_found at m ≡ Some f → Stands text at f
    go fail s is e = absurd (none-some f e)
    go (got x r) s is e =
        let front : print_step x ++ r ≡ drop at text = (holds-got s).1 in
        let same : found_of at x ≡ f = same_Some (found_of at x) f e in
        rw (← same) (record {
          item = x;
          was = is ∙ ap (got x) (sym (behind text (print_step x) r at front));
          is = refl;
          on = omega (arith, some_byte x);
          ends = omega (arith, ap length front, length-append (print_step x) r, length-drop at text);
        })

-- it is counted, and its entries are written, as the definition says
module _ (t : Tally) (part : List ℕ) where
  label-size : (a : Axis) (n : List ℕ) → t.at + length (print_axis a ++ n) - (t.at + length (print_axis a)) ≡ length n
  label-size a n = omega (arith, length-append (print_axis a) n)

  found-taken : (x : Step) → state (found_counted (found_of t.at x) t) (found_written (found_of t.at x) t part) ≡ take_step x (state t part)
  unfolding take_step joined print_step
  found-taken (step child star) = refl
  found-taken (step descendant star) = refl
  found-taken (step child (label n)) = rw (label-size child n)
  found-taken (step descendant (label n)) = rw (label-size descendant n)

module _ (text : List ℕ) (t : Tally) (part : List ℕ) (f : StepFound) (s : Stands text t.at f) where
  pub step-taken : state (found_counted f t) (found_written f t part) ≡ take_step s.item (state t part)
  step-taken = rw s.is (found-taken t part s.item)

  pub step-small : Small text t → Small text (found_counted f t)
  step-small k =
      let few : cond f.step.star 0 1 ≤ 1 = at-most f.step.star in
      record {
        short = k.short;
        at = s.ends;
        folders = omega (arith, k.folders, s.on);
        paths = omega (arith, k.paths, s.on);
        steps = omega (arith, k.steps, s.on);
        labels = omega (arith, k.labels, s.on);
      }
    where
      at-most : (b : Bool) → cond b 0 1 ≤ 1
      at-most true = omega arith
      at-most false = omega arith
