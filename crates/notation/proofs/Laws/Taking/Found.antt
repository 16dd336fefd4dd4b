-- Where a step, and its label or `*`, stand at an offset.
use Prim.Native.Nat.{ℕ, suc, ◌+◌, ◌≤◌, ◌<◌}
use native.Mathlib.Omega.{arith}
use native.Mathlib.Numerals.{add-one}
use mathlib.Core.Path.{◌≡◌, refl, ◌∙◌}
use mathlib.Core.Bool.{Bool, true, false}
use mathlib.Core.List.{List, [], ◌∷◌, ◌++◌}
use borrow.Author.Tests.{ne_eqb}
use lib.ListN.{length, get_or, drop, drop_of_length-le, length-append}
use Rattle.std.specs.Prelude.{Option, Some, None}
use lib.Seq.{drop-cons, drop-drop}
use Rattle.text.specs.Names.{begins_name, in_name}
use Rattle.text.specs.Read.{Read, fail, got, then_read, front, starts_with, read_word, read_name}
use Rattle.text.proofs.Laws.Reads.{word-is}
use Rattle.notation.specs.Sets.{Axis, child, descendant, Test, step}
use Rattle.notation.specs.Print.{print_axis, print_test, print_step}
use Rattle.notation.specs.Reads.{is_descendant}
use Rattle.notation.specs.Code.Reader.{read_axis, read_test, read_step}
use Rattle.notation.specs.Code.Taking.{test_found, step_found}
use Rattle.notation.specs.declared.steps.StepFound.{StepFound}

-- a step's test stands there, or nothing that can be one
abbrev tested : ℕ → Bool → Bool → ℕ → Option StepFound
tested from deep star end = Some (record { step = record { descendant = deep; star = star }; from = from; end = end })

module _ (s : List ℕ) (from : ℕ) (deep : Bool) where
  pub test-past : length s ≤ from → None ≡ test_found from deep (read_test (drop from s))
  unfolding read_test
  test-past h = rw (drop_of_length-le s h)

  module _ (b : ℕ) (h : from < length s) (e : b ≡ get_or s from 0) where
    pub test-star : b ≡ 42 → tested from deep true (from + 1) ≡ test_found from deep (read_test (drop from s))
    unfolding read_test
    test-star t = rw (drop-cons s from 0 h, ← e, t)

    module _ (n : b ≡ 42 → ⊥) where
      pub test-none : begins_name b ≡ false → None ≡ test_found from deep (read_test (drop from s))
      unfolding read_test read_name
      test-none f = rw (drop-cons s from 0 h, ← e, ne_eqb b 42 n, f)

      pub test-label : (end : ℕ) → begins_name b ≡ true → end ≡ from + 1 + length (front in_name (drop (from + 1) s))
          → tested from deep false end ≡ test_found from deep (read_test (drop from s))
      unfolding read_test read_name
      test-label end y l =
          let n' = length (front in_name (drop (suc from) s)) in
          let ends : end ≡ from + suc n' = l ∙ rw (add-one from) (omega arith) in
          rw (ends, drop-cons s from 0 h, ← e, ne_eqb b 42 n, y)

module _ (s : List ℕ) (at : ℕ) where
  -- behind the slashes of an axis its test is read
  after-axis : (a : Axis) (m : Read Test)
      → test_found (at + length (print_axis a)) (is_descendant a) m ≡ step_found at (then_read m (λ t r. got (step a t) r))
  unfolding print_step
  after-axis a fail = refl
  after-axis a (got t r) =
      let e : at + length (print_axis a) + length (print_test t) ≡ at + length (print_axis a ++ print_test t) = omega (arith, length-append (print_axis a) (print_test t)) in
      rw e

  pub deep_step : starts_with (47 ∷ 47 ∷ []) (drop at s) ≡ true → test_found (at + 2) true (read_test (drop (at + 2) s)) ≡ step_found at (read_step (drop at s))
  unfolding read_step read_axis
  deep_step t = rw (t, word-is (47 ∷ 47 ∷ []) (drop at s), t, drop-drop 2 at s) (after-axis descendant (read_test (drop (at + 2) s)))

  module _ (f : starts_with (47 ∷ 47 ∷ []) (drop at s) ≡ false) where
    pub child-step : starts_with (47 ∷ []) (drop at s) ≡ true → test_found (at + 1) false (read_test (drop (at + 1) s)) ≡ step_found at (read_step (drop at s))
    unfolding read_step read_axis
    child-step t = rw (f, word-is (47 ∷ []) (drop at s), t, drop-drop 1 at s) (after-axis child (read_test (drop (at + 1) s)))

    pub no_step-is : starts_with (47 ∷ []) (drop at s) ≡ false → None ≡ step_found at (read_step (drop at s))
    unfolding read_step read_axis
    no_step-is n = rw (f, word-is (47 ∷ []) (drop at s), n)

-- past the end there is no step
pub step-past : (s : List ℕ) (at : ℕ) → length s < at → None ≡ step_found at (read_step (drop at s))
unfolding read_step read_axis starts_with read_word
step-past s at h = rw (drop_of_length-le s {i = at} (omega arith))

pub ruleset tests = (test-past, test-star, test-none, test-label)

pub ruleset steps = (deep_step, child-step, no_step-is, step-past)
