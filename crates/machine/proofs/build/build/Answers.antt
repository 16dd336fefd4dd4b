-- `build::build`: what is built in the front of a buffer is built in the buffer.
use Prim.Native.Nat.{ℕ, ◌≤◌}
use mathlib.Core.Path.{◌≡◌, refl, ap, ◌∙◌}
use mathlib.Core.List.{List, ◌++◌, append-nil}
use native.Mathlib.Omega.{arith}
use lib.ListN.{length, drop, length-take, drop_of_length-le}
use Rattle.std.specs.Array.{IsFirstChunk}
use Rattle.std.proofs.lemmas.List.{take-append-drop}
use Rattle.text.proofs.Laws.Numbers.{some_number}
use Rattle.text.proofs.Laws.Results.{handed_on}
use Rattle.notation.specs.Judged.{Verdict, refuses, accepts}
use Rattle.stored.specs.Automaton.{automaton_size, automaton_of}
use Rattle.stored.specs.Build.{Built, built_into}
use Rattle.stored.proofs.Laws.Building.Built.{built-short, built-refused, built-read, built-made}
use Rattle.machine.proofs.build.build.Goals as goal

module _ {before front : List ℕ} (f : IsFirstChunk before front automaton_size) where
  long : length front ≡ automaton_size
  long = rw f.same (simp length-take (omega (arith, f.enough)))

  room : automaton_size ≤ length front
  room = omega (arith, long)

  whole : (v : Verdict) (a : List ℕ) → a ≡ built_into v front → a ++ drop automaton_size before ≡ built_into v before
  whole (refuses q) a e = rw (e, f.same) (take-append-drop automaton_size before)
  whole (accepts s) a e =
      ap (λ x. x ++ drop automaton_size before) (e ∙ rw (drop_of_length-le front {i = automaton_size} (omega (arith, long))) (append-nil (automaton_of s)))

  in-front : {text a : List ℕ} {r : ℕ} → Built text front r a → Built text before r (a ++ drop automaton_size before)
  in-front b = record {
    short = λ k. absurd (omega (arith, f.enough));
    judged = λ _ v j. let (n, e) = b.judged room v j in (n, whole v _ e);
  }

pub returns-in_default : goal.returns-in_default
unfolding automaton_size
returns-in_default c = built-short _ _ c.in_default.ensures.cases

pub returns-in_err-read_set : goal.returns-in_err-read_set
unfolding automaton_size
returns-in_err-read_set c =
    let f = c.in-Some.ensures.cases in
    rw (handed_on c.from_residual.result _ c.from_residual.ensures.1) (in-front f (built-refused _ _ _ _ (room f) c.in_err-read_set.ensures (some_number _)))

pub make-requires : goal.make-requires
unfolding automaton_size
make-requires c = built-read _ _ _ _ (room c.in-Some.ensures.cases) c.in_ok-read_set.ensures refl c.read_set.auto.part

pub returns : goal.returns
unfolding automaton_size
returns c =
    let f = c.in-Some.ensures.cases in
    in-front f (built-made _ _ _ _ (room f) c.in_ok-read_set.ensures _ refl c.make.ensures)
