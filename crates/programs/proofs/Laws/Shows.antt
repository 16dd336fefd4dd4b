-- From what a program's one call answers and leaves to what its buffer shows.
use Prim.Native.Nat.{ℕ, ◌≤◌}
use native.Mathlib.Omega.{arith}
use mathlib.Core.Path.{◌≡◌, ap, ◌∙◌}
use mathlib.Core.Bool.{false}
use mathlib.Core.List.{List}
use lib.ListN.{length, take, drop, length-append}
use lib.Seq.{take-append_seam}
use borrow.Author.Tests.{le-ltb}
use Rattle.std.specs.Prelude.{Result, Ok, Err}
use Rattle.std.specs.Result.{result_unwrap_or}
use Rattle.stored.specs.Automaton.{automaton_size}
use Rattle.stored.specs.Run.{run_size}
use Rattle.text.specs.declared.refusals.Refusal.{Refusal}
use Rattle.text.specs.Answers.{value, says}
use Rattle.notation.specs.Sets.{FolderSet}
use Rattle.filing.specs.Shown.{ShownText, too_small, PrintsText, PrintsBy}
use Rattle.filing.proofs.Laws.Listing.Shown.{Total}
use Rattle.filing.proofs.Laws.Listing.Showing.{some-printed}
use Rattle.programs.specs.Shows.{Shows}

size-said : (answer : Result ℕ Refusal) (n : ℕ) → says answer ≡ value n → result_unwrap_or answer 0 ≡ n
size-said (Ok k) n e = cc
size-said (Err r) n e = cc

-- a text whose length is answered and that stands first is all of that length
in-front : {size : ℕ} {text before after : List ℕ} {answer : Result ℕ Refusal} → PrintsText size text before answer after
    → (result_unwrap_or answer 0 ≤ length after) × (take (result_unwrap_or answer 0) after ≡ text)
in-front {text = text} {before} {after} {answer} p =
    let within : length text ≤ length after = omega (arith, length-append text (drop (length text) before), ap length p.leaves) in
    rw (size-said answer (length text) p.answers) (within, ap (take (length text)) p.leaves ∙ take-append_seam text (drop (length text) before))

-- buffers of their sizes are not too small
enough : (size : ℕ) (a run out : List ℕ) → automaton_size ≤ length a → run_size ≤ length run → size ≤ length out → too_small size a run out ≡ false
unfolding too_small
enough size a run out h k l = rw (le-ltb (length a) automaton_size h, le-ltb (length run) run_size k, le-ltb (length out) size l)

-- what is shown is printed, whether or not it is known that something is
module _ (size : ℕ) (For : FolderSet → List ℕ → List ℕ → Type 0) (set report a run out : List ℕ) (answer : Result ℕ Refusal) (a' run' out' : List ℕ) where
  pub shown-text : automaton_size ≤ length a → run_size ≤ length run → size ≤ length out → PrintsBy size For set report a run out answer a' run' out'
      → (bytes : List ℕ) → ShownText For set report bytes → take (result_unwrap_or answer 0) out' ≡ bytes
  shown-text h k l p bytes t = (in-front (p.printed (enough size a run out h k l) bytes t)).1

module _ (size : ℕ) (For : FolderSet → List ℕ → List ℕ → Type 0) (total : Total For) (set report a run out : List ℕ) (answer : Result ℕ Refusal) (a' run' out' : List ℕ) where
  pub shows : automaton_size ≤ length a → run_size ≤ length run → size ≤ length out → PrintsBy size For set report a run out answer a' run' out'
      → Shows For set report (result_unwrap_or answer 0) out'
  shows h k l p =
      let (text, x) = some-printed size For set report a run out answer a' run' out' p (enough size a run out h k l) total in
      record { counts = (in-front x).0; shown = shown-text size For set report a run out answer a' run' out' h k l p }
