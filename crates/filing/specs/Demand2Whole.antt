-- Filing as it is by XPath 1.0, as one statement, from the bytes of a set's text on. Of each call the contract alone is used.
use Rattle.std.specs.Prelude.{Result}
use Rattle.text.specs.declared.refusals.Refusal.{Refusal}
use Rattle.std.specs.Prelude.{ℕ, ◌≤◌, ◌≡◌, List, ◌++◌, length, take, drop}
use Rattle.notation.specs.Limits.{max_set_bytes}
use Rattle.notation.specs.Sets.{FolderSet}
use Rattle.text.specs.Answers.{value, says}
use Rattle.notation.specs.Accepted.{Accepted}
use Rattle.stored.specs.Automaton.{automaton_size}
use Rattle.stored.specs.Run.{run_size}
use Rattle.stored.specs.Build.{Built, SetWritten}
use Rattle.stored.specs.declared.counters.Counters.{Counters}
use Rattle.filing.specs.ReportRefusals.{Files}
use Rattle.filing.specs.FiledReport.{Demand2Bytes}

pub record Demand2Whole : Type 0 where
  -- with the automaton that a build left, any run buffer of its size and any counters: filing is as Demand2Bytes says
  pub files : (text before a : List ℕ) (s : FolderSet) → Accepted text s → Built text before 0 a
      → (report run : List ℕ) → run_size ≤ length run → (c : Counters) (answer : ℕ) (run' : List ℕ) (c' : Counters)
      → Files a run c report answer run' c' → Demand2Bytes s a report run answer run' c'
  -- an accepted set is written back to the same bytes, and building those gives the same automaton
  pub written_back : (text before a : List ℕ) (s : FolderSet) → Accepted text s → Built text before 0 a
      → (out : List ℕ) → max_set_bytes ≤ length out → (w : Result ℕ Refusal) (out' : List ℕ) → SetWritten a out w out'
      → (says w ≡ value (length text)) × (out' ≡ text ++ drop (length text) out)
  pub built_again : (text before a : List ℕ) (s : FolderSet) → Accepted text s → Built text before 0 a
      → (buffer : List ℕ) → automaton_size ≤ length buffer → (n : ℕ) (b : List ℕ) → Built text buffer n b
      → (n ≡ 0) × (take automaton_size b ≡ take automaton_size a)
