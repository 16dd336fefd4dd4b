-- A build that answers 0 left the automaton of its set.
use Prim.Native.Nat.{ℕ}
use mathlib.Core.Path.{◌≡◌, sym, subst}
use mathlib.Core.List.{List, ◌++◌}
use lib.ListN.{take, drop}
use lib.Seq.{take_at}
use Rattle.notation.specs.Sets.{FolderSet}
use Rattle.notation.specs.Accepted.{Accepted}
use Rattle.notation.proofs.Laws.Refused.AcceptedSet.{accepted-fits}
use Rattle.stored.specs.Automaton.{automaton_size, all_labels, heads, links, masks, start_state, automaton_of}
use Rattle.stored.specs.Build.{Built}
use Rattle.stored.proofs.Laws.Building.Built.{built-is}
use Rattle.stored.proofs.Laws.Tables.Assembled.{assembled-length}
use Rattle.stored.proofs.Laws.Tables.Compiled.{automaton-sized}
use Rattle.stored.proofs.Laws.Running.Means.{Means, means}

module _ (text : List ℕ) (s : FolderSet) (acc : Accepted text s) where
  pub automaton-taken : (rest : List ℕ) → take automaton_size (automaton_of s ++ rest) ≡ automaton_of s
  unfolding automaton_of
  automaton-taken rest =
      let fit = accepted-fits text s acc in
      take_at (automaton_of s) rest automaton_size
      (assembled-length s fit (heads (all_labels s)) (links s) (masks s) (start_state s) (automaton-sized s fit rest))

  module _ (before a : List ℕ) (b : Built text before 0 a) where
    pub built-automaton : a ≡ automaton_of s ++ drop automaton_size before
    built-automaton = built-is text before a s acc b

    pub built-means : Means s a
    built-means = subst (Means s) (sym built-automaton) (means text s acc (drop automaton_size before))
