-- What a run needs of its automaton: the set's bytes, what the tables mean, its size and its shape. The automaton of every accepted set is so.
use Prim.Native.Nat.{ℕ, ◌≤◌, ◌<◌}
use mathlib.Core.Path.{◌≡◌}
use mathlib.Core.Bool.{true, false}
use mathlib.Core.List.{List, [], ◌++◌}
use native.Mathlib.Omega.{arith}
use lib.ListN.{length, get_or, length-append}
use Rattle.notation.specs.Sets.{FolderSet}
use Rattle.notation.specs.Form.{paths_of, numbers_fall}
use Rattle.notation.specs.Accepted.{Accepted}
use Rattle.notation.specs.Layout.{set_part}
use Rattle.notation.proofs.Laws.Refused.Fitting.{Fitting}
use Rattle.notation.proofs.Laws.Refused.AcceptedSet.{accepted-fits}
use Rattle.stored.specs.Automaton.{automaton_size, heads, all_labels, links, masks, start_state, automaton_of}
use Rattle.stored.specs.Shape.{automaton_shaped}
use Rattle.stored.specs.Compiled.{Compiled}
use Rattle.stored.proofs.Laws.Tables.Assembled.{assembled-length, after-set}
use Rattle.stored.proofs.Laws.Tables.Compiled.{automaton-sized, compiled}
use Rattle.stored.proofs.Laws.Shapes.BuiltShape.{built-shaped}
use Rattle.stored.proofs.Laws.Running.FullPaths.{full-paths}

pub record Means (s : FolderSet) (a : List ℕ) : Type 0 where
  pub fit : Fitting s
  -- no path is empty, and the folders' numbers rise
  pub over_capacity : (i : ℕ) → i < length (paths_of s) → 1 ≤ length (get_or (paths_of s) i [])
  pub rising : numbers_fall s ≡ false
  -- the set's bytes stand first
  pub more : List ℕ
  pub stored : a ≡ set_part s ++ more
  pub long : automaton_size ≤ length a
  pub shaped : automaton_shaped a ≡ true
  pub tables : Compiled s a

pub means : (text : List ℕ) (s : FolderSet) → Accepted text s → (rest : List ℕ) → Means s (automaton_of s ++ rest)
unfolding automaton_of
means text s acc rest =
    let fit = accepted-fits text s acc in
    let first = after-set s fit (heads (all_labels s)) (links s) (masks s) (start_state s) rest in
    record {
      fit = fit;
      over_capacity = full-paths s acc.well;
      rising = acc.rising;
      more = first.0;
      stored = first.1;
      long = omega (arith, length-append (automaton_of s) rest, assembled-length s fit (heads (all_labels s)) (links s) (masks s) (start_state s) (automaton-sized s fit rest));
      shaped = built-shaped s acc rest;
      tables = compiled text s acc rest;
    }
