-- The last two passes: from the bytes with a set's heads and links, and zeros behind them, they make its automaton.
use Prim.Native.Nat.{ℕ}
use mathlib.Core.Path.{◌≡◌, ap, ◌∙◌}
use mathlib.Core.Bool.{true}
use mathlib.Core.List.{List, ◌++◌}
use lib.ListN.{replicate}
use Rattle.notation.specs.Sets.{FolderSet}
use Rattle.notation.specs.Form.{formed}
use Rattle.notation.proofs.Laws.Refused.Fitting.{Fitting}
use Rattle.stored.specs.Automaton.{all_labels, heads, links, masks, assembled, automaton_of, all_masks}
use Rattle.stored.specs.Code.Masks.{with_masks, with_start}
use Rattle.stored.proofs.Laws.Building.Masked.{masks-put}
use Rattle.stored.proofs.Laws.Building.Started.{start-written}
use Rattle.stored.proofs.Laws.Tables.Compiled.{automaton-sized}

pub masks-and-start : (s : FolderSet) (fit : Fitting s) → formed s ≡ true → (rest : List ℕ)
    → with_start (with_masks (assembled s (heads (all_labels s)) (links s) (replicate all_masks 0) 0 ++ rest)) ≡ automaton_of s ++ rest
unfolding automaton_of
masks-and-start s fit well rest =
    let z = automaton-sized s fit rest in
    ap with_start (masks-put s fit (heads (all_labels s)) (links s) 0 (λ ms e. record { heads = z.heads; links = z.links; masks = e }) rest)
    ∙ start-written s fit well (heads (all_labels s)) (links s) (masks s) 0 z rest
