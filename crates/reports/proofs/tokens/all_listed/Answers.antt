-- `tokens::all_listed` meets its contract: a fold by `&` is the test of every byte.
use mathlib.Core.Path.{◌≡◌, sym, ◌∙◌}
use mathlib.Core.Bool.{Bool, true, ◌&&◌, and_assoc, and-true}
use mathlib.Core.List.{List, [], ◌∷◌}
use Prim.Native.Nat.{ℕ}
use Rattle.std.proofs.Common.{rules, tests}
use Rattle.std.specs.List.{fold}
use Rattle.std.proofs.lemmas.Iterator.{YieldsList-from_slice}
use Rattle.std.proofs.lemmas.Iterator.Consumers.{fold_from_yields_List}
use Rattle.text.specs.Lists.{every}
use Rattle.documents.specs.Tokens.{listed}
use Rattle.reports.proofs.tokens.all_listed.Goals as goal

fold-every : (all : Bool) (l : List ℕ) → fold (λ (a : Bool) (b : ℕ). a && listed b) all l ≡ (all && every listed l)
unfolding every
fold-every all [] = sym (and-true all)
fold-every all (b ∷ l) = fold-every (all && listed b) l ∙ and_assoc all (listed b) (every listed l)

pub returns : goal.returns
returns c =
    let folded : c.fold.result ≡ fold (λ (a : Bool) (b : ℕ). a && listed b) true c.args.s.now =
    fold_from_yields_List _ (λ (a : Bool) (b : ℕ). a && listed b) true c.fold.result c.fold.ensures.ran (YieldsList-from_slice c.args.s.now cc) (λ a x b q k. search (rules, tests)) in
    folded ∙ fold-every true c.args.s.now
