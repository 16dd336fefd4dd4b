-- `hash::hash_of`: a turn is the definition's.
use Prim.Native.Nat.{ℕ, ◌+◌, ◌*◌, ◌%◌}
use mathlib.Core.Path.{◌≡◌, refl, ap, ◌∙◌}
use mathlib.Core.List.{List, [], ◌∷◌}
use native.Mathlib.Omega.{arith}
use borrow.Author.Rules.{rules}
use Rattle.std.specs.List.{fold}
use Rattle.stored.specs.Automaton.{hashes, hash_from}
use Rattle.stored.proofs.Laws.Tables.Chained.{hash-small}
use Rattle.machine.proofs.hash.hash_of.Goals as goal

abbrev one_more : ℕ → ℕ → ℕ
one_more h b = (h % hashes * 31 + b) % hashes

folded : (e : List ℕ) (h : ℕ) → fold one_more h e ≡ hash_from h e
unfolding hash_from hashes
folded [] h = refl
folded (b ∷ e) h = let s : one_more h b ≡ (31 * h + b) % hashes = omega arith in folded e (one_more h b) ∙ ap (λ k. hash_from k e) s

pub returns : goal.returns
unfolding hashes
returns c =
    let f : c.fold.result ≡ fold one_more 0 c.args.e.now = search rules in
    let e : c.fold.result ≡ hash_from 0 c.args.e.now = f ∙ folded c.args.e.now 0 in
    (e, rw e (hash-small c.args.e.now))
