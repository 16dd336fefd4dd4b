use Prim.Native.Nat.{ℕ, ◌+◌, ◌-◌, ◌≤◌}
use mathlib.Core.Path.{◌≡◌, refl, sym, ap, ◌∙◌}
use mathlib.Core.List.{List, append_assoc}
use native.Mathlib.Omega.{arith}
use lib.ListN.{length, take, drop, replicate, length-replicate, length-take, length-drop}
use borrow.Author.Rules.{rules}
use borrow.Rule.Slice.PartMut.{put_mid}
use Rattle.std.proofs.lemmas.List.{take-replicate}
use Rattle.std.proofs.lemmas.Slice.{put_mid-paste}
use Rattle.notation.specs.Layout.{set_size}
use Rattle.stored.specs.Automaton.{automaton_size}
use Rattle.stored.specs.Code.Passes.{cleared}
use Rattle.machine.proofs.build.clear_tables.Goals as goal

-- zeros in a part that ends where the tables end; of variables, so that no row of zeros is written out
zeros : (m k : ℕ) (a part : List ℕ) → m ≡ set_size → k ≡ automaton_size - set_size → set_size ≤ automaton_size → automaton_size ≤ length a
    → part ≡ replicate (length (take k (drop m a))) 0 → put_mid m k a part ≡ cleared a
unfolding cleared
zeros m k a part e f h room p =
    let size : length (take k (drop m a)) ≡ k = simp (length-take, length-drop) (omega arith) in
    let to : m + k ≡ automaton_size = omega arith in
    put_mid-paste m k a part (replicate k 0) k (p ∙ ap (λ n. replicate n 0) size) refl (sym (length-replicate k 0))
    ∙ rw (to, take-replicate {X = ℕ} k k 0 (omega arith), append_assoc, e, f)

pub returns : goal.returns
unfolding set_size automaton_size
returns c =
    zeros set_size (automaton_size - set_size) c.args.part.now c.fill.new.self refl refl (omega arith) (omega (arith, c.told-part)) (c.fill.ensures.after (search rules))
