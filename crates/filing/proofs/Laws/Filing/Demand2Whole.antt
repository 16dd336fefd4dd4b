-- Filing by XPath 1.0, from the bytes of a set's text on.
use Rattle.std.specs.Prelude.{Result}
use Rattle.text.specs.declared.refusals.Refusal.{Refusal}
use mathlib.Core.Path.{◌≡◌, sym, ap₂, ◌∙◌, subst}
use mathlib.Core.List.{List, ◌++◌}
use lib.ListN.{length, take, drop, take-append-drop}
use Prim.Native.Nat.{ℕ, ◌≤◌}
use Rattle.notation.specs.Limits.{max_set_bytes}
use Rattle.notation.specs.Sets.{FolderSet}
use Rattle.text.specs.Answers.{value, says}
use Rattle.notation.specs.Accepted.{Accepted}
use Rattle.notation.specs.Judged.{accepts}
use Rattle.stored.specs.Automaton.{automaton_size}
use Rattle.stored.specs.Build.{Built, SetWritten}
use Rattle.stored.proofs.Laws.Building.WriteSet.{written-length, written-text, written-rest}
use Rattle.filing.specs.Demand2Whole.{Demand2Whole}
use Rattle.stored.proofs.Laws.Building.BuiltSet.{automaton-taken, built-automaton, built-means}
use Rattle.filing.proofs.Laws.Filing.FromBytes.{demand2-bytes}

module _ (text before a : List ℕ) (s : FolderSet) (acc : Accepted text s) (b : Built text before 0 a) where
  abbrev rest : List ℕ
  rest = drop automaton_size before

  written_back-is : (out : List ℕ) → max_set_bytes ≤ length out → (w : Result ℕ Refusal) (out' : List ℕ) → SetWritten a out w out'
      → (says w ≡ value (length text)) × (out' ≡ text ++ drop (length text) out)
  written_back-is out room w out' h =
      let k = subst (λ (x : List ℕ). SetWritten x out w out') (built-automaton text s acc before a b) h in (
        written-length text s acc rest out room w out' k,
        sym (take-append-drop (length text) out')
            ∙ ap₂ (λ (x y : List ℕ). x ++ y) (written-text text s acc rest out room w out' k) (written-rest text s acc rest out room w out' k),
      )

  built-again : (buffer : List ℕ) → automaton_size ≤ length buffer → (n : ℕ) (c : List ℕ) → Built text buffer n c
      → (n ≡ 0) × (take automaton_size c ≡ take automaton_size a)
  built-again buffer room n c h =
      let (z, e) = h.judged room (accepts s) acc in
      (z, rw (e, built-automaton text s acc before a b) (automaton-taken text s acc (drop automaton_size buffer) ∙ sym (automaton-taken text s acc rest)))

pub demand2-whole : Demand2Whole
demand2-whole = record {
  files = λ text before a s acc b report run long c answer run' c' f.
      demand2-bytes s a (built-means text s acc before a b) run long c report answer run' c' f;
  written_back = written_back-is;
  built_again = built-again;
}
