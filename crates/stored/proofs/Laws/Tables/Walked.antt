-- The walk over the stored tables is the machine's walk. The failure links need to be there only for words no longer than the first.
use Prim.Native.Nat.{ℕ, zero, suc, ◌≤◌, ◌<◌}
use mathlib.Core.Path.{◌≡◌, refl, sym, ◌∙◌, ap}
use mathlib.Core.Bool.{Bool, true, false, not, ◌&&◌, cond}
use mathlib.Core.List.{List, [], ◌∷◌, cons≢nil}
use native.Mathlib.Numerals.{add-one}
use native.Mathlib.Omega.{arith}
use borrow.Author.Tests.{ne_eqb}
use lib.Dec.{eqb}
use lib.ListN.{length, get_or}
use Rattle.text.specs.Names.{Name}
use Rattle.notation.specs.Sets.{FolderSet}
use Rattle.model.specs.Words.{Word, begins}
use Rattle.model.specs.Prefix.{IsPrefix, longest_end, failure}
use Rattle.model.specs.Walk.{followed_by, Walked, walked, counted, stuck, arrive, walk_in, walk}
use Rattle.stored.specs.Automaton.{all_labels, all_words, state_among, state_of}
use Rattle.stored.specs.Tables.{fail_at, size_of, fail_of, first_of, goto, one_more, walk_from, walk_by, walk_over}
use Rattle.stored.specs.Compiled.{stored_walk}
use Rattle.stored.specs.declared.walk.Walk.{Walk}
use Rattle.text.proofs.Laws.Tests.{cases}
use Rattle.model.proofs.Laws.Keywords.Words.{begins-is}
use Rattle.model.proofs.Laws.Keywords.Prefix.{failure-is, failure-shorter}
use Rattle.model.proofs.Laws.Keywords.Labels.{begins-label}
use Rattle.stored.proofs.Laws.Tables.States.{label-state, StateKind, of_empty, of_root, of_label, state-kind, state-empty, state-none}
use Rattle.stored.proofs.Laws.Tables.Goto.{Linked, goto-is}

-- the failure link of label l is stored
abbrev pub FailAt : FolderSet → List ℕ → ℕ → Type 0
FailAt s a l = fail_at a l ≡ state_of s (failure s (get_or (all_words s) l []))

-- and of all labels whose words have at most n symbols
abbrev pub FailsTo : FolderSet → List ℕ → ℕ → Type 0
FailsTo s a n = (l : ℕ) → l < length (all_labels s) → length (get_or (all_words s) l []) ≤ n → FailAt s a l

stored_more : (s : FolderSet) (x : Walked) → one_more (stored_walk s x) ≡ stored_walk s (counted x)
stored_more s (walked m v) = ap (λ (k : ℕ). record { moves = k; state = state_of s v }) (add-one m)

-- the failure move from the state of a word
pub fail-word : (s : FolderSet) (a : List ℕ) (w : Word) → IsPrefix s w → FailsTo s a (length w) → fail_of a (state_of s w) ≡ state_of s (failure s w)
unfolding fail_of failure longest_end state_among
fail-word s a w p fails = go (state-kind s w p)
  where
    go : StateKind s w → fail_of a (state_of s w) ≡ state_of s (failure s w)
    go (of_empty e i) = rw e
    go (of_root e i) = rw e
    go (of_label x) = rw x.is (fails x.index x.below (omega (arith, ap length x.word)) ∙ ap (λ (u : Word). state_of s (failure s u)) x.word)

module _ (s : FolderSet) (a : List ℕ) (k : Linked s a) (e : Name) where
  -- where no failure move is made
  arrives : (w : Word) → IsPrefix s w → ◌≡◌ {A = Walk} (record { moves = 0; state = goto a (state_of s w) e }) (stored_walk s (arrive s w e))
  arrives w p = ap (λ (q : ℕ). record { moves = 0; state = q }) (goto-is s a k w p e ∙ cases (begins s (followed_by w e)) some none)
    where
      some : begins s (followed_by w e) ≡ true → state_of s (followed_by w e) ≡ state_of s (cond (begins s (followed_by w e)) (followed_by w e) [])
      some h = rw h

      none : begins s (followed_by w e) ≡ false → state_of s (followed_by w e) ≡ state_of s (cond (begins s (followed_by w e)) (followed_by w e) [])
      none h = rw h (state-none s w e h ∙ sym (state-empty s [] refl))

  -- a failure move is made on both sides or on neither
  stuck-same : (w : Word) → IsPrefix s w → (eqb (goto a (state_of s w) e) 0 && not (eqb (state_of s w) 0)) ≡ stuck s w e
  stuck-same [] p = empty (eqb (goto a (state_of s []) e) 0)
    where
      empty : (b : Bool) → (b && not (eqb (state_of s []) 0)) ≡ false
      empty true = rw (state-empty s [] refl)
      empty false = refl
  stuck-same (t ∷ w) p =
      rw (goto-is s a k (t ∷ w) p e, ne_eqb (state_of s (t ∷ w)) 0 (λ z. some z (state-kind s (t ∷ w) p)))
      (cases (begins s (followed_by (t ∷ w) e)) yes' no')
    where
      some : state_of s (t ∷ w) ≡ 0 → StateKind s (t ∷ w) → ⊥
      some z (of_empty h i) = cons≢nil h
      some z (of_root h i) = omega arith
      some z (of_label x) = omega (arith, x.is)

      yes' : begins s (followed_by (t ∷ w) e) ≡ true → (eqb (state_of s (followed_by (t ∷ w) e)) 0 && true) ≡ not (begins s (followed_by (t ∷ w) e))
      yes' h =
          let x = label-state s (followed_by (t ∷ w) e) ((begins-label s (t ∷ w) e).0 (begins-is s (followed_by (t ∷ w) e) h)) in
          rw (h, ne_eqb (state_of s (followed_by (t ∷ w) e)) 0 (λ z. omega (arith, x.is)))

      no' : begins s (followed_by (t ∷ w) e) ≡ false → (eqb (state_of s (followed_by (t ∷ w) e)) 0 && true) ≡ not (begins s (followed_by (t ∷ w) e))
      no' h = rw (h, state-none s (t ∷ w) e h)

  -- so the walks agree, whatever bounds them
  pub walk-from : (n : ℕ) (w : Word) → IsPrefix s w → FailsTo s a (length w) → walk_from n a (state_of s w) (first_of a e) ≡ stored_walk s (walk_in n s w e)
  unfolding walk_from walk_in
  walk-from zero w p fails = arrives w p
  walk-from (suc n) [] p fails = rw (stuck-same [] p) (arrives [] p)
  walk-from (suc n) (t ∷ w) p fails =
      rw (stuck-same (t ∷ w) p, fail-word s a (t ∷ w) p fails)
      (cases (stuck s (t ∷ w) e) (falls (walk-from n (failure s (t ∷ w)) (failure-is s t w).starts (λ l h b. fails l h (omega (arith, failure-shorter s t w))))) stays)
    where
      falls : walk_from n a (state_of s (failure s (t ∷ w))) (first_of a e) ≡ stored_walk s (walk_in n s (failure s (t ∷ w)) e) → stuck s (t ∷ w) e ≡ true
          → cond (stuck s (t ∷ w) e) (one_more (walk_from n a (state_of s (failure s (t ∷ w))) (first_of a e))) (record { moves = 0; state = goto a (state_of s (t ∷ w)) e })
          ≡ stored_walk s (cond (stuck s (t ∷ w) e) (counted (walk_in n s (failure s (t ∷ w)) e)) (arrive s (t ∷ w) e))
      falls ih h = rw (h, ih) (stored_more s (walk_in n s (failure s (t ∷ w)) e))

      stays : stuck s (t ∷ w) e ≡ false
          → cond (stuck s (t ∷ w) e) (one_more (walk_from n a (state_of s (failure s (t ∷ w))) (first_of a e))) (record { moves = 0; state = goto a (state_of s (t ∷ w)) e })
          ≡ stored_walk s (cond (stuck s (t ∷ w) e) (counted (walk_in n s (failure s (t ∷ w)) e)) (arrive s (t ∷ w) e))
      stays h = rw h (arrives (t ∷ w) p)

  pub walk-over : (w : Word) → IsPrefix s w → FailsTo s a (length w) → size_of a (state_of s w) ≡ length w → walk_over a (state_of s w) e ≡ stored_walk s (walk s w e)
  unfolding walk_by walk
  walk-over w p fails size = rw size (walk-from (length w) w p fails)
