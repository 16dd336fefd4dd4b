-- `goto` over the stored tables: from the first label of a name, along those of that name, it finds the state of the word with one symbol
-- more. The tables are any that hold the labels of the set by name; parents need to be there only as far as goto looks.
use Prim.Native.Nat.{ℕ, zero, suc, ◌+◌, ◌≤◌, ◌<◌}
use mathlib.Core.Path.{◌≡◌, sym, ◌∙◌, ap, ap₂}
use mathlib.Core.Bool.{true, false}
use mathlib.Core.Logic.{◌⊎◌, inl, inr}
use mathlib.Core.List.{List, []}
use native.Mathlib.Omega.{arith}
use borrow.Author.Tests.{eqb-true, eqb-false, eq-eqb}
use lib.Dec.{eqb}
use lib.ListN.{length, get_or, drop, drop_of_length-le}
use lib.Seq.{drop-cons}
use Rattle.text.specs.Names.{Name}
use Rattle.notation.specs.Limits.{max_labels}
use Rattle.notation.specs.Sets.{FolderSet}
use Rattle.model.specs.Words.{Word}
use Rattle.model.specs.Prefix.{IsPrefix}
use Rattle.model.specs.Walk.{followed_by}
use Rattle.stored.specs.Automaton.{find, all_labels, all_words, same_word, state_of, shortened, named}
use Rattle.stored.specs.Tables.{next_at, parent_at, goto_from, goto_by, goto}
use Rattle.text.proofs.Laws.Tests.{cases, clash, same_test}
use Rattle.model.proofs.Laws.Keywords.Words.{same-name, name-same}
use Rattle.stored.proofs.Laws.Bytes.Finding.{find-here, find-later, find-empty}
pub use Rattle.stored.proofs.Laws.Tables.Chained.{Chained, no_chain, chain_at, chain-at, chains-length, hash-small}
use Rattle.stored.proofs.Laws.Tables.LookedUp.{first-of}
use Rattle.stored.proofs.Laws.Tables.States.{same_word-is, word_same, shortened-followed, followed-last, words_count, word-ends, label-parent, state-followed, state-one}
use Rattle.stored.proofs.Laws.Tables.Fuel.{goto-end}

-- the parent of label l is stored
abbrev pub ParentAt : FolderSet → List ℕ → ℕ → Type 0
ParentAt s a l = parent_at a l ≡ state_of s (shortened (get_or (all_words s) l []))

-- and all parents
pub record Linked (s : FolderSet) (a : List ℕ) : Type 0 where
  pub chained : Chained s a
  pub parent : (l : ℕ) → l < length (all_labels s) → ParentAt s a l

goto-hit : (more : ℕ) (a : List ℕ) (q l : ℕ) → eqb (parent_at a l) q ≡ true → goto_from (suc more) a q (suc l) ≡ suc (suc l)
unfolding goto_from
goto-hit more a q l h = rw h

goto-on : (more : ℕ) (a : List ℕ) (q l : ℕ) → eqb (parent_at a l) q ≡ false → goto_from (suc more) a q (suc l) ≡ goto_from more a q (next_at a l)
unfolding goto_from
goto-on more a q l h = rw h

-- the parent is stored at each label, unless a label before it has the word already
abbrev pub Enough : FolderSet → List ℕ → Word → ℕ → Type 0
Enough s a u l = ParentAt s a l ⊎ ((m : ℕ) × (m < l) × (get_or (all_words s) m [] ≡ u))

-- no label before j has the word
abbrev Fresh : FolderSet → Word → ℕ → Type 0
Fresh s u j = (m : ℕ) → m < j → same_word u (get_or (all_words s) m []) ≡ false

module _ (s : FolderSet) (a : List ℕ) (c : Chained s a) (w : Word) (prefix : IsPrefix s w) (e : Name) where
  -- of a label with name e: its parent is w's state exactly if its word is w followed by e
  parent-word : (l : ℕ) → l < length (all_labels s) → get_or (all_labels s) l [] ≡ e → ParentAt s a l → eqb (parent_at a l) (state_of s w) ≡ same_word (followed_by w e) (get_or (all_words s) l [])
  parent-word l h n p = same_test (eqb (parent_at a l) (state_of s w)) (same_word (followed_by w e) (get_or (all_words s) l [])) there back
    where
      there : eqb (parent_at a l) (state_of s w) ≡ true → same_word (followed_by w e) (get_or (all_words s) l []) ≡ true
      there t =
          let x = word-ends s l h in
          let v : shortened (get_or (all_words s) l []) ≡ w = state-one s (shortened (get_or (all_words s) l [])) w (label-parent s l h) prefix (sym p ∙ eqb-true (parent_at a l) (state_of s w) t) in
          let v' : x.0 ≡ w = sym (shortened-followed x.0 (get_or (all_labels s) l [])) ∙ ap shortened (sym x.1) ∙ v in
          let whole : get_or (all_words s) l [] ≡ followed_by w e = x.1 ∙ ap₂ followed_by v' n in
          rw whole (word_same (followed_by w e))

      back : same_word (followed_by w e) (get_or (all_words s) l []) ≡ true → eqb (parent_at a l) (state_of s w) ≡ true
      back t =
          let u : followed_by w e ≡ get_or (all_words s) l [] = same_word-is (followed_by w e) (get_or (all_words s) l []) t in
          let v : w ≡ shortened (get_or (all_words s) l []) = sym (shortened-followed w e) ∙ ap shortened u in
          eq-eqb (parent_at a l) (state_of s w) (p ∙ ap (state_of s) (sym v))

  -- a label of another name does not have the word
  other_name : (l : ℕ) → l < length (all_labels s) → named e (get_or (all_labels s) l []) ≡ false → same_word (followed_by w e) (get_or (all_words s) l []) ≡ false
  other_name l h k = cases (same_word (followed_by w e) (get_or (all_words s) l [])) same (λ t. t)
    where
      same : same_word (followed_by w e) (get_or (all_words s) l []) ≡ true → same_word (followed_by w e) (get_or (all_words s) l []) ≡ false
      same t =
          let x = word-ends s l h in
          let n : e ≡ get_or (all_labels s) l [] = followed-last w x.0 e (get_or (all_labels s) l []) (same_word-is (followed_by w e) (get_or (all_words s) l []) t ∙ x.1) in
          clash (rw (← n) (name-same e)) k

  module _ (enough : (l : ℕ) → l < length (all_labels s) → Enough s a (followed_by w e) l) where
    along : (left j more : ℕ) → j + left ≡ length (all_labels s) → left ≤ more
        → Fresh s (followed_by w e) j
        → goto_from more a (state_of s w) (find (named e) (suc j) (drop j (all_labels s))) ≡ find (same_word (followed_by w e)) (suc (suc j)) (drop j (all_words s))
    along zero j more size room fresh =
        rw (
          drop_of_length-le (all_labels s) {i = j} (omega arith),
          drop_of_length-le (all_words s) {i = j} (omega (arith, words_count s)),
          find-empty (named e) (suc j),
          find-empty (same_word (followed_by w e)) (suc (suc j)),
        )
        (goto-end more a (state_of s w))
    along (suc left) j zero size room fresh = absurd (omega arith)
    along (suc left) j (suc more) size room fresh =
        let h : j < length (all_labels s) = omega arith in
        let h' : j < length (all_words s) = omega (arith, words_count s) in
        let n = get_or (all_labels s) j [] in
        let v = get_or (all_words s) j [] in
        let later = drop (suc j) (all_labels s) in
        let words = drop (suc j) (all_words s) in
        rw (drop-cons (all_labels s) j [] h, drop-cons (all_words s) j [] h')
        (cases (named e n)
        (λ k. let i : n ≡ e = same-name n e k in
        rw (find-here (named e) (suc j) n later k)
        (cases (same_word (followed_by w e) v)
        (λ t. rw (goto-hit more a (state_of s w) j (follow h i ∙ t), find-here (same_word (followed_by w e)) (suc (suc j)) v words t))
        (λ t. let next : next_at a j ≡ find (named e) (suc (suc j)) later = c.next j h ∙ rw i in
        rw (goto-on more a (state_of s w) j (follow h i ∙ t), next, find-later (same_word (followed_by w e)) (suc (suc j)) v words t)
        (along left (suc j) more (omega arith) (omega arith) (grown t)))))
        (λ k. let t : same_word (followed_by w e) v ≡ false = other_name j h k in
        rw (find-later (named e) (suc j) n later k, find-later (same_word (followed_by w e)) (suc (suc j)) v words t)
        (along left (suc j) (suc more) (omega arith) (omega arith) (grown t))))
      where
        grown : same_word (followed_by w e) (get_or (all_words s) j []) ≡ false → Fresh s (followed_by w e) (suc j)
        grown t m k = cases (eqb m j) (λ i. rw (eqb-true m j i) t) (λ i. let ne : m ≡ j → ⊥ = eqb-false m j i in fresh m (omega arith))

        follow : (h : j < length (all_labels s)) → get_or (all_labels s) j [] ≡ e → eqb (parent_at a j) (state_of s w) ≡ same_word (followed_by w e) (get_or (all_words s) j [])
        follow h i = known (enough j h)
          where
            known : Enough s a (followed_by w e) j → eqb (parent_at a j) (state_of s w) ≡ same_word (followed_by w e) (get_or (all_words s) j [])
            known (inl p) = parent-word j h i p
            known (inr x) = clash (rw x.2 (word_same (followed_by w e))) (fresh x.0 x.1)

    -- goto finds the state of the word followed by e
    pub goto-word : goto a (state_of s w) e ≡ state_of s (followed_by w e)
    unfolding goto_by
    goto-word =
        rw (first-of s a c e, state-followed (all_words s) w e)
        (along (length (all_labels s)) 0 max_labels (omega arith) c.few (λ m h. absurd (omega arith)))

-- where all parents are stored
pub goto-is : (s : FolderSet) (a : List ℕ) → Linked s a → (w : Word) → IsPrefix s w → (e : Name) → goto a (state_of s w) e ≡ state_of s (followed_by w e)
goto-is s a k w p e = goto-word s a k.chained w p e (λ l h. inl (k.parent l h))
