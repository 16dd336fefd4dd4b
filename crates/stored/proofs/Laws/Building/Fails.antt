-- The pass that makes the failure links leaves those of the definition: the links are then the links of the set.
use Prim.Native.Nat.{ℕ, zero, suc, ◌+◌, ◌≤◌, ◌<◌}
use mathlib.Core.Path.{◌≡◌, refl, sym, ◌∙◌, ap, ap₂}
use mathlib.Core.Bool.{true, false}
use mathlib.Core.Logic.{◌⊎◌, inr}
use mathlib.Core.List.{List, [], ◌∷◌, ◌++◌, cons≢nil}
use native.Mathlib.Omega.{arith}
use lib.Dec.{eqb}
use lib.ListN.{length, get_or, set, length-set}
use lib.Seq.{sets, ext_get_or, get_or-set_same, get_or-set_other}
use borrow.Author.Tests.{eqb-true, eqb-false, ne_eqb}
use Rattle.text.specs.Names.{Name}
use Rattle.notation.specs.Limits.{max_steps}
use Rattle.notation.specs.Sets.{FolderSet}
use Rattle.text.specs.Bytes.{le16}
use Rattle.notation.specs.Reads.{label_count, label_name}
use Rattle.notation.proofs.Laws.Refused.Fitting.{Fitting}
use Rattle.model.specs.Words.{Symbol, name, Word}
use Rattle.model.specs.Prefix.{IsPrefix, failure}
use Rattle.model.specs.Walk.{followed_by}
use Rattle.stored.specs.Automaton.{all_labels, state_of, shortened, heads, Chain, marks, Group, Link, link, links, assembled, fail_in, all_masks, link_entry_at}
use Rattle.stored.specs.Tables.{parent_at, size_at, size_of}
use Rattle.stored.specs.Code.Fails.{fail_to, failed, failed_if, failed_below, failed_to}
use Rattle.text.proofs.Laws.Tests.{cases}
use Rattle.model.proofs.Laws.Keywords.Prefix.{failure-is}
use Rattle.model.proofs.Laws.Keywords.Walk.{failure-extends, failure-single}
use Rattle.stored.proofs.Laws.Tables.Assembled.{chain_in, group_in, with_failure, no_link, fail-put}
use Rattle.stored.proofs.Laws.Tables.States.{StateKind, of_empty, of_root, of_label, state-kind, state-empty, word-ends, label-parent, shortened-followed}
use Rattle.stored.proofs.Laws.Tables.Chained.{chain_at}
use Rattle.stored.proofs.Laws.Tables.Marked.{group_at}
use Rattle.stored.proofs.Laws.Tables.Links.{links-length, links-at}
use Rattle.stored.proofs.Laws.Tables.Goto.{Linked}
use Rattle.stored.proofs.Laws.Tables.Walked.{FailsTo, fail-word, walk-over}
use Rattle.stored.proofs.Laws.Building.Staged.{word_at, failure_at, Links, Short, word_size, stage, sized, staged, count-here, size-here, fail-here, size-state}

-- the walk from the parent's failure state arrives at the state of the failure
some-state : (s : FolderSet) (t : Symbol) (u : Word) → IsPrefix s (t ∷ u) → state_of s (t ∷ u) ≡ 0 → ⊥
some-state s t u p z = go (state-kind s (t ∷ u) p)
  where
    go : StateKind s (t ∷ u) → ⊥
    go (of_empty h i) = cons≢nil h
    go (of_root h i) = omega arith
    go (of_label x) = omega (arith, x.is)

fail-to-word : (s : FolderSet) (a : List ℕ) → Linked s a → (u : Word) (e : Name) (l : ℕ) → parent_at a l ≡ state_of s u → label_name a l ≡ e → IsPrefix s u
    → FailsTo s a (length u) → ((v : Word) → IsPrefix s v → size_of a (state_of s v) ≡ length v) → fail_to a l ≡ state_of s (failure s (followed_by u e))
unfolding fail_to
fail-to-word s a k [] e l p n i fails size =
    rw (p, state-empty s [] refl) (sym (ap (state_of s) (failure-single s (name e)) ∙ state-empty s [] refl))
fail-to-word s a k (t ∷ u) e l p n i fails size =
    let q : IsPrefix s (failure s (t ∷ u)) = (failure-is s t u).starts in
    let b : FailsTo s a (length (failure s (t ∷ u))) = λ j h d. fails j h (omega (arith, (failure-is s t u).proper)) in
    rw (p, n, ne_eqb (state_of s (t ∷ u)) 0 (some-state s t u i), fail-word s a (t ∷ u) i fails)
    (ap (λ w. w.state) (walk-over s a k e (failure s (t ∷ u)) q b (size (failure s (t ∷ u)) q)) ∙ ap (state_of s) (sym (failure-extends s t u e)))

-- the links with the failure links of the words of fewer than n symbols, and of those of n symbols below label l
record Stage (s : FolderSet) (n l : ℕ) (ls : List Link) : Type 0 where
  links : Links s ls
  lower : (k : ℕ) → k < length (all_labels s) → length (word_at s k) < n → (get_or ls k no_link).fail ≡ failure_at s k
  upto : (k : ℕ) → k < length (all_labels s) → k < l → length (word_at s k) ≡ n → (get_or ls k no_link).fail ≡ failure_at s k

module _ (s : FolderSet) (fit : Fitting s) (short : Short s) (ms : List ℕ) (f : ℕ) (masks : length ms ≡ all_masks) (rest : List ℕ) where
  at : List Link → List ℕ
  at ls = stage s fit short ms f masks rest ls

  module _ (ls : List Link) (k : Links s ls) (l : ℕ) (h : l < length (all_labels s)) (lower : (j : ℕ) → j < length (all_labels s) → length (word_at s j) < length (word_at s l) → (get_or ls j no_link).fail ≡ failure_at s j) where
    fails-below : FailsTo s (at ls) (length (shortened (word_at s l)))
    unfolding at
    fails-below j i b = fail-here s fit short ms f masks rest ls k j i ∙ lower j i (omega (arith, word_size s l h))

    fail-to-is : fail_to (at ls) l ≡ failure_at s l
    unfolding at
    fail-to-is =
        let x = word-ends s l h in
        let e = get_or (all_labels s) l [] in
        let u : shortened (word_at s l) ≡ x.0 = ap shortened x.1 ∙ shortened-followed x.0 e in
        let w : followed_by (shortened (word_at s l)) e ≡ word_at s l = ap (λ v. followed_by v e) u ∙ sym x.1 in
        let z = staged s fit short ms f masks rest ls k in
        fail-to-word s (at ls) z (shortened (word_at s l)) e l (z.parent l h) (z.chained.label l h) (label-parent s l h) fails-below (size-state s fit short ms f masks rest ls k)
        ∙ ap (λ v. state_of s (failure s v)) w

  -- one label more
  module _ (n l : ℕ) (h : l < length (all_labels s)) (ls : List Link) (t : Stage s n l ls) (size : length (word_at s l) ≡ n) where
    new : List Link
    new = set ls l (with_failure (failure_at s l) (get_or ls l no_link))

    inside : l < length ls
    inside = rw t.links.count h

    here : get_or new l no_link ≡ with_failure (failure_at s l) (get_or ls l no_link)
    unfolding new
    here = get_or-set_same ls l _ no_link inside

    there : (j : ℕ) → (j ≡ l → ⊥) → get_or new j no_link ≡ get_or ls j no_link
    unfolding new
    there j d = get_or-set_other ls l j _ no_link d

    by_place : (P : ℕ → Link → Type 0) → P l (with_failure (failure_at s l) (get_or ls l no_link)) → ((j : ℕ) → j < length (all_labels s) → P j (get_or ls j no_link)) → (j : ℕ) → j < length (all_labels s) → P j (get_or new j no_link)
    by_place P p q j i = cases (eqb j l)
        (λ y. let e : j ≡ l = eqb-true j l y in rw (e, here) p)
        (λ y. rw (there j (eqb-false j l y)) (q j i))

    new-links : Links s new
    unfolding new
    new-links = record {
      count = length-set ls l _ ∙ t.links.count;
      chain = by_place (λ j k. chain_in k ≡ chain_at (all_labels s) j) (t.links.chain l h) t.links.chain;
      group = by_place (λ j k. group_in k ≡ group_at (marks s) j) (t.links.group l h) t.links.group;
      parent = by_place (λ j k. k.parent ≡ state_of s (shortened (word_at s j))) (t.links.parent l h) t.links.parent;
      fail = by_place (λ j k. (k.fail ≡ 0) ⊎ (k.fail ≡ failure_at s j)) (inr refl) t.links.fail;
      size = by_place (λ j k. k.size ≡ length (word_at s j)) (t.links.size l h) t.links.size;
    }

    new-stage : Stage s n (suc l) new
    new-stage = record {
      links = new-links;
      lower = by_place (λ j k. length (word_at s j) < n → k.fail ≡ failure_at s j) (λ b. refl) t.lower;
      upto = λ j i b. cases (eqb j l)
          (λ y. let e : j ≡ l = eqb-true j l y in λ z. rw (e, here))
          (λ y. let d : j ≡ l → ⊥ = eqb-false j l y in λ z. rw (there j d) (t.upto j i (omega arith) z));
    }

    stored : failed l (at ls) ≡ at new
    unfolding at new
    stored =
        let v = fail-to-is ls t.links l h (λ j i b. t.lower j i (omega (arith, size))) in
        ap (λ (x : ℕ). sets (at ls) (link_entry_at l + fail_in) (le16 x)) v
        ∙ fail-put s fit (heads (all_labels s)) ls ms f (sized s fit short ms f masks rest ls t.links) rest l (failure_at s l) inside

  step : (n l : ℕ) → l < length (all_labels s) → (ls : List Link) → Stage s n l ls → (new : List Link) × (failed_if n l (at ls) ≡ at new) × Stage s n (suc l) new
  unfolding failed_if at
  step n l h ls t = cases (eqb (length (word_at s l)) n) yes no
    where
      size : size_at (at ls) l ≡ length (word_at s l)
      size = size-here s fit short ms f masks rest ls t.links l h

      yes : eqb (length (word_at s l)) n ≡ true → (new : List Link) × (failed_if n l (at ls) ≡ at new) × Stage s n (suc l) new
      yes y =
          let e : length (word_at s l) ≡ n = eqb-true (length (word_at s l)) n y in
          (new n l h ls t e, rw (size, y) (stored n l h ls t e), new-stage n l h ls t e)

      no : eqb (length (word_at s l)) n ≡ false → (new : List Link) × (failed_if n l (at ls) ≡ at new) × Stage s n (suc l) new
      no y = (
        ls,
        rw (size, y),
        record {
          links = t.links;
          lower = t.lower;
          upto = λ j i b z. cases (eqb j l)
              (λ x. let e : j ≡ l = eqb-true j l x in absurd (eqb-false (length (word_at s l)) n y (ap (λ k. length (word_at s k)) (sym e) ∙ z)))
              (λ x. let d : j ≡ l → ⊥ = eqb-false j l x in t.upto j i (omega arith) z);
        },
      )

  -- all labels of one length, and all lengths
  below : (n l : ℕ) → l ≤ length (all_labels s) → (ls : List Link) → Stage s n 0 ls → (new : List Link) × (failed_below n l (at ls) ≡ at new) × Stage s n l new
  unfolding failed_below
  below n zero h ls t = (ls, refl, t)
  below n (suc l) h ls t =
      let r = below n l (omega arith) ls t in
      let q = step n l h r.0 r.2 in
      (q.0, ap (failed_if n l) r.1 ∙ q.1, q.2)

  longer : (n : ℕ) (ls : List Link) → Stage s n (length (all_labels s)) ls → Stage s (suc n) 0 ls
  longer n ls t = record {
    links = t.links;
    lower = λ j i b. cases (eqb (length (word_at s j)) n)
        (λ x. t.upto j i i (eqb-true (length (word_at s j)) n x))
        (λ x. let d : length (word_at s j) ≡ n → ⊥ = eqb-false (length (word_at s j)) n x in t.lower j i (omega arith));
    upto = λ j i b. absurd (omega arith);
  }

  to : (n : ℕ) (ls : List Link) → Stage s 1 0 ls → (new : List Link) × (failed_to (length (all_labels s)) n (at ls) ≡ at new) × Stage s (suc n) 0 new
  unfolding failed_to
  to zero ls t = (ls, refl, t)
  to (suc n) ls t =
      let r = to n ls t in
      let q = below (suc n) (length (all_labels s)) (omega arith) r.0 r.2 in
      (q.0, ap (failed_below (suc n) (length (all_labels s))) r.1 ∙ q.1, longer (suc n) q.0 q.2)

  all_right : (ls : List Link) → Stage s (suc (suc max_steps)) 0 ls → ls ≡ links s
  all_right ls t = ext_get_or no_link ls (links s) (t.links.count ∙ sym (links-length s)) same
    where
      same : (l : ℕ) → l < length ls → get_or ls l no_link ≡ get_or (links s) l no_link
      same l i =
          let h : l < length (all_labels s) = rw t.links.count at i in
          let k = get_or ls l no_link in
          let whole : k ≡ link (chain_in k) (group_in k) k.parent k.fail k.size = refl in
          whole
          ∙ ap₂ (λ (c : Chain) (g : Group). link c g k.parent k.fail k.size) (t.links.chain l h) (t.links.group l h)
          ∙ (rw (t.links.parent l h, t.lower l h (omega (arith, short l h)), t.links.size l h) (sym (links-at s l h)))

  -- the pass on links that have all but the failure links
  pub fails-is : (ls : List Link) → Links s ls → failed_to (length (all_labels s)) (suc max_steps) (assembled s (heads (all_labels s)) ls ms f ++ rest) ≡ assembled s (heads (all_labels s)) (links s) ms f ++ rest
  unfolding at
  fails-is ls k =
      let start : Stage s 1 0 ls = record { links = k; lower = λ j i b. absurd (omega (arith, word_size s j i)); upto = λ j i b. absurd (omega arith) } in
      let r = to (suc max_steps) ls start in
      r.1 ∙ ap at (all_right r.0 r.2)

  -- the same, for the count of labels that the code goes by
  pub fails-made : (ls : List Link) → Links s ls → failed_to (label_count (assembled s (heads (all_labels s)) ls ms f ++ rest)) (suc max_steps) (assembled s (heads (all_labels s)) ls ms f ++ rest) ≡ assembled s (heads (all_labels s)) (links s) ms f ++ rest
  fails-made ls k = rw (count-here s fit short ms f masks rest ls k) (fails-is ls k)
