-- The pass that takes labels of one name together leaves the groups of the definition.
use Prim.Native.Nat.{ℕ, zero, suc, ◌+◌, ◌*◌, ◌/◌, ◌%◌, ◌≤◌, ◌<◌}
use native.Mathlib.Nat.{le_refl}
use native.Mathlib.Omega.{arith}
use mathlib.Core.Path.{◌≡◌, refl, sym, ap, ap₂, ◌∙◌}
use mathlib.Core.List.Memᴰ
use mathlib.Core.List.{List, [], ◌∷◌, ◌++◌, Memᴰ}
use borrow.Author.Tests.{eqb-true, eqb-false, ltb-true, ltb-false}
use lib.Dec.{eqb, ltb}
use lib.ListN.{length, get_or, set, drop, length-append, length-drop, length-set, get_or-map}
use lib.Seq.{drop-drop, get_or-drop, get_or-append_seam, drop-append-add, get_or-set_same, get_or-set_other, ext_get_or}
use Rattle.text.specs.Names.{Name}
use Rattle.notation.specs.Limits.{max_paths, max_steps, max_labels}
use Rattle.notation.specs.Sets.{FolderSet}
use Rattle.notation.specs.Reads.{label_step}
use Rattle.notation.proofs.Laws.Refused.Fitting.{Fitting}
use Rattle.stored.specs.Automaton.{hashes, find, all_steps, all_labels, named, heads, Chain, chains, Mark, marks, Group, group_of, groups, Link, link, assembled, all_masks, takes}
use Rattle.stored.specs.Bits.{with_bit}
use Rattle.stored.specs.Tables.{next_at, far_at, bits_at}
use Rattle.stored.specs.Code.Groups.{joins, far_over, bits_over, group_stored, grouped, grouped_below}
use Rattle.text.proofs.Laws.Tests.{cases}
use Rattle.model.proofs.Laws.Keywords.Words.{same-name}
use Rattle.stored.proofs.Laws.Bytes.Bits.{packed-small}
use Rattle.stored.proofs.Laws.Bytes.Finding.{find-range}
use Rattle.stored.proofs.Laws.Bytes.Tabulate.{tabulate-length}
use Rattle.stored.proofs.Laws.Tables.Chained.{no_chain, chain_at, chain-at, chains-length}
use Rattle.stored.proofs.Laws.Tables.Assembled.{with_group, no_group, no_link, Sized, next-read, far-read, bits-read, group-put}
use Rattle.stored.proofs.Laws.Tables.Links.{marks-count, as-groups}
use Rattle.stored.proofs.Laws.Tables.Marked.{no_mark, names, group_at, groups-at, marks-rise, rising-next, marks-names, label-mark}
use Rattle.stored.proofs.Laws.Tables.Searched.{Behind, behind-within, next-behind}
use Rattle.stored.proofs.Laws.Tables.SetReads.{label-owner}
use Rattle.stored.proofs.Laws.Building.Chains.{chain_links, chain-count, chain_link}
use Rattle.stored.proofs.Laws.Building.GroupSteps.{NextNamed, none, next, next-named, last-far, last-bits, joined-far, joined-bits, parted-far, parted-bits}

-- the next label of a name among labels with their steps
find-marks : (e : Name) (j : ℕ) (ms : List Mark) → find (named e) j (names ms) ≡ find (λ (m : Mark). named e m.name) j ms
unfolding find
find-marks e j [] = refl
find-marks e j (m ∷ ms) = rw (find-marks e (suc j) ms)

names-drop : (k : ℕ) (ms : List Mark) → drop k (names ms) ≡ names (drop k ms)
names-drop zero ms = refl
names-drop (suc k) [] = refl
names-drop (suc k) (m ∷ ms) = names-drop k ms

-- a set's groups are small
module _ (s : FolderSet) (fit : Fitting s) (l : ℕ) (h : l < length (all_labels s)) where
  pub far-behind : Behind (all_labels s) l (group_at (marks s) l).far
  far-behind =
      let e : length (drop (suc l) (marks s)) ≡ length (drop (suc l) (all_labels s)) = length-drop (suc l) (marks s) ∙ rw (marks-count s) (sym (length-drop (suc l) (all_labels s))) in
      rw (← e) (find-range _ (suc (suc l)) (drop (suc l) (marks s)))

  pub bits_small : (get_or (marks s) l no_mark).step < length (all_steps s) → (group_at (marks s) l).bits < 65536
  unfolding max_paths max_steps
  bits_small k =
      let m = get_or (marks s) l no_mark in
      omega (arith, fit.steps, packed-small (λ j. takes m.name (m ∷ drop (suc l) (marks s)) (8 * (m.step / 8) + j)))

abbrev bare : FolderSet → ℕ → Group → Link
bare s l g = link (chain_at (all_labels s) l) g 0 0 0

-- links of which only the labels from k on have their group
record GroupsFrom (s : FolderSet) (k : ℕ) (ls : List Link) : Type 0 where
  count : length ls ≡ length (all_labels s)
  blank : (l : ℕ) → l < k → l < length (all_labels s) → get_or ls l no_link ≡ bare s l no_group
  made : (l : ℕ) → k ≤ l → l < length (all_labels s) → get_or ls l no_link ≡ bare s l (group_at (marks s) l)

module _ (s : FolderSet) (fit : Fitting s) (mk : List ℕ) (f : ℕ) (rest : List ℕ) (masks : length mk ≡ all_masks) where
  stage : List Link → List ℕ
  stage ls = assembled s (heads (all_labels s)) ls mk f ++ rest

  small : (v : ℕ) → v ≤ length (all_labels s) → v < 65536
  unfolding max_labels
  small v h = omega (arith, fit.labels)

  module _ (k : ℕ) (ls : List Link) (c : GroupsFrom s k ls) where
    sized : Sized (heads (all_labels s)) ls mk
    sized = record { heads = tabulate-length _ hashes; links = omega (arith, c.count, fit.labels); masks = masks }

    next_here : (l : ℕ) → l < length (all_labels s) → next_at (stage ls) l ≡ (chain_at (all_labels s) l).next
    unfolding stage
    next_here l h =
        let e : (get_or ls l no_link).next ≡ (chain_at (all_labels s) l).next = cases (ltb l k)
        (λ t. ap (λ (x : Link). x.next) (c.blank l (ltb-true l k t) h)) (λ t. ap (λ (x : Link). x.next) (c.made l (ltb-false l k t) h)) in
        next-read s fit (heads (all_labels s)) ls mk f sized rest l (rw c.count h) (rw e (small _ (behind-within (all_labels s) l _ h (next-behind (all_labels s) l)))) ∙ e

    step-here : (l : ℕ) → l < length (all_labels s) → label_step (stage ls) l ≡ (get_or (marks s) l no_mark).step
    unfolding stage
    step-here l h = sym (ap (λ (m : Mark). m.step) (label-mark s l _ (label-owner s fit (heads (all_labels s)) ls mk f rest l h)))

    step_small : (l : ℕ) → l < length (all_labels s) → (get_or (marks s) l no_mark).step < length (all_steps s)
    unfolding stage
    step_small l h = rw (step-here l h) at (label-owner s fit (heads (all_labels s)) ls mk f rest l h).below

    far-here : (l : ℕ) → k ≤ l → l < length (all_labels s) → far_at (stage ls) l ≡ (group_at (marks s) l).far
    unfolding stage
    far-here l b h =
        let e : (get_or ls l no_link).far ≡ (group_at (marks s) l).far = ap (λ (x : Link). x.far) (c.made l b h) in
        far-read s fit (heads (all_labels s)) ls mk f sized rest l (rw c.count h) (rw e (small _ (behind-within (all_labels s) l _ h (far-behind s fit l h)))) ∙ e

    bits-here : (l : ℕ) → k ≤ l → l < length (all_labels s) → bits_at (stage ls) l ≡ (group_at (marks s) l).bits
    unfolding stage
    bits-here l b h =
        let e : (get_or ls l no_link).bits ≡ (group_at (marks s) l).bits = ap (λ (x : Link). x.bits) (c.made l b h) in
        bits-read s fit (heads (all_labels s)) ls mk f sized rest l (rw c.count h) (rw e (bits_small s fit l h (step_small l h))) ∙ e

  -- one label
  module _ (l : ℕ) (h : l < length (all_labels s)) (ls : List Link) (c : GroupsFrom s (suc l) ls) where
    m : Mark
    m = get_or (marks s) l no_mark

    later : List Mark
    later = drop (suc l) (marks s)

    -- what is stored, by the place of the next label of the name, is the label's group
    abbrev Right : ℕ → Type 0
    Right p = let on = joins (stage ls) (m.step / 8) p in
        (far_over on (stage ls) p ≡ (group_of l m later).far) × (with_bit (bits_over on (stage ls) p) (m.step % 8) + 256 * (m.step / 8) ≡ (group_of l m later).bits)

    -- one that stands r labels behind it
    module _ (before : List Mark) (y : Mark) (after : List Mark) (split : later ≡ before ++ (y ∷ after)) where
      abbrev r : ℕ
      r = suc l + length before

      mark-there : get_or (marks s) r no_mark ≡ y
      unfolding later
      mark-there = sym (get_or-drop (suc l) (marks s) (length before) no_mark) ∙ ap (λ (x : List Mark). get_or x (length before) no_mark) split ∙ get_or-append_seam before y after no_mark

      rest-there : drop (suc r) (marks s) ≡ after
      unfolding later
      rest-there =
          let z : suc r ≡ suc l + (length before + 1) = omega arith in
          ap (λ (j : ℕ). drop j (marks s)) z ∙ sym (drop-drop (length before + 1) (suc l) (marks s)) ∙ ap (drop (length before + 1)) split ∙ drop-append-add before (y ∷ after) 1

      there : r < length (all_labels s)
      unfolding later
      there = omega (arith, marks-count s, ap length split, length-drop (suc l) (marks s), length-append before (y ∷ after))

      group-there : group_at (marks s) r ≡ group_of r y after
      group-there = ap₂ (group_of r) mark-there rest-there

      rises : (x : Mark) → Memᴰ x after → y.step < x.step
      rises x i = rw (mark-there, rest-there) at (rising-next (marks s) r (marks-rise 0 (all_steps s)) (rw (marks-count s) there)) x i

      above : m.step < y.step
      unfolding m later
      above = rising-next (marks s) l (marks-rise 0 (all_steps s)) (rw (marks-count s) h) y (rw split (Memᴰ.append_right before (Memᴰ.head refl)))

      step-there : label_step (stage ls) r ≡ y.step
      step-there = step-here (suc l) ls c r there ∙ ap (λ (x : Mark). x.step) mark-there

      far-there : far_at (stage ls) r ≡ (group_of r y after).far
      far-there = far-here (suc l) ls c r (omega arith) there ∙ ap (λ (g : Group). g.far) group-there

      bits-there : bits_at (stage ls) r ≡ (group_of r y after).bits
      bits-there = bits-here (suc l) ls c r (omega arith) there ∙ ap (λ (g : Group). g.bits) group-there

    right : (p : ℕ) → NextNamed m.name (suc (suc l)) later p → Right p
    right p (none z f) = rw (z, last-far l m later f, last-bits l m later f) (refl, refl)
    right p (next before y after split others t z) =
        let j = suc l + length before in
        let e : p ≡ suc j = omega arith in
        let same : y.name ≡ m.name = same-name y.name m.name t in
        let up : m.step < y.step = above before y after split in
        rw (e, split, step-there before y after split)
        (cases (eqb (y.step / 8) (m.step / 8))
        (λ q.
        let on : y.step / 8 ≡ m.step / 8 = eqb-true (y.step / 8) (m.step / 8) q in
        rw (q, far-there before y after split, bits-there before y after split, joined-far l m before y after others same on, joined-bits l m before y after others same on) (refl, refl))
        (λ q.
        let ne : y.step / 8 ≡ m.step / 8 → ⊥ = eqb-false (y.step / 8) (m.step / 8) q in
        let off : m.step / 8 < y.step / 8 = omega arith in
        rw (q, parted-far l m before y after others same off (rises before y after split), parted-bits l m before y after others same off (rises before y after split)) (refl, refl)))

    next_place : next_at (stage ls) l ≡ find (λ (x : Mark). named m.name x.name) (suc (suc l)) later
    unfolding m later
    next_place =
        let n : List Name = all_labels s in
        let e : n ≡ names (marks s) = sym (marks-names 0 (all_steps s)) in
        let own : get_or n l [] ≡ m.name = ap (λ (x : List Name). get_or x l []) e ∙ get_or-map (λ (x : Mark). x.name) (marks s) l no_mark in
        next_here (suc l) ls c l h ∙ ap₂ (λ (x : Name) (y : List Name). find (named x) (suc (suc l)) y) own (ap (drop (suc l)) e ∙ names-drop (suc l) (marks s))
        ∙ find-marks m.name (suc (suc l)) later

    stored : grouped l (stage ls) ≡ stage (set ls l (bare s l (group_at (marks s) l)))
    unfolding grouped stage m later
    stored =
        let x : Right (next_at (stage ls) l) = rw next_place (right _ (next-named m.name (suc (suc l)) later)) in
        rw (step-here (suc l) ls c l h)
        (ap₂ (λ (far bits : ℕ). group_stored l far bits (stage ls)) x.0 x.1
        ∙ group-put s fit (heads (all_labels s)) ls mk f (sized (suc l) ls c) rest l (group_at (marks s) l) (rw c.count h)
        ∙ ap (λ (k : Link). assembled s (heads (all_labels s)) (set ls l (with_group (group_at (marks s) l) k)) mk f ++ rest) (c.blank l (omega arith) h))

    one_more-is : GroupsFrom s l (set ls l (bare s l (group_at (marks s) l)))
    one_more-is = record {
      count = length-set ls l _ ∙ c.count;
      blank = λ j b i. get_or-set_other ls l j _ no_link (λ e. omega arith) ∙ c.blank j (omega arith) i;
      made = λ j b i. cases (eqb j l)
          (λ t. let e : j ≡ l = eqb-true j l t in rw e (get_or-set_same ls l _ no_link (rw c.count h)))
          (λ t. let e : j ≡ l → ⊥ = eqb-false j l t in get_or-set_other ls l j _ no_link e ∙ c.made j (omega arith) i);
    }

  all : (k : ℕ) → k ≤ length (all_labels s) → (ls : List Link) → GroupsFrom s k ls → (new : List Link) × (grouped_below k (stage ls) ≡ stage new) × GroupsFrom s 0 new
  unfolding grouped_below
  all zero h ls c = (ls, refl, c)
  all (suc l) h ls c =
      let r = all l (omega arith) (set ls l (bare s l (group_at (marks s) l))) (one_more-is l h ls c) in
      (r.0, ap (grouped_below l) (stored l h ls c) ∙ r.1, r.2)

-- the links after the pass
unfoldable pub bare_links : List Chain → List Group → List Link
bare_links [] gs = []
bare_links (c ∷ cs) [] = []
bare_links (c ∷ cs) (g ∷ gs) = link c g 0 0 0 ∷ bare_links cs gs

bare-length : (cs : List Chain) (gs : List Group) → length cs ≡ length gs → length (bare_links cs gs) ≡ length cs
unfolding bare_links
bare-length [] gs e = refl
bare-length (c ∷ cs) [] e = absurd (omega arith)
bare-length (c ∷ cs) (g ∷ gs) e = ap suc (bare-length cs gs (omega arith))

bare-at : (cs : List Chain) (gs : List Group) (l : ℕ) → length cs ≡ length gs → l < length cs → get_or (bare_links cs gs) l no_link ≡ link (get_or cs l no_chain) (get_or gs l no_group) 0 0 0
unfolding bare_links
bare-at [] gs l e h = absurd (omega arith)
bare-at (c ∷ cs) [] l e h = absurd (omega arith)
bare-at (c ∷ cs) (g ∷ gs) zero e h = refl
bare-at (c ∷ cs) (g ∷ gs) (suc l) e h = bare-at cs gs l (omega arith) (omega arith)

unfoldable pub group_links : FolderSet → List Link
group_links s = bare_links (chains (all_labels s)) (groups (marks s))

module _ (s : FolderSet) where
  pub group-count : length (group_links s) ≡ length (all_labels s)
  unfolding group_links
  group-count = bare-length (chains (all_labels s)) (groups (marks s)) (as-groups s) ∙ chains-length (all_labels s) 0 (all_labels s)

  pub group-link : (l : ℕ) → l < length (all_labels s) → get_or (group_links s) l no_link ≡ link (chain_at (all_labels s) l) (group_at (marks s) l) 0 0 0
  unfolding group_links
  group-link l h =
      bare-at (chains (all_labels s)) (groups (marks s)) l (as-groups s) (rw (chains-length (all_labels s) 0 (all_labels s)) h)
      ∙ ap₂ (λ (c : Chain) (g : Group). link c g 0 0 0) (chain-at (all_labels s) l h) (groups-at (marks s) l (rw (marks-count s) h))

pub grouped-is : (s : FolderSet) → Fitting s → (mk : List ℕ) (f : ℕ) (rest : List ℕ) → length mk ≡ all_masks
    → grouped_below (length (all_labels s)) (assembled s (heads (all_labels s)) (chain_links s) mk f ++ rest) ≡ assembled s (heads (all_labels s)) (group_links s) mk f ++ rest
unfolding stage
grouped-is s fit mk f rest masks =
    let start : GroupsFrom s (length (all_labels s)) (chain_links s) = record { count = chain-count s; blank = λ l b h. chain_link s l h; made = λ l b h. absurd (omega arith) } in
    let r = all s fit mk f rest masks (length (all_labels s)) (le_refl (length (all_labels s))) (chain_links s) start in
    let same : r.0 ≡ group_links s = ext_get_or no_link r.0 (group_links s) (r.2.count ∙ sym (group-count s))
    (λ l h. let i : l < length (all_labels s) = rw r.2.count at h in r.2.made l (omega arith) i ∙ sym (group-link s l i)) in
    r.1 ∙ ap (stage s fit mk f rest masks) same
