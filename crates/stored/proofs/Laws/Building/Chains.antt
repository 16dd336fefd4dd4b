-- The pass that links the labels by name leaves the heads and chains of the definition, and at each label a name can be looked up.
use Prim.Native.Nat.{ℕ, zero, suc, ◌+◌, ◌-◌, ◌≤◌, ◌<◌}
use native.Mathlib.Nat.{le_refl}
use native.Mathlib.Numerals.{add-one}
use native.Mathlib.Omega.{arith}
use mathlib.Core.Path.{◌≡◌, refl, sym, ap, ◌∙◌}
use mathlib.Core.Bool.{true, false, and-false}
use mathlib.Core.List.{List, [], ◌∷◌, ◌++◌, map}
use borrow.Author.Tests.{eq-eqb, ne_eqb, eqb-true, eqb-false, ltb-true, ltb-false}
use lib.Dec.{eqb, ltb}
use lib.ListN.{length, get_or, set, drop, replicate, length-drop, length-set, length-map, length-replicate, get_or-replicate, get_or-map}
use lib.Seq.{sets, drop-cons, drop-length, get_or-drop, get_or-set_same, get_or-set_other, ext_get_or}
use Rattle.text.specs.Names.{Name, same_name}
use Rattle.text.specs.Lists.{any}
use Rattle.text.specs.Bytes.{le16}
use Rattle.notation.specs.Limits.{max_labels}
use Rattle.notation.specs.Sets.{FolderSet}
use Rattle.notation.specs.Reads.{label_name}
use Rattle.notation.proofs.Laws.Refused.Fitting.{Fitting}
use Rattle.stored.specs.Automaton.{hashes, hash, find, find_with_later, all_labels, named, is_last, has_hash, last_of_hash, if_last, tabulate, heads, Chain, chains, Link, link, assembled, all_masks, other_in, first_in, head_entry_at, link_entry_at}
use Rattle.stored.specs.Tables.{head_at, other_at, first_at, look_up}
use Rattle.stored.specs.Usable.{After, Lookable}
use Rattle.stored.specs.Code.Chains.{entered, preceded, linked_at, linked, chained, Linkable}
use Rattle.text.proofs.Laws.Tests.{cases, clash, either_left, either-right}
use Rattle.model.proofs.Laws.Keywords.Words.{same-name, name-same}
use Rattle.stored.proofs.Laws.Bytes.Finding.{find-here, find-later, find-missing, find-range, last-later, last-range}
use Rattle.stored.proofs.Laws.Bytes.Tabulate.{tabulate-length, tabulate-at, tabulate-set, tabulate-same, tabulate-constant}
use Rattle.stored.proofs.Laws.Tables.Chained.{hash-small, no_chain, chain_at, chain-at, chains-length}
use Rattle.stored.proofs.Laws.Tables.Assembled.{with_next, with_other, with_first, no_group, no_link, Sized, head_read, first_read, other-read, head-put, next-put, other-put, first-put}
use Rattle.stored.proofs.Laws.Tables.SetReads.{label-count, label-bytes}
use Rattle.stored.proofs.Laws.Tables.Searched.{top, if-range, behind-within, behind-after, other-behind}
use Rattle.stored.proofs.Laws.Tables.LookedUp.{ChainedFrom, LookedUp, missing, found, looked-up}

-- with only the labels from k on: the chain of a hash, and how label l is linked
abbrev head_from : List Name → ℕ → ℕ → ℕ
head_from names k h = find_with_later (last_of_hash h) (suc k) (drop k names)

abbrev heads_from : List Name → ℕ → List ℕ
heads_from names k = tabulate (head_from names k) hashes

abbrev chain_from : List Name → ℕ → ℕ → Chain
chain_from names k l = record {
  next = (chain_at names l).next;
  other = (chain_at names l).other;
  first = if_last (get_or names l []) (drop (suc l) names) (find (named (get_or names l [])) (suc k) (drop k names));
}

abbrev bare : Chain → Link
bare c = link c no_group 0 0 0

-- the links after the pass
unfoldable pub chain_links : FolderSet → List Link
chain_links s = map bare (chains (all_labels s))

pub chain-count : (s : FolderSet) → length (chain_links s) ≡ length (all_labels s)
unfolding chain_links
chain-count s = length-map (chains (all_labels s)) bare ∙ chains-length (all_labels s) 0 (all_labels s)

pub chain_link : (s : FolderSet) (l : ℕ) → l < length (all_labels s) → get_or (chain_links s) l no_link ≡ link (chain_at (all_labels s) l) no_group 0 0 0
unfolding chain_links
chain_link s l h = get_or-map bare (chains (all_labels s)) l no_chain ∙ ap bare (chain-at (all_labels s) l h)

-- links of which only those of the labels from k on are made
record LinksFrom (names : List Name) (k : ℕ) (ls : List Link) : Type 0 where
  count : length ls ≡ length names
  blank : (l : ℕ) → l < k → get_or ls l no_link ≡ no_link
  made : (l : ℕ) → k ≤ l → l < length names → get_or ls l no_link ≡ bare (chain_from names k l)

-- a name that some label from k on has
any_at : (e : Name) (names : List Name) (m : ℕ) → m < length names → get_or names m [] ≡ e → any (named e) names ≡ true
unfolding any
any_at e [] m h q = absurd (omega arith)
any_at e (n ∷ names) zero h q = rw q (either_left (any (named e) names) (name-same e))
any_at e (n ∷ names) (suc m) h q = either-right (same_name n e) (any_at e names m (omega arith) q)

module _ (names : List Name) (e : Name) where
  any-from : (k m : ℕ) → k ≤ m → m < length names → get_or names m [] ≡ e → any (named e) (drop k names) ≡ true
  any-from k m b h q =
      let z : k + (m - k) ≡ m = omega arith in
      any_at e (drop k names) (m - k) (omega (arith, length-drop k names)) (get_or-drop k names (m - k) [] ∙ ap (λ (j : ℕ). get_or names j []) z ∙ q)

  not_last : (m r : ℕ) → m < r → r < length names → get_or names r [] ≡ e → is_last e (drop (suc m) names) ≡ false
  not_last m r b h q = rw (any-from (suc m) r b h q)

  -- a name has one last label
  one_last : (m r : ℕ) → m < length names → r < length names → get_or names m [] ≡ e → get_or names r [] ≡ e
      → is_last e (drop (suc m) names) ≡ true → is_last e (drop (suc r) names) ≡ true → m ≡ r
  one_last m r h i p q t u =
      cases (eqb m r) (eqb-true m r) (λ d. let n : m ≡ r → ⊥ = eqb-false m r d in
      cases (ltb m r)
      (λ b. clash t (not_last m r (ltb-true m r b) i q))
      (λ b. clash u (not_last r m (omega (arith, ltb-false m r b)) h p)))

-- one label more
module _ (names : List Name) (l : ℕ) (h : l < length names) where
  n : Name
  n = get_or names l []

  later : List Name
  later = drop (suc l) names

  split : drop l names ≡ n ∷ later
  unfolding n later
  split = drop-cons names l [] h

  -- a label is linked as before, but for the last one of the name
  same-chain : (m : ℕ) → (is_last (get_or names m []) (drop (suc m) names) ≡ true → get_or names m [] ≡ n → ⊥) → chain_from names l m ≡ chain_from names (suc l) m
  unfolding later
  same-chain m d =
      let e : Name = get_or names m [] in
      cases (is_last e (drop (suc m) names))
      (λ t. cases (same_name n e)
      (λ q. absurd (d t (sym (same-name n e q))))
      (λ q. let v : find (named e) (suc l) (drop l names) ≡ find (named e) (suc (suc l)) later = rw split (find-later (named e) (suc l) n later q) in
      ap (λ (x : ℕ). record { next = (chain_at names m).next; other = (chain_at names m).other; first = if_last e (drop (suc m) names) x }) v))
      (λ t. rw t)

  -- which has this label for its first
  first-chain : (m : ℕ) → is_last n (drop (suc m) names) ≡ true → get_or names m [] ≡ n → (chain_from names l m).first ≡ suc l
  first-chain m t e = rw (e, t, split) (find-here (named n) (suc l) n later (name-same n))

  -- a new name
  module _ (none : any (named n) later ≡ false) where
    new-heads : set (heads_from names (suc l)) (hash n) (suc l) ≡ heads_from names l
    unfolding find_with_later later
    new-heads =
        tabulate-set (head_from names (suc l)) (head_from names l) hashes (hash n) (suc l) (hash-small n)
        (rw (split, none, eq-eqb (hash n) (hash n) refl))
        (λ i d. rw (split, ne_eqb (hash n) i (λ q. d (sym q))))

    new-chain : chain_from names l l ≡ record { next = 0; other = head_from names (suc l) (hash n); first = suc l }
    unfolding n later
    new-chain =
        let v : (chain_from names l l).first ≡ suc l = first-chain l (rw none) refl in
        let z : find (named n) (suc (suc l)) later ≡ 0 = find-missing (named n) (suc (suc l)) later none in
        rw (z, none) (ap (λ (x : ℕ). record { next = 0; other = head_from names (suc l) (hash n); first = x }) (rw none at v))

    new-only : (m : ℕ) → l < m → m < length names → get_or names m [] ≡ n → ⊥
    unfolding later
    new-only m b i e = clash (any-from names n (suc l) m b i e) none

  -- a name of labels behind it
  module _ (some : any (named n) later ≡ true) where
    old-heads : heads_from names (suc l) ≡ heads_from names l
    unfolding later
    old-heads = tabulate-same (head_from names (suc l)) (head_from names l) hashes (λ i b. rw split (sym (last-later (last_of_hash i) (suc l) n later (rw some (and-false (has_hash i n))))))

    old-chain : chain_from names l l ≡ record { next = find (named n) (suc (suc l)) later; other = 0; first = 0 }
    unfolding n later
    old-chain = rw some

  -- the link of the label, which is not yet the right one if r is this label, and then that of the name's last label r
  two-puts : (ls : List Link) → LinksFrom names (suc l) ls → (x : Link) (r : ℕ) → l ≤ r → r < length names → ((l ≡ r → ⊥) → x ≡ bare (chain_from names l l))
      → ((m : ℕ) → l < m → m < length names → (m ≡ r → ⊥) → is_last (get_or names m []) (drop (suc m) names) ≡ true → get_or names m [] ≡ n → ⊥)
      → LinksFrom names l (set (set ls l x) r (bare (chain_from names l r)))
  two-puts ls k x r b i own only = record {
    count = length-set (set ls l x) r _ ∙ length-set ls l x ∙ k.count;
    blank = λ m d.
        get_or-set_other (set ls l x) r m _ no_link (λ e. omega arith) ∙ get_or-set_other ls l m x no_link (λ e. omega arith) ∙ k.blank m (omega arith);
    made = λ m d j.
        cases (eqb m r)
        (λ q. let e : m ≡ r = eqb-true m r q in rw e (get_or-set_same (set ls l x) r _ no_link (rw (length-set ls l x, k.count) i)))
        (λ q. let e : m ≡ r → ⊥ = eqb-false m r q in
        get_or-set_other (set ls l x) r m _ no_link e
        ∙ cases (eqb m l)
        (λ t. let u : m ≡ l = eqb-true m l t in rw u (get_or-set_same ls l x no_link (rw k.count h) ∙ own (λ w. e (u ∙ w))))
        (λ t. let u : m ≡ l → ⊥ = eqb-false m l t in
        let v : l < m = omega arith in
        get_or-set_other ls l m x no_link u ∙ k.made m v j ∙ ap bare (sym (same-chain m (only m v j e)))));
  }

-- what is stored is small
module _ (names : List Name) (k : ℕ) (b : k ≤ length names) where
  head-within : (h : ℕ) → head_from names k h ≤ length names
  head-within h = omega (arith, length-drop k names, top (omega arith) (last-range (last_of_hash h) (suc k) (drop k names)))

  first-within : (l : ℕ) → (chain_from names k l).first ≤ length names
  first-within l =
      omega (arith, length-drop k names, top (omega arith) (if-range (is_last (get_or names l []) (drop (suc l) names)) (find-range (named (get_or names l [])) (suc k) (drop k names))))

module _ (s : FolderSet) (fit : Fitting s) (ms : List ℕ) (f : ℕ) (rest : List ℕ) (masks : length ms ≡ all_masks) where
  stage : ℕ → List Link → List ℕ
  stage k ls = assembled s (heads_from (all_labels s) k) ls ms f ++ rest

  small : (v : ℕ) → v ≤ length (all_labels s) → v < 65536
  unfolding max_labels
  small v h = omega (arith, fit.labels)

  sized : (k : ℕ) (ls : List Link) → length ls ≡ length (all_labels s) → Sized (heads_from (all_labels s) k) ls ms
  sized k ls e = record { heads = tabulate-length (head_from (all_labels s) k) hashes; links = omega (arith, fit.labels); masks = masks }

  -- what is read
  module _ (k : ℕ) (b : k ≤ length (all_labels s)) (ls : List Link) (c : LinksFrom (all_labels s) k ls) where
    head-here : (h : ℕ) → h < hashes → head_at (stage k ls) h ≡ head_from (all_labels s) k h
    unfolding stage
    head-here h i =
        let e : get_or (heads_from (all_labels s) k) h 0 ≡ head_from (all_labels s) k h = tabulate-at (head_from (all_labels s) k) hashes h i in
        head_read s fit (heads_from (all_labels s) k) ls ms f (sized k ls c.count) rest h i (rw e (small _ (head-within (all_labels s) k b h))) ∙ e

    other-read-as : (l v : ℕ) → l < length (all_labels s) → (get_or ls l no_link).other ≡ v → v ≤ length (all_labels s) → other_at (stage k ls) l ≡ v
    unfolding stage
    other-read-as l v h e i =
        other-read s fit (heads_from (all_labels s) k) ls ms f (sized k ls c.count) rest l (rw c.count h) (rw e (small v i)) ∙ e

    other-here : (l : ℕ) → k ≤ l → l < length (all_labels s) → other_at (stage k ls) l ≡ (chain_at (all_labels s) l).other
    other-here l i h = other-read-as l _ h (ap (λ (x : Link). x.other) (c.made l i h)) (behind-within (all_labels s) l _ h (other-behind (all_labels s) l))

    first-here : (l : ℕ) → k ≤ l → l < length (all_labels s) → first_at (stage k ls) l ≡ (chain_from (all_labels s) k l).first
    unfolding stage
    first-here l i h =
        let e : (get_or ls l no_link).first ≡ (chain_from (all_labels s) k l).first = ap (λ (x : Link). x.first) (c.made l i h) in
        first_read s fit (heads_from (all_labels s) k) ls ms f (sized k ls c.count) rest l (rw c.count h) (rw e (small _ (first-within (all_labels s) k b l))) ∙ e

    name-here : (l : ℕ) → l < length (all_labels s) → label_name (stage k ls) l ≡ get_or (all_labels s) l []
    unfolding stage
    name-here = label-bytes s fit (heads_from (all_labels s) k) ls ms f rest

    chained-from : ChainedFrom (all_labels s) k (stage k ls)
    chained-from = record { few = fit.labels; head = head-here; label = λ l i h. name-here l h; other = other-here }

    after-here : (l : ℕ) → l < length (all_labels s) → After (stage k ls) l (other_at (stage k ls) l)
    unfolding stage
    after-here l h =
        cases (ltb l k)
        (λ t. let z : other_at (stage k ls) l ≡ 0 = other-read-as l 0 h (ap (λ (x : Link). x.other) (c.blank l (ltb-true l k t))) (omega arith) in
        rw z (record { within = omega arith; later = λ m e. absurd (omega arith) }))
        (λ t. rw (other-here l (ltb-false l k t) h)
        (behind-after (all_labels s) (stage k ls) l _ h (label-count s fit (heads_from (all_labels s) k) ls ms f rest) (other-behind (all_labels s) l)))

    lookable : Lookable (stage k ls)
    unfolding stage
    lookable =
        let n = label-count s fit (heads_from (all_labels s) k) ls ms f rest in
        record {
          few = rw n fit.labels;
          head = λ h i. rw (n, head-here h i) (head-within (all_labels s) k b h);
          other = λ l h. after-here l (rw n at h);
        }

  -- one label
  module _ (l : ℕ) (h : l < length (all_labels s)) (ls : List Link) (c : LinksFrom (all_labels s) (suc l) ls) where
    abbrev Next : List ℕ → Type 0
    Next a = (new : List Link) × (a ≡ stage l new) × LinksFrom (all_labels s) l new

    e : Name
    e = get_or (all_labels s) l []

    inside : l < length ls
    inside = rw c.count h

    -- of a new name
    enters : any (named e) (drop (suc l) (all_labels s)) ≡ false → Next (entered (hash e) l (stage (suc l) ls))
    unfolding e n later stage
    enters none =
        let names : List Name = all_labels s in
        let hs : List ℕ = heads_from names (suc l) in
        let v : ℕ = head_from names (suc l) (hash e) in
        let x : Link = with_other v no_link in
        let y : Link = bare (chain_from names l l) in
        let ks : List Link = set ls l x in
        let n' : length ks ≡ length names = length-set ls l x ∙ c.count in
        let y' : with_first (l + 1) (get_or ks l no_link) ≡ y = rw (add-one l, get_or-set_same ls l x no_link inside) (ap bare (sym (new-chain names l h none))) in
        let n'' : length (set ks l y) ≡ length names = length-set ks l y ∙ n' in (
          set ks l y,
          ap (λ (w : ℕ). sets (sets (sets (stage (suc l) ls) (link_entry_at l + other_in) (le16 w)) (link_entry_at l + first_in) (le16 (l + 1))) (head_entry_at (hash e)) (le16 (l + 1)))
              (head-here (suc l) h ls c (hash e) (hash-small e))
              ∙ ap (λ (a : List ℕ). sets (sets a (link_entry_at l + first_in) (le16 (l + 1))) (head_entry_at (hash e)) (le16 (l + 1)))
              (other-put s fit hs ls ms f (sized (suc l) ls c.count) rest l v inside
              ∙ ap (λ (k : Link). assembled s hs (set ls l (with_other v k)) ms f ++ rest) (c.blank l (omega arith)))
              ∙ ap (λ (a : List ℕ). sets a (head_entry_at (hash e)) (le16 (l + 1)))
              (first-put s fit hs ks ms f (sized (suc l) ks n') rest l (l + 1) (omega (arith, n'))
              ∙ ap (λ (k : Link). assembled s hs (set ks l k) ms f ++ rest) y')
              ∙ head-put s fit hs (set ks l y) ms f (sized (suc l) (set ks l y) n'') rest (hash e) (l + 1) (hash-small e)
              ∙ rw (add-one l, new-heads names l h none),
          two-puts names l h ls c x l (omega arith) h (λ d. absurd (d refl)) (λ m b i d t q. new-only names l h none m b i q),
        )

    -- of a name whose last label is r
    precedes : (r : ℕ) → suc l ≤ r → r < length (all_labels s) → get_or (all_labels s) r [] ≡ e → is_last e (drop (suc r) (all_labels s)) ≡ true → Next (preceded r l (stage (suc l) ls))
    unfolding e n later stage
    precedes r b i q t =
        let names : List Name = all_labels s in
        let hs : List ℕ = heads_from names (suc l) in
        let some : any (named e) (drop (suc l) names) ≡ true = any-from names e (suc l) r b i q in
        let v : ℕ = find (named e) (suc (suc l)) (drop (suc l) names) in
        let x : Link = with_next v no_link in
        let y : Link = bare (chain_from names l r) in
        let ks : List Link = set ls l x in
        let n' : length ks ≡ length names = length-set ls l x ∙ c.count in
        let v' : (chain_from names (suc l) r).first ≡ v = rw (q, t) in
        let x' : get_or ks r no_link ≡ bare (chain_from names (suc l) r) = get_or-set_other ls l r x no_link (λ d. omega arith) ∙ c.made r b i in
        let y' : with_first (l + 1) (get_or ks r no_link) ≡ y = rw (add-one l, x') (ap (λ (w : ℕ). with_first w (bare (chain_from names (suc l) r))) (sym (first-chain names l h r t q))) in (
          set ks r y,
          ap (λ (w : ℕ). sets (sets (stage (suc l) ls) (link_entry_at l) (le16 w)) (link_entry_at r + first_in) (le16 (l + 1))) (first-here (suc l) h ls c r b i ∙ v')
              ∙ ap (λ (a : List ℕ). sets a (link_entry_at r + first_in) (le16 (l + 1)))
              (next-put s fit hs ls ms f (sized (suc l) ls c.count) rest l v inside
              ∙ ap (λ (k : Link). assembled s hs (set ls l (with_next v k)) ms f ++ rest) (c.blank l (omega arith)))
              ∙ first-put s fit hs ks ms f (sized (suc l) ks n') rest r (l + 1) (omega (arith, n'))
              ∙ ap (λ (k : Link). assembled s hs (set ks r k) ms f ++ rest) y'
              ∙ ap (λ (u : List ℕ). assembled s u (set ks r y) ms f ++ rest) (old-heads names l h some),
          two-puts names l h ls c x r (omega arith) i (λ d. ap bare (sym (old-chain names l h some)))
              (λ m b' i' d t' q'. d (one_last names e m r i' i q' q (rw q' at t') t)),
        )

    step : Next (linked l (stage (suc l) ls))
    unfolding linked e
    step = rw (name-here (suc l) h ls c l h) (go (look_up (stage (suc l) ls) e) (looked-up (all_labels s) (suc l) (stage (suc l) ls) (chained-from (suc l) h ls c) e))
      where
        go : (p : ℕ) → LookedUp (all_labels s) (suc l) e p → Next (linked_at p (hash e) l (stage (suc l) ls))
        go p (missing z none) = rw z (enters none)
        go p (found r z b i q t) = rw z (precedes r b i q t)

  all : (k : ℕ) → k ≤ length (all_labels s) → (ls : List Link) → LinksFrom (all_labels s) k ls
      → Linkable k (stage k ls) × ((new : List Link) × (chained k (stage k ls) ≡ stage 0 new) × LinksFrom (all_labels s) 0 new)
  unfolding chained Linkable
  all zero h ls c = (tt, (ls, refl, c))
  all (suc l) h ls c =
      let t = step l h ls c in
      let r = all l (omega arith) t.0 t.2 in
      rw t.1 ((lookable (suc l) h ls c, r.0), r.1)

  -- no label yet
  start : stage (length (all_labels s)) (replicate (length (all_labels s)) no_link) ≡ assembled s (replicate hashes 0) (replicate (length (all_labels s)) no_link) ms f ++ rest
  unfolding stage find_with_later
  start =
      let names : List Name = all_labels s in
      let hs : heads_from names (length names) ≡ replicate hashes 0 =
      ap (λ (l : List Name). tabulate (λ h. find_with_later (last_of_hash h) (suc (length names)) l) hashes) (drop-length names) ∙ tabulate-constant hashes 0 in
      rw hs

  blanks : LinksFrom (all_labels s) (length (all_labels s)) (replicate (length (all_labels s)) no_link)
  blanks = record {
    count = length-replicate (length (all_labels s)) no_link;
    blank = λ l h. get_or-replicate (length (all_labels s)) l no_link no_link h;
    made = λ l b h. absurd (omega arith);
  }

  whole : Linkable (length (all_labels s)) (stage (length (all_labels s)) (replicate (length (all_labels s)) no_link))
      × ((new : List Link) × (chained (length (all_labels s)) (stage (length (all_labels s)) (replicate (length (all_labels s)) no_link)) ≡ stage 0 new) × LinksFrom (all_labels s) 0 new)
  whole = all (length (all_labels s)) (le_refl (length (all_labels s))) (replicate (length (all_labels s)) no_link) blanks

  pub linkable : Linkable (length (all_labels s)) (assembled s (replicate hashes 0) (replicate (length (all_labels s)) no_link) ms f ++ rest)
  linkable = rw start at whole.0

  pub chained-is : chained (length (all_labels s)) (assembled s (replicate hashes 0) (replicate (length (all_labels s)) no_link) ms f ++ rest)
      ≡ assembled s (heads (all_labels s)) (chain_links s) ms f ++ rest
  unfolding stage
  chained-is =
      let r = whole.1 in
      let same : r.0 ≡ chain_links s = ext_get_or no_link r.0 (chain_links s) (r.2.count ∙ sym (chain-count s))
      (λ l h. let i : l < length (all_labels s) = rw r.2.count at h in r.2.made l (omega arith) i ∙ sym (chain_link s l i)) in
      ap (chained (length (all_labels s))) (sym start) ∙ r.1 ∙ ap (stage 0) same
