-- The groups of a name's labels have exactly the steps of those labels.
use Prim.Native.Nat.{ℕ, zero, suc, ◌+◌, ◌*◌, ◌/◌, ◌%◌, ◌≤◌, ◌<◌}
use mathlib.Core.Path.{◌≡◌, refl, sym, ◌∙◌, ap}
use mathlib.Core.Bool.{Bool, true, false, ◌&&◌, ◌||◌, and-true}
use mathlib.Core.Logic.{inl, inr}
use mathlib.Core.List.Memᴰ
use mathlib.Core.List.{List, [], ◌∷◌, map, Memᴰ}
use native.Mathlib.Omega.{arith}
use borrow.Author.Tests.{eqb-true, eqb-false, eq-eqb, leb-true, le-leb}
use lib.Dec.{eqb, leb}
use lib.ListN.{length, get_or, take, drop, drop_of_length-le}
use lib.Seq.{drop-cons}
use Rattle.text.specs.Names.{Name}
use Rattle.text.specs.Lists.{any}
use Rattle.notation.specs.Limits.{max_labels}
use Rattle.stored.proofs.Laws.Tables.SetReads.{LabelStep}
use Rattle.notation.specs.Sets.{FolderSet, Test, label, star, Step, step, test_of}
use Rattle.notation.specs.Form.{labels_of}
use Rattle.notation.specs.Reads.{is_star}
use Rattle.stored.specs.Automaton.{all_steps, all_labels, named, find, byte_of, Mark, marks_from, marks, takes, reaches, Group, group_of, groups_from, groups}
use Rattle.stored.specs.Bits.{bit_of}
use Rattle.stored.specs.Tables.{far_at, bits_at}
use Rattle.stored.specs.Marked.{marked_from}
use Rattle.text.proofs.Laws.Tests.{cases, clash, both, both_true, either, either_left, either-right, same_test}
use Rattle.text.proofs.Laws.Lists.{any-is, is_any}
use Rattle.model.proofs.Laws.Keywords.Words.{same-name}
use Rattle.stored.proofs.Laws.Bytes.Bits.{packed-bit, packed-small}
use Rattle.stored.proofs.Laws.Bytes.Finding.{find-here, find-later, find-empty}
use Rattle.notation.proofs.Laws.Stored.LabelTable.{no_step}
use Rattle.stored.proofs.Laws.Tables.Assembled.{no_group}
use Rattle.stored.proofs.Laws.Tables.MarkTurns.{marked-none}

abbrev pub no_mark : Mark
no_mark = record { name = []; step = 0 }

-- the steps of the labels rise
unfoldable pub Rising : List Mark → Type 0
Rising [] = Unit {0}
Rising (m ∷ ms) = ((x : Mark) → Memᴰ x ms → m.step < x.step) × Rising ms

pub marks-above : (k : ℕ) (ss : List Step) (x : Mark) → Memᴰ x (marks_from k ss) → k ≤ x.step
unfolding marks_from
marks-above k [] x m = absurd (Memᴰ.not-nil m)
marks-above k (step a (label n) ∷ ss) x m =
    elim (Memᴰ.cases_cons m) [ inl e ↦ omega (arith, ap (λ (y : Mark). y.step) e) | inr t ↦ omega (arith, marks-above (suc k) ss x t) ]
marks-above k (step a star ∷ ss) x m = omega (arith, marks-above (suc k) ss x m)

pub marks-rise : (k : ℕ) (ss : List Step) → Rising (marks_from k ss)
unfolding marks_from Rising
marks-rise k [] = tt
marks-rise k (step a (label n) ∷ ss) = (λ x m. marks-above (suc k) ss x m, marks-rise (suc k) ss)
marks-rise k (step a star ∷ ss) = marks-rise (suc k) ss

rising-on : (ms : List Mark) (j : ℕ) → Rising ms → Rising (drop j ms)
unfolding Rising
rising-on ms zero r = r
rising-on [] (suc j) r = r
rising-on (m ∷ ms) (suc j) r = rising-on ms j r.1

pub rising-next : (ms : List Mark) (j : ℕ) → Rising ms → j < length ms → (x : Mark) → Memᴰ x (drop (suc j) ms) → (get_or ms j no_mark).step < x.step
unfolding Rising
rising-next ms j rise h = let r : Rising (get_or ms j no_mark ∷ drop (suc j) ms) = rw (drop-cons ms j no_mark h) at (rising-on ms j rise) in r.0

-- the label has step i and name e, and stands in byte b or behind it
abbrev chosen : Name → ℕ → ℕ → Mark → Bool
chosen e b i x = reaches e b x && eqb x.step i

named_by : (e : Name) (b i : ℕ) (x : Mark) → chosen e b i x ≡ true → (named e x.name ≡ true) × (b ≤ x.step / 8) × (x.step ≡ i)
named_by e b i x t =
    let p = both (reaches e b x) (eqb x.step i) t in
    let q = both (named e x.name) (leb b (x.step / 8)) p.0 in
    (q.0, leb-true b (x.step / 8) q.1, eqb-true x.step i p.1)

by_name : (e : Name) (b i : ℕ) (x : Mark) → named e x.name ≡ true → b ≤ x.step / 8 → x.step ≡ i → chosen e b i x ≡ true
by_name e b i x n l s = both_true (both_true n (le-leb b (x.step / 8) l)) (eq-eqb x.step i s)

-- of labels whose steps rise, those in the first one's byte, or those in later bytes
module _ (e : Name) (b i : ℕ) (m : Mark) (rest : List Mark) (here : reaches e b m ≡ true) (rise : (x : Mark) → Memᴰ x rest → m.step < x.step) where
  least : b ≤ m.step / 8
  least = leb-true b (m.step / 8) (both (named e m.name) (leb b (m.step / 8)) here).1

  parted : ((eqb (m.step / 8) (i / 8) && takes e (m ∷ rest) i) || any (chosen e (suc (m.step / 8)) i) rest) ≡ any (chosen e b i) (m ∷ rest)
  unfolding takes
  parted = same_test ((eqb (m.step / 8) (i / 8) && takes e (m ∷ rest) i) || any (chosen e (suc (m.step / 8)) i) rest) (any (chosen e b i) (m ∷ rest)) there back
    where
      there : ((eqb (m.step / 8) (i / 8) && takes e (m ∷ rest) i) || any (chosen e (suc (m.step / 8)) i) rest) ≡ true → any (chosen e b i) (m ∷ rest) ≡ true
      there t =
          elim (either (eqb (m.step / 8) (i / 8) && takes e (m ∷ rest) i) (any (chosen e (suc (m.step / 8)) i) rest) t) [
            | inl p ↦
                let q = both (eqb (m.step / 8) (i / 8)) (takes e (m ∷ rest) i) p in
                let x = any-is (λ m. named e m.name && eqb m.step i) (m ∷ rest) q.1 in
                let y = both (named e x.0.name) (eqb x.0.step i) x.2 in
                let s : x.0.step ≡ i = eqb-true x.0.step i y.1 in
                let l : b ≤ x.0.step / 8 = rw s (omega (arith, least, eqb-true (m.step / 8) (i / 8) q.0)) in
                is_any (chosen e b i) (m ∷ rest) x.1 (by_name e b i x.0 y.0 l s)
            | inr p ↦
                let x = any-is (chosen e (suc (m.step / 8)) i) rest p in
                let y = named_by e (suc (m.step / 8)) i x.0 x.2 in
                is_any (chosen e b i) (m ∷ rest) (Memᴰ.tail x.1) (by_name e b i x.0 y.0 (omega (arith, least, y.1)) y.2)
          ]

      back : any (chosen e b i) (m ∷ rest) ≡ true → ((eqb (m.step / 8) (i / 8) && takes e (m ∷ rest) i) || any (chosen e (suc (m.step / 8)) i) rest) ≡ true
      back t =
          let x = any-is (chosen e b i) (m ∷ rest) t in
          let y = named_by e b i x.0 x.2 in
          cases (eqb (m.step / 8) (i / 8))
          (λ p. either_left (any (chosen e (suc (m.step / 8)) i) rest) (both_true p (is_any (λ m. named e m.name && eqb m.step i) (m ∷ rest) x.1 (both_true y.0 (eq-eqb x.0.step i y.2)))))
          (λ p.
          let ne : m.step / 8 ≡ i / 8 → ⊥ = eqb-false (m.step / 8) (i / 8) p in
          elim (Memᴰ.cases_cons x.1) [
            | inl s ↦ absurd (ne (ap (λ (n : ℕ). n / 8) (ap (λ (z : Mark). z.step) (sym s) ∙ y.2)))
            | inr s ↦
                let h : m.step < i = rw y.2 at (rise x.0 s) in
                let l : suc (m.step / 8) ≤ x.0.step / 8 = rw y.2 (omega (arith, ne)) in
                either-right (eqb (m.step / 8) (i / 8) && takes e (m ∷ rest) i) (is_any (chosen e (suc (m.step / 8)) i) rest s (by_name e (suc (m.step / 8)) i x.0 y.0 l y.2))
          ])

-- the group of label l
abbrev pub group_at : List Mark → ℕ → Group
group_at ms l = group_of l (get_or ms l no_mark) (drop (suc l) ms)

groups-from-at : (k : ℕ) (ms : List Mark) (l : ℕ) → l < length ms → get_or (groups_from k ms) l no_group ≡ group_of (k + l) (get_or ms l no_mark) (drop (suc l) ms)
unfolding groups_from
groups-from-at k [] l h = absurd (omega arith)
groups-from-at k (m ∷ ms) zero h = ap (λ (j : ℕ). group_of j m ms) (omega arith)
groups-from-at k (m ∷ ms) (suc l) h =
    groups-from-at (suc k) ms l (omega arith) ∙ ap (λ (j : ℕ). group_of j (get_or ms l no_mark) (drop (suc l) ms)) (omega arith)

pub groups-at : (ms : List Mark) (l : ℕ) → l < length ms → get_or (groups ms) l no_group ≡ group_at ms l
groups-at ms l h = groups-from-at 0 ms l h ∙ ap (λ (j : ℕ). group_of j (get_or ms l no_mark) (drop (suc l) ms)) (omega arith)

pub groups-length : (k : ℕ) (ms : List Mark) → length (groups_from k ms) ≡ length ms
unfolding groups_from
groups-length k [] = refl
groups-length k (m ∷ ms) = ap suc (groups-length (suc k) ms)

-- the tables hold the groups of these labels
pub record Grouped (ms : List Mark) (a : List ℕ) : Type 0 where
  pub far : (l : ℕ) → l < length ms → far_at a l ≡ (group_at ms l).far
  pub bits : (l : ℕ) → l < length ms → bits_at a l ≡ (group_at ms l).bits

marked-on : (more : ℕ) (a : List ℕ) (l i : ℕ) → marked_from (suc more) a (suc l) i ≡ ((eqb (bits_at a l / 256) (i / 8) && bit_of (bits_at a l % 256) (i % 8)) || marked_from more a (far_at a l) i)
unfolding marked_from
marked-on more a l i = refl

-- a byte's bit is the one of its step
byte-bit : (f : ℕ → Bool) (b i : ℕ) → (eqb b (i / 8) && bit_of (byte_of f b) (i % 8)) ≡ (eqb b (i / 8) && f i)
byte-bit f b i = cases (eqb b (i / 8))
    (λ t. let z : 8 * b + i % 8 ≡ i = omega (arith, eqb-true b (i / 8) t) in rw (t, packed-bit (λ k. f (8 * b + k)) (i % 8) (omega arith), z))
    (λ t. rw t)

any_none : (f : Mark → Bool) → any f [] ≡ false
unfolding any
any_none f = refl

any-on : (f : Mark → Bool) (x : Mark) (l : List Mark) → f x ≡ false → any f (x ∷ l) ≡ any f l
unfolding any
any-on f x l h = rw h

module _ (ms : List Mark) (a : List ℕ) (g : Grouped ms a) (rise : Rising ms) (e : Name) (i : ℕ) where
  along : (left j more b : ℕ) → j + left ≡ length ms → left ≤ more
      → marked_from more a (find (reaches e b) (suc j) (drop j ms)) i ≡ any (chosen e b i) (drop j ms)
  along zero j more b size room =
      rw (drop_of_length-le ms {i = j} (omega arith), find-empty (reaches e b) (suc j)) (marked-none more a i ∙ sym (any_none (chosen e b i)))
  along (suc left) j zero b size room = absurd (omega arith)
  along (suc left) j (suc more) b size room =
      let h : j < length ms = omega arith in
      rw (drop-cons ms j no_mark h)
      (cases (reaches e b (get_or ms j no_mark))
      (hit h (along left (suc j) more (suc ((get_or ms j no_mark).step / 8)) (omega arith) (omega arith)))
      (miss (along left (suc j) (suc more) b (omega arith) (omega arith))))
    where
      hit : j < length ms
          → marked_from more a (find (reaches e (suc ((get_or ms j no_mark).step / 8))) (suc (suc j)) (drop (suc j) ms)) i ≡ any (chosen e (suc ((get_or ms j no_mark).step / 8)) i) (drop (suc j) ms)
          → reaches e b (get_or ms j no_mark) ≡ true
          → marked_from (suc more) a (find (reaches e b) (suc j) (get_or ms j no_mark ∷ drop (suc j) ms)) i ≡ any (chosen e b i) (get_or ms j no_mark ∷ drop (suc j) ms)
      hit h ih k =
          let m = get_or ms j no_mark in
          let later = drop (suc j) ms in
          let n : m.name ≡ e = same-name m.name e (both (named e m.name) _ k).0 in
          let far : far_at a j ≡ find (reaches e (suc (m.step / 8))) (suc (suc j)) later = rw n at (g.far j h) in
          let all : bits_at a j ≡ byte_of (takes e (m ∷ later)) (m.step / 8) + 256 * (m.step / 8) = rw n at (g.bits j h) in
          let small = packed-small (λ k. takes e (m ∷ later) (8 * (m.step / 8) + k)) in
          let byte : bits_at a j / 256 ≡ m.step / 8 = omega (arith, small) in
          let bits : bits_at a j % 256 ≡ byte_of (takes e (m ∷ later)) (m.step / 8) = omega (arith, small) in
          rw (find-here (reaches e b) (suc j) m later k)
          (marked-on more a j i
          ∙ rw (byte, bits, far, ih, byte-bit (takes e (m ∷ later)) (m.step / 8) i)
          (parted e b i m later k (rising-next ms j rise h)))

      miss : marked_from (suc more) a (find (reaches e b) (suc (suc j)) (drop (suc j) ms)) i ≡ any (chosen e b i) (drop (suc j) ms)
          → reaches e b (get_or ms j no_mark) ≡ false
          → marked_from (suc more) a (find (reaches e b) (suc j) (get_or ms j no_mark ∷ drop (suc j) ms)) i ≡ any (chosen e b i) (get_or ms j no_mark ∷ drop (suc j) ms)
      miss ih k =
          rw (find-later (reaches e b) (suc j) (get_or ms j no_mark) (drop (suc j) ms) k)
          (ih ∙ sym (any-on (chosen e b i) (get_or ms j no_mark) (drop (suc j) ms) (rw k)))

-- from byte 0 on are all labels of a name
reaches_all : (e : Name) (m : Mark) → reaches e 0 m ≡ named e m.name
reaches_all e m = rw (le-leb 0 (m.step / 8) (omega arith)) (and-true (named e m.name))

abbrev pub names : List Mark → List Name
names ms = map (λ (m : Mark). m.name) ms

-- a step that has a label is counted among the marks
pub mark-here : (k : ℕ) (ss : List Step) (i : ℕ) (n : Name) → i < length ss → test_of (get_or ss i no_step) ≡ label n
    → get_or (marks_from k ss) (length (labels_of (take i ss))) no_mark ≡ record { name = n; step = k + i }
unfolding marks_from labels_of
mark-here k [] i n h t = absurd (omega arith)
mark-here k (step a (label x) ∷ ss) zero n h t = ap (λ (u : Test). mark_of u k) t ∙ ap (λ (j : ℕ). record { name = n; step = j }) (omega arith)
  where
    mark_of : Test → ℕ → Mark
    mark_of (label x) j = record { name = x; step = j }
    mark_of star j = no_mark
mark-here k (step a star ∷ ss) zero n h t = clash {b = is_star star} refl (ap is_star t)
mark-here k (step a (label x) ∷ ss) (suc i) n h t = mark-here (suc k) ss i n (omega arith) t ∙ ap (λ (j : ℕ). record { name = n; step = j }) (omega arith)
mark-here k (step a star ∷ ss) (suc i) n h t = mark-here (suc k) ss i n (omega arith) t ∙ ap (λ (j : ℕ). record { name = n; step = j }) (omega arith)

pub label-mark : (s : FolderSet) (l owner : ℕ) → LabelStep s l owner → get_or (marks s) l no_mark ≡ record { name = get_or (all_labels s) l []; step = owner }
label-mark s l owner o =
    ap (λ (j : ℕ). get_or (marks s) j no_mark) (sym o.nth) ∙ mark-here 0 (all_steps s) owner (get_or (all_labels s) l []) o.below o.test
    ∙ ap (λ (j : ℕ). record { name = get_or (all_labels s) l []; step = j }) (omega arith)

pub marks-names : (k : ℕ) (ss : List Step) → names (marks_from k ss) ≡ labels_of ss
unfolding marks_from labels_of
marks-names k [] = refl
marks-names k (step a (label n) ∷ ss) = ap (λ (l : List Name). n ∷ l) (marks-names (suc k) ss)
marks-names k (step a star ∷ ss) = marks-names (suc k) ss

find-names : (e : Name) (k : ℕ) (ms : List Mark) → find (named e) k (names ms) ≡ find (reaches e 0) k ms
unfolding find
find-names e k [] = refl
find-names e k (m ∷ ms) = rw (reaches_all e m, find-names e (suc k) ms)

any-chosen : (e : Name) (i : ℕ) (ms : List Mark) → any (chosen e 0 i) ms ≡ takes e ms i
unfolding any takes
any-chosen e i [] = refl
any-chosen e i (m ∷ ms) = rw (reaches_all e m, any-chosen e i ms)

-- from a name's first label on
pub marked-first : (ms : List Mark) (a : List ℕ) → Grouped ms a → Rising ms → length ms ≤ max_labels → (e : Name) (i : ℕ)
    → marked_from max_labels a (find (named e) 1 (names ms)) i ≡ takes e ms i
marked-first ms a g rise few e i = rw (find-names e 1 ms) (along ms a g rise e i (length ms) 0 max_labels 0 (omega arith) few ∙ any-chosen e i ms)
