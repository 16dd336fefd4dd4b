-- A merge on its way: i offsets of the one part are out and j of the other, k in all.
use Prim.Native.Nat.{ℕ, ◌+◌, ◌-◌, ◌≤◌, ◌<◌}
use native.Mathlib.Omega.{arith}
use native.Mathlib.Numerals.{add-one}
use mathlib.Core.Path.{◌≡◌, sym, ap, ap₂, subst, ◌∙◌}
use mathlib.Core.Bool.{Bool, true, false}
use mathlib.Core.List.{List, [], ◌∷◌, ◌++◌, map-append, append_assoc, append-nil}
use lib.Dec.{ltb}
use lib.ListN.{length, get_or, take, drop, set, length-set, take-append-drop, drop_of_length-le}
use lib.Seq.{drop-cons, take-suc-set, take_all}
use borrow.Author.Tests.{ltb-true, ltb-false}
use Rattle.std.proofs.lemmas.List.{take_rest}
use Rattle.std.specs.declared.cmp.Ordering.{Ordering}
use Rattle.std.specs.declared.cmp.Ordering.TheVariants.{Less, Equal, Greater}
use Rattle.text.specs.Names.{Name}
use Rattle.text.proofs.Laws.Tests.{cases, zero_one}
use Rattle.reports.specs.Code.Ordered.{name_at, names_at, ahead, MergesTo}

-- the names of a part from the i-th on
abbrev pub names_past : List ℕ → List ℕ → ℕ → List Name
names_past s part i = names_at s (drop i part)

none_left : (s part : List ℕ) (i : ℕ) → length part ≤ i → names_past s part i ≡ []
none_left s part i h = ap (names_at s) (drop_of_length-le part h)

some_left : (s part : List ℕ) (i : ℕ) → i < length part → names_past s part i ≡ name_at s (get_or part i 0) ∷ names_past s part (i + 1)
some_left s part i h = rw add-one (ap (names_at s) (drop-cons part i 0 h))

-- whatever the rest merges to, the whole merges to it behind what is out already
pub record Merging (s left right : List ℕ) (i j k : ℕ) (out : List ℕ) : Type 0 where
  pub low : i ≤ length left
  pub high : j ≤ length right
  pub count : k ≡ i + j
  pub size : length out ≡ length left + length right
  pub goes : (t : Bool) (l : List Name) → MergesTo (names_past s left i) (names_past s right j) t l
      → MergesTo (names_at s left) (names_at s right) t (names_at s (take k out) ++ l)

module _ (s left right : List ℕ) where
  pub begun : (out : List ℕ) → length out ≡ length left + length right → Merging s left right 0 0 0 out
  begun out h = record { low = omega arith; high = omega arith; count = omega arith; size = h; goes = λ t l r. r }

  module _ (i j k : ℕ) (out : List ℕ) (m : Merging s left right i j k out) where
    -- the parts from i and j on, as they are lent
    pub next-is : {r x : Ordering} → r ≡ ahead (names_at s (take (length left - i) (drop i left))) (names_at s (take (length right - j) (drop j right))) → r ≡ x
        → ahead (names_past s left i) (names_past s right j) ≡ x
    next-is e is =
        sym (ap₂ (λ (l r : List ℕ). ahead (names_at s l) (names_at s r)) (take_rest left i) (take_rest right j)) ∙ sym e ∙ is

    -- some name is left in the part that gives the next
    pub left-has : ahead (names_past s left i) (names_past s right j) ≡ Less → i < length left
    left-has e =
        cases (ltb i (length left)) (λ t. ltb-true i (length left) t)
        (λ f. zero_one (let z = ap (λ (l : List Name). ahead l (names_past s right j)) (none_left s left i (ltb-false i (length left) f)) in cc))

    pub right-has : k < length out → ahead (names_past s left i) (names_past s right j) ≡ Greater → j < length right
    right-has h e =
        cases (ltb j (length right)) (λ t. ltb-true j (length right) t)
        (λ f.
        let none : length right ≤ j = ltb-false j (length right) f in
        let on : i < length left = omega (arith, m.count, m.size, m.high) in
        zero_one (let z = ap (λ (l : List Name). ahead l (names_past s right j)) (some_left s left i on) ∙ ap (ahead (name_at s (get_or left i 0) ∷ names_past s left (i + 1))) (none_left s right j none) in cc))

    -- what is out, with one more
    one_out : (v : ℕ) (l : List Name) → k < length out → names_at s (take k out) ++ (name_at s v ∷ l) ≡ names_at s (take (k + 1) (set out k v)) ++ l
    one_out v l h =
        sym (ap (λ (n : ℕ). names_at s (take n (set out k v)) ++ l) (add-one k) ∙ ap (λ (x : List ℕ). names_at s x ++ l) (take-suc-set out k v h)
        ∙ ap (λ (x : List Name). x ++ l) (map-append (name_at s) (take k out) (v ∷ [])) ∙ append_assoc (names_at s (take k out)) (name_at s v ∷ []) l)

    -- a turn of the loop: the next offset of the part that gives it is put out
    module _ (h : k < length out) where
      pub from-left : ahead (names_past s left i) (names_past s right j) ≡ Less → Merging s left right (i + 1) j (k + 1) (set out k (get_or left i 0))
      from-left e =
          let on : i < length left = left-has e in
          let v : ℕ = get_or left i 0 in
          record {
            low = omega arith;
            high = m.high;
            count = omega (arith, m.count);
            size = length-set out k v ∙ m.size;
            goes = λ t l r.
                subst (MergesTo (names_at s left) (names_at s right) t) (one_out v l h)
                (m.goes t (name_at s v ∷ l)
                (subst (λ (x : List Name). MergesTo x (names_past s right j) t (name_at s v ∷ l)) (sym (some_left s left i on))
                (MergesTo.left (subst (λ (x : List Name). ahead x (names_past s right j) ≡ Less) (some_left s left i on) e) r)));
          }

      pub from-right : ahead (names_past s left i) (names_past s right j) ≡ Greater → Merging s left right i (j + 1) (k + 1) (set out k (get_or right j 0))
      from-right e =
          let on : j < length right = right-has h e in
          let v : ℕ = get_or right j 0 in
          record {
            low = m.low;
            high = omega arith;
            count = omega (arith, m.count);
            size = length-set out k v ∙ m.size;
            goes = λ t l r.
                subst (MergesTo (names_at s left) (names_at s right) t) (one_out v l h)
                (m.goes t (name_at s v ∷ l)
                (subst (λ (x : List Name). MergesTo (names_past s left i) x t (name_at s v ∷ l)) (sym (some_left s right j on))
                (MergesTo.right (subst (λ (x : List Name). ahead (names_past s left i) x ≡ Greater) (some_left s right j on) e) r)));
          }

    pub met : ahead (names_past s left i) (names_past s right j) ≡ Equal → MergesTo (names_at s left) (names_at s right) true (names_at s out)
    met e =
        subst (MergesTo (names_at s left) (names_at s right) true)
        (sym (map-append (name_at s) (take k out) (drop k out)) ∙ ap (names_at s) (take-append-drop k out))
        (m.goes true (names_at s (drop k out)) (MergesTo.same e))

    pub ended : length out ≤ k → MergesTo (names_at s left) (names_at s right) false (names_at s out)
    ended h =
        subst (MergesTo (names_at s left) (names_at s right) false)
        (append-nil (names_at s (take k out)) ∙ ap (names_at s) (take_all k out h))
        (m.goes false []
        (subst (λ (x : List Name). MergesTo x (names_past s right j) false []) (sym (none_left s left i (omega (arith, m.count, m.size, m.low, m.high))))
        (subst (λ (x : List Name). MergesTo [] x false []) (sym (none_left s right j (omega (arith, m.count, m.size, m.low, m.high)))) MergesTo.none)))
