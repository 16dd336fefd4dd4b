-- Two rising lists of names merged: a name that both have is met, and if there is none the merged list rises and has the names of both.
use mathlib.Core.Path.{◌≡◌, refl, sym, ap, ◌∙◌}
use mathlib.Core.Bool.{Bool, true, false, ◌||◌, or_assoc}
use mathlib.Core.List.{List, [], ◌∷◌}
use Rattle.text.specs.Names.{Name, same_name}
use Rattle.text.specs.Lists.{every, any}
use Rattle.text.proofs.Laws.Tests.{both_true, either_left, clash}
use Rattle.text.proofs.Laws.Lists.{every-head, every_rest, every-weaker}
use Rattle.std.specs.declared.cmp.Ordering.{Ordering}
use Rattle.std.specs.declared.cmp.Ordering.TheVariants.{Less, Equal, Greater}
use Rattle.std.specs.Ordering.{is_lt, is_eq}
use Rattle.reports.specs.Code.Ordered.{order_of, comes_before, Rising, ahead, MergesTo}
use Rattle.reports.proofs.Laws.Ordered.Order.{same_is, order_same, turned, onto}
use Rattle.reports.proofs.Laws.Ordered.Meets.{or-past, meets, meets-turned}

before-is : (o : Ordering) → is_lt o ≡ true → o ≡ Less
before-is Less e = refl
before-is Equal e = cc
before-is Greater e = cc

-- before the first of a rising list is before all of it
before-all : (n k : Name) (l : List Name) → order_of n k ≡ Less → every (comes_before k) l ≡ true → every (comes_before n) (k ∷ l) ≡ true
unfolding every
before-all n k l e h =
    both_true (ap is_lt e)
    (every-weaker (comes_before k) (comes_before n) (λ m t. ap is_lt (onto n k m e (before-is (order_of k m) t))) l h)

left-first : (n : Name) (l m : List Name) → ahead (n ∷ l) m ≡ Less → Rising m → every (comes_before n) m ≡ true
unfolding every
left-first n l m e Rising.none = refl
left-first n l m e (Rising.more {n = k} {l = r} h rest) = before-all n k r e h

right-first : (n : Name) (l m : List Name) → ahead l (n ∷ m) ≡ Greater → Rising l → every (comes_before n) l ≡ true
unfolding every
right-first n l m e Rising.none = refl
right-first n l m e (Rising.more {n = k} {l = r} h rest) = before-all n k r (turned k n e) h

-- what comes before all of a list is not in it
not_in : (n : Name) (l : List Name) → every (comes_before n) l ≡ true → any (same_name n) l ≡ false
unfolding any
not_in n [] h = refl
not_in n (m ∷ l) h =
    let differ = same_is n m ∙ ap is_eq (before-is (order_of n m) (every-head (comes_before n) m l h)) in
    rw differ (not_in n l (every_rest (comes_before n) m l h))

-- both lists begin with the same name
first-same : (l m : List Name) → ahead l m ≡ Equal → meets l m ≡ true
unfolding any
first-same [] m e = cc
first-same (n ∷ l) [] e = cc
first-same (n ∷ l) (k ∷ m) e = either_left _ (either_left _ (order_same n k e))

pub merge-says : {l m out : List Name} {twice : Bool} → MergesTo l m twice out → Rising l → Rising m → twice ≡ meets l m
unfolding any
merge-says MergesTo.none p q = refl
merge-says (MergesTo.same {l = l} {m = m} e) p q = sym (first-same l m e)
merge-says (MergesTo.left {n = n} {l = l} {m = m} e rest) (Rising.more h p) q =
    merge-says rest p q ∙ sym (ap (λ (b : Bool). b || meets l m) (not_in n m (left-first n l m e q)))
merge-says (MergesTo.right {n = n} {l = l} {m = m} e rest) p (Rising.more h q) =
    merge-says rest p q ∙ meets-turned l m ∙ sym (ap (λ (b : Bool). b || meets m l) (not_in n l (right-first n l m e p))) ∙ meets-turned (n ∷ m) l

pub merge-every : (f : Name → Bool) {l m out : List Name} {twice : Bool} → MergesTo l m twice out → twice ≡ false → every f l ≡ true → every f m ≡ true → every f out ≡ true
unfolding every
merge-every f MergesTo.none t p q = refl
merge-every f (MergesTo.same e) t p q = clash refl t
merge-every f (MergesTo.left {n = n} {l = l} e rest) t p q = both_true (every-head f n l p) (merge-every f rest t (every_rest f n l p) q)
merge-every f (MergesTo.right {n = n} {m = m} e rest) t p q = both_true (every-head f n m q) (merge-every f rest t p (every_rest f n m q))

pub merge-rises : {l m out : List Name} {twice : Bool} → MergesTo l m twice out → twice ≡ false → Rising l → Rising m → Rising out
merge-rises MergesTo.none t p q = Rising.none
merge-rises (MergesTo.same e) t p q = clash refl t
merge-rises (MergesTo.left {n = n} {l = l} {m = m} e rest) t (Rising.more h p) q =
    Rising.more (merge-every (comes_before n) rest t h (left-first n l m e q)) (merge-rises rest t p q)
merge-rises (MergesTo.right {n = n} {l = l} {m = m} e rest) t p (Rising.more h q) =
    Rising.more (merge-every (comes_before n) rest t (right-first n l m e p) h) (merge-rises rest t p q)

pub merge-any : (f : Name → Bool) {l m out : List Name} {twice : Bool} → MergesTo l m twice out → twice ≡ false → any f out ≡ (any f l || any f m)
unfolding any
merge-any f MergesTo.none t = refl
merge-any f (MergesTo.same e) t = clash refl t
merge-any f (MergesTo.left {n = n} {l = l} {m = m} e rest) t = ap (◌||◌ (f n)) (merge-any f rest t) ∙ sym (or_assoc (f n) (any f l) (any f m))
merge-any f (MergesTo.right {n = n} {l = l} {m = m} e rest) t =
    ap (◌||◌ (f n)) (merge-any f rest t) ∙ or-past (f n) (any f l) (any f m)
