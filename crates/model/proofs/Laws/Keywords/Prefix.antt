-- The computed longest end is the longest end that begins a keyword, and the only one; likewise the failure function.
use Prim.Native.Nat.{suc, ◌≤◌, ◌<◌}
use mathlib.Core.Path.{◌≡◌, refl, sym, ◌∙◌, ap, subst}
use mathlib.Core.Bool.{true, false}
use mathlib.Core.Logic.{◌⊎◌, inl, inr}
use mathlib.Core.List.{List, [], ◌∷◌, ◌++◌, tail-eq_of_cons-eq}
use native.Mathlib.Omega.{arith}
use lib.ListN.{length, length-append, length-map}
use Rattle.text.specs.Names.{Name}
use Rattle.notation.specs.Sets.{FolderSet}
use Rattle.model.specs.Words.{Symbol, name, Word, Begins, begins}
use Rattle.model.specs.Prefix.{word_of, EndOf, LongestEnd, LongestProperEnd, CurrentPrefix, longest_end, prefix_of, failure}
use Rattle.text.proofs.Laws.Tests.{cases, clash}
use Rattle.text.proofs.Laws.Lists.{length-end}
use Rattle.model.proofs.Laws.Keywords.Words.{begins-is, is-begins, begins-shorter}

pub longest-yes : (set : FolderSet) (s : Symbol) (w : Word) → begins set (s ∷ w) ≡ true → longest_end set (s ∷ w) ≡ s ∷ w
unfolding longest_end
longest-yes set s w h = rw h

pub longest-no : (set : FolderSet) (s : Symbol) (w : Word) → begins set (s ∷ w) ≡ false → longest_end set (s ∷ w) ≡ longest_end set w
unfolding longest_end
longest-no set s w h = rw h

-- two ends of one word of one length are one
ends_same : (u u' v v' : Word) → u ++ v ≡ u' ++ v' → length v ≡ length v' → v ≡ v'
ends_same [] [] v v' e l = e
ends_same [] (s ∷ u') v v' e l = absurd (omega (arith, ap length e, length-append u' v'))
ends_same (s ∷ u) [] v v' e l = absurd (omega (arith, ap length e, length-append u v))
ends_same (s ∷ u) (t ∷ u') v v' e l = ends_same u u' v v' (tail-eq_of_cons-eq e) l

-- an end of a word is the word or an end of its tail
end-cases : (s : Symbol) (w v : Word) → EndOf (s ∷ w) v → (v ≡ s ∷ w) ⊎ EndOf w v
end-cases s w v e = go e.front e.joined
  where
    go : (u : Word) → u ++ v ≡ s ∷ w → (v ≡ s ∷ w) ⊎ EndOf w v
    go [] p = inl p
    go (t ∷ u) p = inr (record { front = u; joined = tail-eq_of_cons-eq p })

end-longer : (s : Symbol) (w v : Word) → EndOf w v → EndOf (s ∷ w) v
end-longer s w v e = record { front = s ∷ e.front; joined = ap (λ (l : Word). s ∷ l) e.joined }

pub longest-end : (set : FolderSet) (w : Word) → LongestEnd set w (longest_end set w)
unfolding longest_end
longest-end set [] = record {
  is_end = record { front = []; joined = refl };
  starts = inr refl;
  longest = λ v e b. omega (arith, length-end e.front v [] e.joined);
}
longest-end set (s ∷ w) = cases (begins set (s ∷ w)) yes' (no' (longest-end set w))
  where
    yes' : begins set (s ∷ w) ≡ true → LongestEnd set (s ∷ w) (longest_end set (s ∷ w))
    yes' h = rw (longest-yes set s w h) (record {
      is_end = record { front = []; joined = refl };
      starts = inl (begins-is set (s ∷ w) h);
      longest = λ v e b. length-end e.front v (s ∷ w) e.joined;
    })

    no' : LongestEnd set w (longest_end set w) → begins set (s ∷ w) ≡ false → LongestEnd set (s ∷ w) (longest_end set (s ∷ w))
    no' r h = rw (longest-no set s w h) (record {
      is_end = end-longer s w (longest_end set w) r.is_end;
      starts = r.starts;
      longest = λ v e b. elim (end-cases s w v e) [
        | inl p ↦ clash (is-begins set (s ∷ w) (subst (Begins set) p b)) h
        | inr q ↦ r.longest v q b
      ];
    })

-- of two ends that begin a keyword or are empty, the first is not longer where the second is as long as any that begins one
not-longer : (set : FolderSet) (w v : Word) → (Begins set v → length v ≤ length w) → Begins set v ⊎ (v ≡ []) → length v ≤ length w
not-longer set w v f (inl b) = f b
not-longer set w v f (inr e) = omega (arith, ap length e)

pub longest-only : (set : FolderSet) (whole w v : Word) → LongestEnd set whole w → LongestEnd set whole v → w ≡ v
longest-only set whole w v p q =
    let a : length v ≤ length w = not-longer set w v (p.longest v q.is_end) q.starts in
    let b : length w ≤ length v = not-longer set v w (q.longest w p.is_end) p.starts in
    let l : length w ≡ length v = omega arith in
    ends_same p.is_end.front q.is_end.front w v (p.is_end.joined ∙ sym q.is_end.joined) l

pub current-prefix : (set : FolderSet) (names : List Name) → CurrentPrefix set names (prefix_of set names)
unfolding prefix_of
current-prefix set names = longest-end set (word_of names)

pub current-prefix-only : (set : FolderSet) (names : List Name) (w : Word) → CurrentPrefix set names w → w ≡ prefix_of set names
current-prefix-only set names w h = longest-only set (word_of names) w (prefix_of set names) h (current-prefix set names)

-- the failure function of a word that is not empty
pub failure-is : (set : FolderSet) (s : Symbol) (w : Word) → LongestProperEnd set (s ∷ w) (failure set (s ∷ w))
unfolding failure
failure-is set s w = let r = longest-end set w in record {
  is_end = end-longer s w (longest_end set w) r.is_end;
  proper = omega (arith, length-end r.is_end.front (longest_end set w) w r.is_end.joined);
  starts = r.starts;
  longest = λ v e l b. elim (end-cases s w v e) [ inl p ↦ absurd (omega (arith, ap length p)) | inr q ↦ r.longest v q b ];
}

pub failure-only : (set : FolderSet) (whole w v : Word) → LongestProperEnd set whole w → LongestProperEnd set whole v → w ≡ v
failure-only set whole w v p q =
    let a : length v ≤ length w = not-longer set w v (p.longest v q.is_end q.proper) q.starts in
    let b : length w ≤ length v = not-longer set v w (q.longest w p.is_end p.proper) p.starts in
    let l : length w ≡ length v = omega arith in
    ends_same p.is_end.front q.is_end.front w v (p.is_end.joined ∙ sym q.is_end.joined) l

-- each failure move reaches a strictly shorter word
pub failure-shorter : (set : FolderSet) (s : Symbol) (w : Word) → length (failure set (s ∷ w)) < length (s ∷ w)
failure-shorter set s w = (failure-is set s w).proper

-- what can follow the longest end can follow the word
pub longest-append : (set : FolderSet) (w v : Word) → longest_end set (longest_end set w ++ v) ≡ longest_end set (w ++ v)
unfolding longest_end
longest-append set [] v = refl
longest-append set (s ∷ w) v = cases (begins set (s ∷ w)) yes' (no' (longest-append set w v))
  where
    yes' : begins set (s ∷ w) ≡ true → longest_end set (longest_end set (s ∷ w) ++ v) ≡ longest_end set (s ∷ w ++ v)
    yes' h = ap (λ (l : Word). longest_end set (l ++ v)) (longest-yes set s w h)

    no' : longest_end set (longest_end set w ++ v) ≡ longest_end set (w ++ v) → begins set (s ∷ w) ≡ false → longest_end set (longest_end set (s ∷ w) ++ v) ≡ longest_end set (s ∷ w ++ v)
    no' r h =
        ap (λ (l : Word). longest_end set (l ++ v)) (longest-no set s w h)
        ∙ (r ∙ sym (longest-no set s (w ++ v) (cases (begins set (s ∷ (w ++ v))) (λ t. clash (begins-shorter set (s ∷ w) v t) h) (λ f. f))))

pub length-longest : (set : FolderSet) (w : Word) → length (longest_end set w) ≤ length w
length-longest set w = let e = (longest-end set w).is_end in length-end e.front (longest_end set w) w e.joined

-- the current prefix has at most one symbol more than names are open
pub length-prefix : (set : FolderSet) (names : List Name) → length (prefix_of set names) ≤ suc (length names)
unfolding prefix_of
length-prefix set names = omega (arith, length-longest set (word_of names), length-map names name)
