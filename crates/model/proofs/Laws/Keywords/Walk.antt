-- The computed walk is the walk, and the only one; it ends in the longest end of the word with e, and its moves are paid by the word's length.
use Prim.Native.Nat.{ℕ, zero, suc, ◌+◌, ◌≤◌, pred}
use mathlib.Core.Path.{◌≡◌, refl, sym, ◌∙◌, ap}
use mathlib.Core.Bool.{true, false}
use mathlib.Core.List.{List, [], ◌∷◌, ◌++◌, map}
use native.Mathlib.Omega.{arith}
use lib.ListN.{length, length-append}
use Rattle.text.specs.Names.{Name}
use Rattle.notation.specs.Sets.{FolderSet}
use Rattle.model.specs.Words.{Symbol, document, name, Word, Begins, begins}
use Rattle.model.specs.Prefix.{word_of, LongestProperEnd, longest_end, prefix_of, failure}
use Rattle.model.specs.Walk.{followed_by, Walks, follows, stops, falls, Walked, walked, moves_of, arrived_at, counted, arrive, walk_in, walk}
use Rattle.text.proofs.Laws.Tests.{cases, clash}
use Rattle.model.proofs.Laws.Keywords.Words.{begins-is, is-begins}
use Rattle.model.proofs.Laws.Keywords.Prefix.{longest-yes, longest-no, longest-append, failure-is, failure-only, failure-shorter}

abbrev pub IsWalk : FolderSet → Name → Word → Walked → Type 0
IsWalk set e w r = Walks set e w (moves_of r) (arrived_at r)

not-begins : (set : FolderSet) (w : Word) → begins set w ≡ false → Begins set w → ⊥
not-begins set w h b = clash (is-begins set w b) h

no-begins : (set : FolderSet) (w : Word) → (Begins set w → ⊥) → begins set w ≡ false
no-begins set w f = cases (begins set w) (λ t. absurd (f (begins-is set w t))) (λ h. h)

is-counted : (r : Walked) {set : FolderSet} {e : Name} {s : Symbol} {w u : Word} → (Begins set (followed_by (s ∷ w) e) → ⊥) → LongestProperEnd set (s ∷ w) u → IsWalk set e u r → IsWalk set e (s ∷ w) (counted r)
is-counted (walked moves v) f p r = falls f p r

arrives-empty : (set : FolderSet) (e : Name) → IsWalk set e [] (arrive set [] e)
arrives-empty set e = cases (begins set (followed_by [] e))
    (λ h. rw h (follows (begins-is set (followed_by [] e) h)))
    (λ h. rw h (stops (not-begins set (followed_by [] e) h)))

walk-in : (steps : ℕ) (set : FolderSet) (w : Word) (e : Name) → length w ≤ steps → IsWalk set e w (walk_in steps set w e)
unfolding walk_in
walk-in zero set [] e l = arrives-empty set e
walk-in zero set (s ∷ w) e l = absurd (omega arith)
walk-in (suc steps) set [] e l = arrives-empty set e
walk-in (suc steps) set (s ∷ w) e l = cases (begins set (followed_by (s ∷ w) e))
    (λ h. rw h (follows (begins-is set (followed_by (s ∷ w) e) h)))
    (λ h. rw h (is-counted (walk_in steps set (failure set (s ∷ w)) e) (not-begins set (followed_by (s ∷ w) e) h) (failure-is set s w) (walk-in steps set (failure set (s ∷ w)) e (omega (arith, failure-shorter set s w)))))

-- the computed walk is the walk
pub walk_is : (set : FolderSet) (w : Word) (e : Name) → IsWalk set e w (walk set w e)
unfolding walk
walk_is set w e = walk-in (length w) set w e (omega arith)

-- moves and the new word's length, bar its last symbol, are paid by the old length
pub walk-paid : {set : FolderSet} {e : Name} {w v : Word} {moves : ℕ} → Walks set e w moves v → moves + pred (length v) ≤ length w
walk-paid {e} (follows {w = w} b) = omega (arith, length-append w (name e ∷ []))
walk-paid (stops f) = omega arith
walk-paid (falls {s = s} {w = w} f p r) = omega (arith, walk-paid r, p.proper)

-- from a word, the walk ends in the longest end of that word with e
pub walk-longest : {set : FolderSet} {e : Name} {w v : Word} {moves : ℕ} → Walks set e w moves v → v ≡ longest_end set (followed_by w e)
unfolding longest_end failure
walk-longest {set} {e} (follows {w = []} b) = sym (longest-yes set (name e) [] (is-begins set (followed_by [] e) b))
walk-longest {set} {e} (follows {w = s ∷ w} b) = sym (longest-yes set s (followed_by w e) (is-begins set (followed_by (s ∷ w) e) b))
walk-longest {set} {e} (stops f) = sym (longest-no set (name e) [] (no-begins set (followed_by [] e) f))
walk-longest {set} {e} (falls {s = s} {w = w} {u = u} f p r) =
    walk-longest r
    ∙ (ap (λ (l : Word). longest_end set (followed_by l e)) (failure-only set (s ∷ w) u (failure set (s ∷ w)) p (failure-is set s w))
    ∙ (longest-append set w (name e ∷ [])
    ∙ sym (longest-no set s (followed_by w e) (no-begins set (followed_by (s ∷ w) e) f))))

walk-in-only : {set : FolderSet} {e : Name} {w v : Word} {moves : ℕ} → Walks set e w moves v → (steps : ℕ) → length w ≤ steps → walk_in steps set w e ≡ walked moves v
unfolding walk_in
walk-in-only {set} {e} (follows {w = []} b) zero l = rw (is-begins set (followed_by [] e) b)
walk-in-only {set} {e} (follows {w = []} b) (suc k) l = rw (is-begins set (followed_by [] e) b)
walk-in-only {set} {e} (follows {w = s ∷ w} b) zero l = absurd (omega arith)
walk-in-only {set} {e} (follows {w = s ∷ w} b) (suc k) l = rw (is-begins set (followed_by (s ∷ w) e) b)
walk-in-only {set} {e} (stops f) zero l = rw (no-begins set (followed_by [] e) f)
walk-in-only {set} {e} (stops f) (suc k) l = rw (no-begins set (followed_by [] e) f)
walk-in-only {set} {e} (falls {s = s} {w = w} {u = u} f p r) zero l = absurd (omega arith)
walk-in-only {set} {e} (falls {s = s} {w = w} {u = u} f p r) (suc k) l =
    rw (no-begins set (followed_by (s ∷ w) e) f)
    (ap (λ (x : Word). counted (walk_in k set x e)) (failure-only set (s ∷ w) (failure set (s ∷ w)) u (failure-is set s w) p)
    ∙ ap counted (walk-in-only r k (omega (arith, p.proper))))

-- and the only one
pub walk-only : {set : FolderSet} {e : Name} {w v : Word} {moves : ℕ} → Walks set e w moves v → walk set w e ≡ walked moves v
unfolding walk
walk-only {w} r = walk-in-only r (length w) (omega arith)

-- the walk, move by move
pub walk-follows : (set : FolderSet) (w : Word) (e : Name) → begins set (followed_by w e) ≡ true → walk set w e ≡ walked zero (followed_by w e)
walk-follows set w e h = walk-only (follows (begins-is set (followed_by w e) h))

pub walk-stops : (set : FolderSet) (e : Name) → begins set (followed_by [] e) ≡ false → walk set [] e ≡ walked zero []
walk-stops set e h = walk-only (stops (not-begins set (followed_by [] e) h))

pub walk-falls : (set : FolderSet) (s : Symbol) (w : Word) (e : Name) → begins set (followed_by (s ∷ w) e) ≡ false → walk set (s ∷ w) e ≡ counted (walk set (failure set (s ∷ w)) e)
walk-falls set s w e h =
    let r = walk set (failure set (s ∷ w)) e in
    walk-only (falls (not-begins set (followed_by (s ∷ w) e) h) (failure-is set s w) (walk_is set (failure set (s ∷ w)) e)) ∙ whole r
  where
    whole : (r : Walked) → walked (suc (moves_of r)) (arrived_at r) ≡ counted r
    whole (walked m v) = refl

map_snoc : (names : List Name) (e : Name) → map name (names ++ (e ∷ [])) ≡ followed_by (map name names) e
map_snoc [] e = refl
map_snoc (n ∷ names) e = ap (λ (l : Word). name n ∷ l) (map_snoc names e)

-- the walk from the current prefix ends in the current prefix of the names with the new one
pub walk-current : (set : FolderSet) (names : List Name) (e : Name) → arrived_at (walk set (prefix_of set names) e) ≡ prefix_of set (names ++ (e ∷ []))
unfolding prefix_of
walk-current set names e =
    walk-longest (walk_is set (prefix_of set names) e)
    ∙ (longest-append set (word_of names) (name e ∷ [])
    ∙ ap (λ (l : Word). longest_end set (document ∷ l)) (sym (map_snoc names e)))

pub walk-moves : (set : FolderSet) (w : Word) (e : Name) → moves_of (walk set w e) + pred (length (arrived_at (walk set w e))) ≤ length w
walk-moves set w e = walk-paid (walk_is set w e)

-- moves + new length ≤ old length + 1
pub walk-bound : (set : FolderSet) (w : Word) (e : Name) → moves_of (walk set w e) + length (arrived_at (walk set w e)) ≤ length w + 1
walk-bound set w e = omega (arith, walk-moves set w e)

-- the failure function of a word with one name more is where a walk from the word's own failure ends
pub failure-extends : (set : FolderSet) (s : Symbol) (w : Word) (e : Name) → failure set (followed_by (s ∷ w) e) ≡ arrived_at (walk set (failure set (s ∷ w)) e)
unfolding failure
failure-extends set s w e = sym (walk-longest (walk_is set (longest_end set w) e) ∙ longest-append set w (name e ∷ []))

-- and of a word of one symbol it is empty
pub failure-single : (set : FolderSet) (s : Symbol) → failure set (s ∷ []) ≡ []
unfolding failure longest_end
failure-single set s = refl
