-- On the bytes of a well-formed set, the initial state is that of a fresh run: 1 where some path begins with `/`.
use Rattle.std.proofs.Common.{Some}
use Prim.Native.Nat.{ℕ, suc, ◌<◌}
use mathlib.Core.Path.{◌≡◌, refl, sym, ◌∙◌, ap, ap₂}
use mathlib.Core.Bool.{Bool, true, false, not, ◌&&◌, ◌||◌}
use mathlib.Core.Logic.{inl, inr}
use mathlib.Core.List.Memᴰ
use mathlib.Core.List.{List, [], ◌∷◌, ◌++◌, append_assoc, cons≢nil, Memᴰ}
use native.Mathlib.Omega.{arith}
use lib.ListN.{length, get_or, length-append}
use lib.Seq.{get_or-append_seam}
use Rattle.text.specs.Names.{within}
use Rattle.notation.specs.Limits.{max_number}
use Rattle.notation.specs.Sets.{child, descendant, Step, step, Path, folder, FolderSet, axis_of}
use Rattle.text.specs.Lists.{every, non_empty, any}
use Rattle.notation.specs.Form.{formed_step, formed_path, formed_folder, formed, paths_of, steps_of}
use Rattle.notation.specs.Layout.{set_part}
use Rattle.notation.specs.Reads.{is_descendant, step_at, path_count, stored_step}
use Rattle.notation.proofs.Laws.Refused.Fitting.{Fitting}
use Rattle.notation.proofs.Laws.Stored.Reads.{paths-read}
use Rattle.notation.proofs.Laws.Stored.LabelTable.{no_step}
use Rattle.notation.proofs.Laws.Stored.ReadSteps.{step-read}
use Rattle.model.specs.Words.{document, before, begins}
use Rattle.stored.specs.Automaton.{all_steps, Link, start_state, assembled}
use Rattle.stored.specs.Code.Masks.{rooted, any_rooted, with_start}
use Rattle.text.proofs.Laws.Tests.{both, clash, same_test}
use Rattle.text.proofs.Laws.Lists.{any-is, is_any}
use Rattle.model.proofs.Laws.Keywords.Words.{begins-is, is-begins}
use Rattle.model.proofs.Laws.Keywords.Labels.{begins-document}
use Rattle.stored.proofs.Laws.Tables.Assembled.{Sized, after-set, start-put}
use Rattle.stored.proofs.Laws.Building.Masked.{path-in, steps-here}

-- no path of a well-formed set is empty
every-is : {A : Type 0} (f : A → Bool) (l : List A) → every f l ≡ true → {x : A} → Memᴰ x l → f x ≡ true
unfolding every
every-is f [] h m = absurd (Memᴰ.not-nil m)
every-is f (a ∷ l) h {x} m =
    let b = both (f a) (every f l) h in
    elim (Memᴰ.cases_cons m) [ inl e ↦ ap f e ∙ b.0 | inr n ↦ every-is f l b.1 n ]

some-steps : (p : Path) → formed_path p ≡ true → non_empty p ≡ true
unfolding formed_path
some-steps p h = (both (non_empty p) (every formed_step p) h).0

folders-some : (fs : FolderSet) → every formed_folder fs ≡ true → {p : Path} → Memᴰ p (paths_of fs) → non_empty p ≡ true
unfolding every paths_of formed_folder
folders-some [] h m = absurd (Memᴰ.not-nil m)
folders-some (folder n ps ∷ fs) h {p} m =
    let b = both (formed_folder (folder n ps)) (every formed_folder fs) h in
    let c = both (within 1 max_number n) (non_empty ps && every formed_path ps) b.0 in
    let d = both (non_empty ps) (every formed_path ps) c.1 in
    elim (Memᴰ.append_cases ps m) [ inl t ↦ some-steps p (every-is formed_path ps d.1 t) | inr t ↦ folders-some fs b.1 t ]

pub paths-some : (s : FolderSet) → formed s ≡ true → {p : Path} → Memᴰ p (paths_of s) → non_empty p ≡ true
unfolding formed
paths-some s h m = folders-some s h m

-- the path begins with `/`
abbrev from_root : Path → Bool
from_root [] = false
from_root (x ∷ p) = not (is_descendant (axis_of x))

from-root : (p : Path) → from_root p ≡ true → before p ≡ document ∷ []
from-root [] h = clash h refl
from-root (step child t ∷ p) h = refl
from-root (step descendant t ∷ p) h = clash h refl

root-from : (p : Path) → before p ≡ document ∷ [] → from_root p ≡ true
root-from [] h = absurd (cons≢nil (sym h))
root-from (step child t ∷ p) h = refl
root-from (step descendant t ∷ p) h = absurd (cons≢nil (sym h))

any-root : (s : FolderSet) → any from_root (paths_of s) ≡ begins s (document ∷ [])
any-root s = same_test (any from_root (paths_of s)) (begins s (document ∷ [])) there back
  where
    there : any from_root (paths_of s) ≡ true → begins s (document ∷ []) ≡ true
    there t =
        let x = any-is from_root (paths_of s) t in
        is-begins s (document ∷ []) ((begins-document s).1 (record { path = x.0; of_set = x.1; root = from-root x.0 x.2 }))

    back : begins s (document ∷ []) ≡ true → any from_root (paths_of s) ≡ true
    back t =
        let r = (begins-document s).0 (begins-is s (document ∷ []) t) in
        is_any from_root (paths_of s) r.of_set (root-from r.path r.root)

module _ (s : FolderSet) (fit : Fitting s) (more : List ℕ) where
  root-read : (pre : List Path) (p : Path) (ps : List Path) → paths_of s ≡ pre ++ (p ∷ ps) → non_empty p ≡ true → rooted (set_part s ++ more) (length pre) ≡ from_root p
  unfolding rooted
  root-read pre [] ps e n = clash n refl
  root-read pre (x ∷ p) ps e n = let r = path-in s fit more pre (x ∷ p) ps e in rw (r.1, read)
    where
      steps : all_steps s ≡ steps_of pre ++ (x ∷ (p ++ steps_of ps))
      steps = steps-here s pre (x ∷ p) ps e

      below : length (steps_of pre) < length (all_steps s)
      below = omega (arith, ap length steps, length-append (steps_of pre) (x ∷ (p ++ steps_of ps)))

      first : get_or (all_steps s) (length (steps_of pre)) no_step ≡ x
      first = ap (λ (l : List Step). get_or l (length (steps_of pre)) no_step) steps ∙ get_or-append_seam (steps_of pre) x (p ++ steps_of ps) no_step

      read : step_at (set_part s ++ more) (length (steps_of pre)) ≡ Some (stored_step x)
      read = step-read s fit more (length (steps_of pre)) below ∙ ap (λ (y : Step). Some (stored_step y)) first

  all-roots : (ps pre : List Path) → paths_of s ≡ pre ++ ps → ((p : Path) → Memᴰ p ps → non_empty p ≡ true) → any_rooted (length ps) (length pre) (set_part s ++ more) ≡ any from_root ps
  unfolding any_rooted any
  all-roots [] pre e n = refl
  all-roots (p ∷ ps) pre e n =
      ap₂ (λ (a b : Bool). a || b) (root-read pre p ps e (n p (Memᴰ.head refl)))
      (ap (λ (k : ℕ). any_rooted (length ps) k (set_part s ++ more)) size ∙ all-roots ps (pre ++ (p ∷ [])) (e ∙ sym (append_assoc pre (p ∷ []) ps)) (λ q m. n q (Memᴰ.tail m)))
    where
      size : suc (length pre) ≡ length (pre ++ (p ∷ []))
      size = omega (arith, length-append pre (p ∷ []))

-- so the initial state is stored
pub start-written : (s : FolderSet) (fit : Fitting s) → formed s ≡ true → (hs : List ℕ) (ls : List Link) (ms : List ℕ) (f : ℕ) → Sized hs ls ms → (rest : List ℕ)
    → with_start (assembled s hs ls ms f ++ rest) ≡ assembled s hs ls ms (start_state s) ++ rest
unfolding with_start
start-written s fit well hs ls ms f z rest =
    let x = after-set s fit hs ls ms f rest in
    let state : any_rooted (path_count (assembled s hs ls ms f ++ rest)) 0 (assembled s hs ls ms f ++ rest) ≡ begins s (document ∷ []) =
    rw (x.1, paths-read s fit x.0) (all-roots s fit x.0 (paths_of s) [] refl (λ p m. paths-some s well m) ∙ any-root s) in
    rw state (start-put s fit hs ls ms f z rest (start_state s))
