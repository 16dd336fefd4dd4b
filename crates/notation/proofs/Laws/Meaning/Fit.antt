-- The computed test and the definition by positions agree, for every path, step and list of names.
use Prim.Native.Nat.{ℕ, zero, suc, ◌≤◌, ◌<◌, pred}
use native.Mathlib.Omega.{arith}
use mathlib.Core.Path.{◌≡◌, refl, sym, ◌∙◌, subst}
use mathlib.Core.Logic.{◌↔◌}
use mathlib.Core.Bool.{Bool, true, ◌&&◌, true≢false, false≢true, and-eq-true_iff}
use mathlib.Core.List.{List, [], ◌∷◌}
use lib.Dec.{leb}
use borrow.Author.Tests.{le-leb, leb-true}
use lib.ListN.{length, take, get_or}
use lib.Seq.{length-take-le, take-take}
use Rattle.text.specs.Names.{Name}
use Rattle.notation.specs.Sets.{Axis, child, descendant, Test, label, star, Path, axis_of, test_of}
use Rattle.notation.specs.Fit.{Takes, nth_step, name_at, Active, Fits}
use Rattle.notation.specs.Activity.{takes, by_axis, allowed, here, is_empty, active, seen, fits}
use Rattle.text.proofs.Laws.Bytes.SameName.{same_name-is}
use Rattle.notation.proofs.Laws.Meaning.Innermost.{active-none, active-zero, active-last, seen-is}
use Rattle.notation.proofs.Laws.Meaning.LastStep.{on_first, before, onward, positive}

-- a test takes a name exactly when it is computed so
pub takes-is : (t : Test) (n : Name) → (takes t n ≡ true) ↔ Takes t n
takes-is (label l) n = same_name-is l n
takes-is star n = (λ e. tt, λ u. refl)

-- what the test of one element says: the step is there, takes the name, and is allowed
pub here-is : (p : Path) (root : Bool) (below above : ℕ → Bool) (e : Name) (k : ℕ)
    → (here p root below above e (suc k) ≡ true)
    ↔ ((suc k ≤ length p) × Takes (test_of (nth_step p (suc k))) e × (allowed p root below above k ≡ true))
unfolding here
here-is p root below above e k = (
  λ t.
      let room = leb (suc k) (length p) in
      let test = takes (test_of (nth_step p (suc k))) e in
      let may = allowed p root below above k in
      let one = (and-eq-true_iff room (test && may)).0 t in
      let two = (and-eq-true_iff test may).0 one.1 in
      (leb-true (suc k) (length p) one.0, (takes-is (test_of (nth_step p (suc k))) e).0 two.0, two.1),
  λ h. rw (le-leb (suc k) (length p) h.0, (takes-is (test_of (nth_step p (suc k))) e).1 h.1, h.2),
)

is_empty-is : (names : List Name) → (is_empty names ≡ true) ↔ (length names ≡ 0)
is_empty-is [] = (λ e. refl, λ e. refl)
is_empty-is (n ∷ ns) = (λ e. absurd (false≢true e), λ e. absurd (omega arith))

descendant≢child : descendant ≡ child → ⊥
descendant≢child e = let z : ◌≡◌ {A = ℕ} 0 1 = cc in omega arith

-- a first step by `/` asks for the outermost element
root_is : (a : Axis) (names : List Name) (n : ℕ) → length names ≡ suc n
    → (by_axis a (is_empty (take n names)) true ≡ true) ↔ (a ≡ child → length names ≡ 1)
root_is child names n e = (
  λ t c. omega (arith, (is_empty-is (take n names)).0 t, length-take-le n names (omega arith)),
  λ h. (is_empty-is (take n names)).1 (omega (arith, h refl, length-take-le n names (omega arith))),
)
root_is descendant names n e = (λ t c. absurd (descendant≢child c), λ h. refl)

-- where a step is active, an element is open
some-open : (p : Path) (s : ℕ) (names : List Name) → active p s names ≡ true → 1 ≤ length names
some-open p s [] t = absurd (true≢false (sym t ∙ active-none p s))
some-open p s (n ∷ ns) t = omega arith

-- a further step asks for the step before it, on the element around this one (`/`) or on any further out (`//`)
module _ (p : Path) (s : ℕ) (names : List Name) (n : ℕ) (less : n ≤ length names) where
  abbrev Link : Axis → Type 0
  Link a = (k : ℕ) × (1 ≤ k) × (k ≤ n) × (active p s (take k names) ≡ true) × (a ≡ child → k ≡ n)

  link-to : (a : Axis) → by_axis a (active p s (take n names)) (seen p s (take n names)) ≡ true → Link a
  link-to child t = (n, omega (arith, some-open p s (take n names) t, length-take-le n names less), omega arith, t, λ e. refl)
  link-to descendant t =
      let (k, pos, le, a) = (seen-is p s (take n names)).0 t in
      let le' : k ≤ n = omega (arith, length-take-le n names less) in
      (k, pos, le', rw take-take at a, λ e. absurd (descendant≢child e))

  link-from : (a : Axis) → Link a → by_axis a (active p s (take n names)) (seen p s (take n names)) ≡ true
  link-from child (k, pos, le, t, same) = rw (← same refl) t
  link-from descendant (k, pos, le, t, same) =
      (seen-is p s (take n names)).1 (k, pos, omega (arith, length-take-le n names less), rw take-take t)

-- what an active step asks of the innermost element and of those around it
module _ (p : Path) (names : List Name) (n : ℕ) (e : length names ≡ suc n) where
  abbrev Asked : ℕ → Type 0
  Asked k = (suc k ≤ length p) × Takes (test_of (nth_step p (suc k))) (name_at names (length names))
      × (allowed p (is_empty (take n names)) (λ i. active p i (take n names)) (λ i. seen p i (take n names)) k ≡ true)

  asked : (k : ℕ) → (active p (suc k) names ≡ true) ↔ Asked k
  asked k =
      let there = here-is p (is_empty (take n names)) (λ i. active p i (take n names)) (λ i. seen p i (take n names)) (get_or names n []) k in (
        λ t.
            let h = there.0 (sym (active-last p (suc k) names n e) ∙ t) in
            (h.0, subst (λ (m : ℕ). Takes (test_of (nth_step p (suc k))) (name_at names m)) (sym e) h.1, h.2),
        λ h. active-last p (suc k) names n e ∙ there.1
            (h.0, subst (λ (m : ℕ). Takes (test_of (nth_step p (suc k))) (name_at names m)) e h.1, h.2),
      )

-- by induction over the steps, from the last to the first
sound : (p : Path) (s : ℕ) (names : List Name) → active p s names ≡ true → Active p s names
sound p zero names t = absurd (true≢false (sym t ∙ active-zero p names))
sound p (suc zero) names t =
    let some : 1 ≤ length names = some-open p 1 names t in
    let n : ℕ = pred (length names) in
    let e : length names ≡ suc n = omega arith in
    let (room, test, may) = (asked p names n e zero).0 t in
    on_first p names some room test ((root_is (axis_of (nth_step p 1)) names n e).0 may)
sound p (suc (suc j)) names t =
    let some : 1 ≤ length names = some-open p (suc (suc j)) names t in
    let n : ℕ = pred (length names) in
    let e : length names ≡ suc n = omega arith in
    let (room, test, may) = (asked p names n e (suc j)).0 t in
    let (k, pos, le, a, near) = link-to p (suc j) names n (omega arith) (axis_of (nth_step p (suc (suc j)))) may in
    onward p j names k (sound p (suc j) (take k names) a) (omega arith) room test (λ c. omega (arith, near c))

complete : (p : Path) (s : ℕ) (names : List Name) → Active p s names → active p s names ≡ true
complete p zero names a = absurd (omega (arith, a.there.0))
complete p (suc zero) names a =
    let n : ℕ = pred (length names) in
    let e : length names ≡ suc n = omega (arith, a.innermost, a.within) in
    (asked p names n e zero).1 (
      a.there.1,
      subst (λ (m : ℕ). Takes (test_of (nth_step p 1)) (name_at names m)) a.innermost (a.taken 1 (omega arith) (omega arith)),
      (root_is (axis_of (nth_step p 1)) names n e).1 (λ c. omega (arith, a.innermost, a.first c)),
    )
complete p (suc (suc j)) names a =
    let n : ℕ = pred (length names) in
    let k : ℕ = a.d (suc j) in
    let last : a.d (suc (suc j)) ≡ length names = a.innermost in
    let less : k < length names = omega (arith, a.rising (suc j) (omega arith) (omega arith)) in
    let e : length names ≡ suc n = omega arith in
    (asked p names n e (suc j)).1 (
      a.there.1,
      subst (λ (m : ℕ). Takes (test_of (nth_step p (suc (suc j)))) (name_at names m)) last (a.taken (suc (suc j)) (omega arith) (omega arith)),
      link-from p (suc j) names n (omega arith) (axis_of (nth_step p (suc (suc j)))) (
        k,
        positive a (suc j) (omega arith) (omega arith),
        omega arith,
        complete p (suc j) (take k names) (before p j names a),
        λ c. omega (arith, a.next (suc j) (omega arith) (omega arith) c),
      ),
    )

-- a step is active by positions exactly when it is computed so
pub active-is : (p : Path) (s : ℕ) (names : List Name) → Active p s names ↔ (active p s names ≡ true)
active-is p s names = (complete p s names, sound p s names)

-- a path fits by positions exactly when it is computed so
pub fits-is : (p : Path) (names : List Name) → Fits p names ↔ (fits p names ≡ true)
fits-is p names = active-is p (length p) names
