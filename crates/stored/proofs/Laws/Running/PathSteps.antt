-- Rows of bits over all steps of some paths, by the path and the step within it.
use Prim.Native.Nat.{ℕ, zero, suc, ◌+◌, ◌-◌, ◌≤◌, ◌<◌}
use mathlib.Core.Path.{◌≡◌, refl, sym, ◌∙◌, ap}
use mathlib.Core.Bool.{Bool, true, false, ◌&&◌}
use mathlib.Core.List.{List, [], ◌∷◌, ◌++◌}
use native.Mathlib.Omega.{arith}
use native.Mathlib.Nat.{not-suc-le-zero, le_of_suc-le-suc}
use borrow.Author.Tests.{ltb-true, ltb-false, lt-ltb, le-ltb, ne_eqb}
use lib.Dec.{ltb, eqb, eqb-suc-suc}
use lib.ListN.{length, get_or, take, length-append}
use Rattle.notation.specs.Sets.{child, star, Step, step, Path}
use Rattle.notation.specs.Form.{steps_of}
use Rattle.notation.proofs.Laws.Stored.PathTable.{steps_before}
use Rattle.stored.specs.Automaton.{Role, role, roles_from, roles_in, role_at}
use Rattle.stored.specs.Run.{step_bit, match_bit}
use Rattle.text.proofs.Laws.Tests.{cases}
use Rattle.stored.proofs.Laws.Building.Masked.{all-roles-length, roles-length}

abbrev pub any_step : Step
any_step = step child star

-- step k (from 0) of the path of a place is step i of all
pub record Located (ps : List Path) (i : ℕ) : Type 0 where
  pub place : ℕ
  pub k : ℕ
  pub there : place < length ps
  pub within : k < length (get_or ps place [])
  pub is : i ≡ steps_before ps place + k

pub locate : (ps : List Path) (i : ℕ) → i < length (steps_of ps) → Located ps i
unfolding steps_of
locate [] i h = absurd (not-suc-le-zero h)
locate (p ∷ ps) i h = cases (ltb i (length p)) (λ t. record { place = 0; k = i; there = omega arith; within = ltb-true i (length p) t; is = omega arith }) (λ t.
    let le : length p ≤ i = ltb-false i (length p) t in
    let r = locate ps (i - length p) (omega (arith, length-append p (steps_of ps))) in
    record {
      place = suc r.place;
      k = r.k;
      there = omega (arith, r.there);
      within = r.within;
      is = omega (arith, r.is, length-append p (steps_of (take r.place ps)));
    })

module _ (f : Path → ℕ → Bool) where
  bit-first : (p : Path) (ps : List Path) (i : ℕ) → i < length p → step_bit f (p ∷ ps) i ≡ f p (suc i)
  unfolding step_bit
  bit-first p ps i h = rw (lt-ltb i (length p) h)

  bit-later : (p : Path) (ps : List Path) (i : ℕ) → length p ≤ i → step_bit f (p ∷ ps) i ≡ step_bit f ps (i - length p)
  unfolding step_bit
  bit-later p ps i h = rw (le-ltb i (length p) h)

  pub bit_at : (ps : List Path) (place k : ℕ) → place < length ps → k < length (get_or ps place [])
      → step_bit f ps (steps_before ps place + k) ≡ f (get_or ps place []) (suc k)
  unfolding steps_of
  bit_at [] place k h w = absurd (not-suc-le-zero h)
  bit_at (p ∷ ps) zero k h w = ap (step_bit f (p ∷ ps)) (omega arith) ∙ bit-first p ps k w
  bit_at (p ∷ ps) (suc place) k h w =
      let e : length (p ++ steps_of (take place ps)) + k - length p ≡ steps_before ps place + k = omega (arith, length-append p (steps_of (take place ps))) in
      bit-later p ps (length (p ++ steps_of (take place ps)) + k) (omega (arith, length-append p (steps_of (take place ps))))
      ∙ ap (step_bit f ps) e ∙ bit_at ps place k (le_of_suc-le-suc h) w

  pub bit_past : (ps : List Path) (i : ℕ) → length (steps_of ps) ≤ i → step_bit f ps i ≡ false
  unfolding step_bit steps_of
  bit_past [] i h = refl
  bit_past (p ∷ ps) i h =
      let le : length p ≤ i = omega (arith, length-append p (steps_of ps)) in
      rw (le-ltb i (length p) le) (bit_past ps (i - length p) (omega (arith, length-append p (steps_of ps))))

module _ (m : ℕ → Bool) where
  pub match-at : (ps : List Path) (first place k : ℕ) → place < length ps → k < length (get_or ps place [])
      → match_bit m first ps (steps_before ps place + k) ≡ (eqb (suc k) (length (get_or ps place [])) && m (first + place))
  unfolding steps_of match_bit
  match-at [] first place k h w = absurd (not-suc-le-zero h)
  match-at (p ∷ ps) first zero k h w =
      let e : 0 + k ≡ k = omega arith in
      let z : first + 0 ≡ first = omega arith in
      rw (e, z, lt-ltb k (length p) w)
  match-at (p ∷ ps) first (suc place) k h w =
      let n = length (p ++ steps_of (take place ps)) + k in
      let le : length p ≤ n = omega (arith, length-append p (steps_of (take place ps))) in
      let e : n - length p ≡ steps_before ps place + k = omega (arith, length-append p (steps_of (take place ps))) in
      let z : first + suc place ≡ suc first + place = omega arith in
      rw (le-ltb n (length p) le, e, z) (match-at ps (suc first) place k (le_of_suc-le-suc h) w)

  pub match-past : (ps : List Path) (first i : ℕ) → length (steps_of ps) ≤ i → match_bit m first ps i ≡ false
  unfolding steps_of match_bit
  match-past [] first i h = refl
  match-past (p ∷ ps) first i h =
      let le : length p ≤ i = omega (arith, length-append p (steps_of ps)) in
      rw (le-ltb i (length p) le) (match-past ps (suc first) (i - length p) (omega (arith, length-append p (steps_of ps))))

-- the role of step k of a path
abbrev pub role_of : Path → ℕ → Role
role_of p k = role (get_or p k any_step) (eqb k 0) (eqb (suc k) (length p))

abbrev first-or : Bool → ℕ → Bool
first-or first zero = first
first-or first (suc k) = false

module _ (f : Role → Bool) where
  role-left : (rs qs : List Role) (i : ℕ) → i < length rs → role_at f (rs ++ qs) i ≡ role_at f rs i
  unfolding role_at
  role-left [] qs i h = absurd (not-suc-le-zero h)
  role-left (r ∷ rs) qs zero h = refl
  role-left (r ∷ rs) qs (suc i) h = role-left rs qs i (le_of_suc-le-suc h)

  role-right : (rs qs : List Role) (i : ℕ) → role_at f (rs ++ qs) (length rs + i) ≡ role_at f qs i
  unfolding role_at
  role-right [] qs i = ap (role_at f qs) (omega arith)
  role-right (r ∷ rs) qs i =
      let e : suc (length rs) + i ≡ suc (length rs + i) = omega arith in
      rw e (role-right rs qs i)

  role-in : (first : Bool) (p : Path) (k : ℕ) → k < length p
      → role_at f (roles_from first p) k ≡ f (role (get_or p k any_step) (first-or first k) (eqb (suc k) (length p)))
  unfolding role_at roles_from
  role-in first [] k h = absurd (not-suc-le-zero h)
  role-in first (s ∷ []) zero h = refl
  role-in first (s ∷ []) (suc k) h = absurd (omega arith)
  role-in first (s ∷ t ∷ p) zero h = ap (λ (b : Bool). f (role s first b)) (sym (ne_eqb 1 (suc (suc (length p))) (λ e. omega arith)))
  role-in first (s ∷ t ∷ p) (suc k) h =
      role-in false (t ∷ p) k (le_of_suc-le-suc h)
      ∙ ap (λ (b : Bool). f (role (get_or (t ∷ p) k any_step) b (eqb (suc k) (length (t ∷ p))))) (same k)
      ∙ ap (λ (b : Bool). f (role (get_or (t ∷ p) k any_step) false b)) (sym (eqb-suc-suc (suc k) (suc (length p))))
    where
      same : (k : ℕ) → first-or false k ≡ false
      same zero = refl
      same (suc k) = refl

first-is : (k : ℕ) → first-or true k ≡ eqb k 0
first-is zero = refl
first-is (suc k) = sym (ne_eqb (suc k) 0 (λ e. omega arith))

module _ (f : Role → Bool) where
  pub role-at : (ps : List Path) (place k : ℕ) → place < length ps → k < length (get_or ps place [])
      → role_at f (roles_in ps) (steps_before ps place + k) ≡ f (role_of (get_or ps place []) k)
  unfolding steps_of roles_in
  role-at [] place k h w = absurd (not-suc-le-zero h)
  role-at (p ∷ ps) zero k h w =
      let e : 0 + k ≡ k = omega arith in
      rw (e, role-left f (roles_from true p) (roles_in ps) k (omega (arith, roles-length true p)))
      (role-in f true p k w ∙ ap (λ (b : Bool). f (role (get_or p k any_step) b (eqb (suc k) (length p)))) (first-is k))
  role-at (p ∷ ps) (suc place) k h w =
      let e : length (p ++ steps_of (take place ps)) + k ≡ length (roles_from true p) + (steps_before ps place + k) =
      omega (arith, length-append p (steps_of (take place ps)), roles-length true p) in
      rw e (role-right f (roles_from true p) (roles_in ps) (steps_before ps place + k) ∙ role-at ps place k (le_of_suc-le-suc h) w)

  role-past-from : (rs : List Role) (i : ℕ) → length rs ≤ i → role_at f rs i ≡ false
  unfolding role_at
  role-past-from [] i h = refl
  role-past-from (r ∷ rs) zero h = absurd (omega arith)
  role-past-from (r ∷ rs) (suc i) h = role-past-from rs i (le_of_suc-le-suc h)

  pub role-past : (ps : List Path) (i : ℕ) → length (steps_of ps) ≤ i → role_at f (roles_in ps) i ≡ false
  role-past ps i h = role-past-from (roles_in ps) i (omega (arith, all-roles-length ps))
