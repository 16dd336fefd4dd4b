-- The bits that an open computes are those of the names with one more: active steps, steps seen, matches.
use Prim.Native.Nat.{ℕ, zero, suc, ◌+◌, ◌*◌, ◌≤◌, ◌<◌}
use mathlib.Core.Path.{◌≡◌, refl, sym, ◌∙◌, ap, ap₂, subst}
use mathlib.Core.Bool.{Bool, true, false, not, ◌&&◌, ◌||◌, or_comm, and-false, and-true}
use mathlib.Core.List.{List, [], ◌∷◌, ◌++◌}
use native.Mathlib.Omega.{arith}
use native.Mathlib.Nat.{add-suc}
use borrow.Author.Tests.{ltb-true, ltb-false, le-leb, ne_eqb, eqb-true}
use lib.Dec.{ltb, eqb}
use lib.ListN.{length, get_or}
use lib.Seq.{take-length}
use Rattle.text.specs.Names.{Name}
use Rattle.notation.specs.Sets.{Axis, child, descendant, Test, label, star, Path, FolderSet, axis_of, test_of}
use Rattle.notation.specs.Form.{paths_of, steps_of}
use Rattle.notation.specs.Reads.{is_descendant, is_star}
use Rattle.notation.specs.Fit.{nth_step}
use Rattle.notation.specs.Activity.{takes, by_axis, allowed, here, is_empty, active, seen, fits}
use Rattle.notation.proofs.Laws.Meaning.Innermost.{active-more, seen_more}
use Rattle.notation.proofs.Laws.Stored.PathTable.{steps_before}
use Rattle.model.specs.Limits.{max_depth}
use Rattle.stored.specs.Automaton.{mask_size, Role, roles, role_at, is_star_role, is_child_role, is_descendant_role, is_anywhere_role, is_root_role, is_last_role, star_mask, child_mask, descendant_mask, anywhere_mask, root_mask, last_mask}
use Rattle.stored.specs.Run.{step_bit, match_bit, active_bits, seen_bits, run_with}
use Rattle.stored.specs.RunCalls.{depth_of, active_at, seen_at, candidate, shifted, permitted, now_active, now_seen, now_matched}
use Rattle.text.proofs.Laws.Tests.{cases}
use Rattle.stored.proofs.Laws.Running.PathSteps.{any_step, Located, locate, bit_at, bit_past, match-at, match-past, role_of, role-at, role-past}
use Rattle.stored.proofs.Laws.Running.RunBytes.{Short, depth-read, active-at, seen-at, matched-read}
use Rattle.stored.proofs.Laws.Running.Means.{Means}
use Rattle.stored.proofs.Laws.Running.LabelSteps.{is_label, is_label_role, label-bits}

-- may the step of this role stand here, where the step before is active (x), or was here or further out (y)
abbrev permits : Role → Bool → Bool → Bool → Bool
permits r root x y = (is_child_role r && x) || ((is_descendant_role r && y) || (is_anywhere_role r || (root && is_root_role r)))

first-axis : (d : Axis) (root : Bool) → (is_descendant d || (root && not (is_descendant d))) ≡ by_axis d root true
first-axis child true = refl
first-axis child false = refl
first-axis descendant root = refl

later-axis : (d : Axis) (root x y : Bool) → ((not (is_descendant d) && x) || ((is_descendant d && y) || (root && false))) ≡ by_axis d x y
later-axis child true true y = refl
later-axis child true false y = refl
later-axis child false true y = refl
later-axis child false false y = refl
later-axis descendant true x true = refl
later-axis descendant true x false = refl
later-axis descendant false x true = refl
later-axis descendant false x false = refl

permits-allowed : (p : Path) (root : Bool) (below above : ℕ → Bool) (x y : Bool) (k : ℕ) → ((j : ℕ) → k ≡ suc j → x ≡ below (suc j)) → ((j : ℕ) → k ≡ suc j → y ≡ above (suc j))
    → permits (role_of p k) root x y ≡ allowed p root below above k
permits-allowed p root below above x y zero f g = first-axis (axis_of (nth_step p 1)) root
permits-allowed p root below above x y (suc j) f g =
    rw (ne_eqb (suc j) 0 (λ e. omega arith), f j refl, g j refl) (later-axis (axis_of (nth_step p (suc (suc j)))) root (below (suc j)) (above (suc j)))

takes-is : (t : Test) (e : Name) → (is_star t || is_label e t) ≡ takes t e
takes-is (label n) e = refl
takes-is star e = refl

empty-is : (names : List Name) → eqb (length names) 0 ≡ is_empty names
empty-is [] = refl
empty-is (n ∷ names) = ne_eqb (suc (length names)) 0 (λ e. omega arith)

-- the row of bits of a step's next, by the step's place
shifted_at : (f : Path → ℕ → Bool) (ps : List Path) (place k : ℕ) → place < length ps → k < length (get_or ps place []) → (j : ℕ) → k ≡ suc j
    → shifted (step_bit f ps) (steps_before ps place + k) ≡ f (get_or ps place []) (suc j)
shifted_at f ps place k h w j e = rw (e, add-suc) (bit_at f ps place j h (omega arith))

module _ (s : FolderSet) (a : List ℕ) (m : Means s a) (names : List Name) (matched : ℕ → Bool) (deep : length names ≤ max_depth) (short : Short names) (rest : List ℕ) (e : Name) where
  abbrev run : List ℕ
  run = run_with s names matched ++ rest

  abbrev ps : List Path
  ps = paths_of s

  candidate-is : (i : ℕ) → i < 8 * mask_size → candidate a e i ≡ (role_at is_star_role (roles s) i || role_at (is_label_role e) (roles s) i)
  unfolding candidate
  candidate-is i h = rw (m.tables.masks star_mask (omega arith) i h, m.tables.marked e i, label-bits s e i)

  active-here : (i : ℕ) → i < 8 * mask_size → active_at run (length names) i ≡ active_bits s names i
  active-here i h = active-at s names matched deep short rest (length names) (omega arith) i h ∙ ap (λ (l : List Name). active_bits s l i) (take-length names)

  seen_here : (i : ℕ) → i < 8 * mask_size → seen_at run (length names) i ≡ seen_bits s names i
  seen_here i h = seen-at s names matched deep short rest (length names) (omega arith) i h ∙ ap (λ (l : List Name). seen_bits s l i) (take-length names)

  shifted-is : (f g : ℕ → Bool) → ((i : ℕ) → i < 8 * mask_size → f i ≡ g i) → (i : ℕ) → i < 8 * mask_size → shifted f i ≡ shifted g i
  shifted-is f g h zero k = refl
  shifted-is f g h (suc i) k = h i (omega arith)

  -- what the masks and the row below say of step i
  abbrev allowed_bit : ℕ → Bool
  allowed_bit i = (role_at is_child_role (roles s) i && shifted (active_bits s names) i) || ((role_at is_descendant_role (roles s) i && shifted (seen_bits s names) i) || (role_at is_anywhere_role (roles s) i || (is_empty names && role_at is_root_role (roles s) i)))

  abbrev taken_bit : ℕ → Bool
  taken_bit i = role_at is_star_role (roles s) i || role_at (is_label_role e) (roles s) i

  permitted-is : (i : ℕ) → i < 8 * mask_size → permitted a run (depth_of run) i ≡ allowed_bit i
  unfolding permitted
  permitted-is i h =
      rw (
        depth-read s names matched deep short rest,
        m.tables.masks child_mask (omega arith) i h,
        m.tables.masks descendant_mask (omega arith) i h,
        m.tables.masks anywhere_mask (omega arith) i h,
        m.tables.masks root_mask (omega arith) i h,
        shifted-is (active_at run (length names)) (active_bits s names) active-here i h,
        shifted-is (seen_at run (length names)) (seen_bits s names) seen_here i h,
        empty-is names,
      )

  -- at a step of a path
  active-step : (p : Path) (k : ℕ) → k < length p → (x y : Bool) → ((j : ℕ) → k ≡ suc j → x ≡ active p (suc j) names) → ((j : ℕ) → k ≡ suc j → y ≡ seen p (suc j) names)
      → ((is_star_role (role_of p k) || is_label_role e (role_of p k)) && permits (role_of p k) (is_empty names) x y) ≡ active p (suc k) (names ++ (e ∷ []))
  unfolding here
  active-step p k h x y f g =
      rw (
        active-more p (suc k) names e,
        le-leb (suc k) (length p) h,
        takes-is (test_of (get_or p k any_step)) e,
        permits-allowed p (is_empty names) (λ i. active p i names) (λ i. seen p i names) x y k f g,
      )

  active-placed : (place k : ℕ) → place < length ps → k < length (get_or ps place []) → (taken_bit (steps_before ps place + k) && allowed_bit (steps_before ps place + k)) ≡ active_bits s (names ++ (e ∷ [])) (steps_before ps place + k)
  active-placed place k h w =
      rw (
        role-at is_star_role ps place k h w,
        role-at (is_label_role e) ps place k h w,
        role-at is_child_role ps place k h w,
        role-at is_descendant_role ps place k h w,
        role-at is_anywhere_role ps place k h w,
        role-at is_root_role ps place k h w,
        bit_at (λ p k. active p k (names ++ (e ∷ []))) ps place k h w,
      )
      (active-step (get_or ps place []) k w (shifted (active_bits s names) (steps_before ps place + k)) (shifted (seen_bits s names) (steps_before ps place + k))
      (shifted_at (λ p k. active p k names) ps place k h w)
      (shifted_at (λ p k. seen p k names) ps place k h w))

  -- the active steps
  pub now-active : (i : ℕ) → i < 8 * mask_size → now_active a run e i ≡ active_bits s (names ++ (e ∷ [])) i
  unfolding now_active
  now-active i h = ap₂ ◌&&◌ (candidate-is i h) (permitted-is i h) ∙ (cases (ltb i (length (steps_of ps))) (λ t. inside (locate ps i (ltb-true i (length (steps_of ps)) t))) (λ t. past (ltb-false i (length (steps_of ps)) t)))
    where
      past : length (steps_of ps) ≤ i → (taken_bit i && allowed_bit i) ≡ active_bits s (names ++ (e ∷ [])) i
      past le = rw (role-past is_star_role ps i le, role-past (is_label_role e) ps i le, bit_past (λ p k. active p k (names ++ (e ∷ []))) ps i le)

      inside : Located ps i → (taken_bit i && allowed_bit i) ≡ active_bits s (names ++ (e ∷ [])) i
      inside l = subst (λ (j : ℕ). (taken_bit j && allowed_bit j) ≡ active_bits s (names ++ (e ∷ [])) j) (sym l.is) (active-placed l.place l.k l.there l.within)

  -- the steps seen
  seen_placed : (place k : ℕ) → place < length ps → k < length (get_or ps place [])
      → (seen_bits s names (steps_before ps place + k) || active_bits s (names ++ (e ∷ [])) (steps_before ps place + k)) ≡ seen_bits s (names ++ (e ∷ [])) (steps_before ps place + k)
  seen_placed place k h w =
      rw (
        bit_at (λ p k. seen p k names) ps place k h w,
        bit_at (λ p k. active p k (names ++ (e ∷ []))) ps place k h w,
        bit_at (λ p k. seen p k (names ++ (e ∷ []))) ps place k h w,
      )
      (or_comm (seen (get_or ps place []) (suc k) names) (active (get_or ps place []) (suc k) (names ++ (e ∷ []))) ∙ sym (seen_more (get_or ps place []) (suc k) names e))

  pub now-seen : (i : ℕ) → i < 8 * mask_size → now_seen a run e i ≡ seen_bits s (names ++ (e ∷ [])) i
  unfolding now_seen
  now-seen i h =
      ap₂ ◌||◌ (ap (λ (d : ℕ). seen_at run d i) (depth-read s names matched deep short rest) ∙ seen_here i h) (now-active i h)
      ∙ (cases (ltb i (length (steps_of ps))) (λ t. inside (locate ps i (ltb-true i (length (steps_of ps)) t))) (λ t. past (ltb-false i (length (steps_of ps)) t)))
    where
      past : length (steps_of ps) ≤ i → (seen_bits s names i || active_bits s (names ++ (e ∷ [])) i) ≡ seen_bits s (names ++ (e ∷ [])) i
      past le = rw (bit_past (λ p k. seen p k names) ps i le, bit_past (λ p k. active p k (names ++ (e ∷ []))) ps i le, bit_past (λ p k. seen p k (names ++ (e ∷ []))) ps i le)

      inside : Located ps i → (seen_bits s names i || active_bits s (names ++ (e ∷ [])) i) ≡ seen_bits s (names ++ (e ∷ [])) i
      inside l = subst (λ (j : ℕ). (seen_bits s names j || active_bits s (names ++ (e ∷ [])) j) ≡ seen_bits s (names ++ (e ∷ [])) j) (sym l.is) (seen_placed l.place l.k l.there l.within)

  -- the matches: those before, and the paths that fit now
  abbrev now_fit : ℕ → Bool
  now_fit place = matched place || fits (get_or ps place []) (names ++ (e ∷ []))

  last-matched : (p : Path) (k : ℕ) (b : Bool) → ((eqb (suc k) (length p) && b) || (active p (suc k) (names ++ (e ∷ [])) && eqb (suc k) (length p))) ≡ (eqb (suc k) (length p) && (b || fits p (names ++ (e ∷ []))))
  last-matched p k b = cases (eqb (suc k) (length p))
      (λ t. rw (t, and-true (active p (suc k) (names ++ (e ∷ [])))) (ap (λ (n : ℕ). b || active p n (names ++ (e ∷ []))) (eqb-true (suc k) (length p) t)))
      (λ t. rw (t, and-false (active p (suc k) (names ++ (e ∷ [])))))

  matched-placed : (place k : ℕ) → place < length ps → k < length (get_or ps place [])
      → (match_bit matched 0 ps (steps_before ps place + k) || (active_bits s (names ++ (e ∷ [])) (steps_before ps place + k) && role_at is_last_role (roles s) (steps_before ps place + k)))
      ≡ match_bit now_fit 0 ps (steps_before ps place + k)
  matched-placed place k h w =
      let z : 0 + place ≡ place = omega arith in
      rw (
        match-at matched ps 0 place k h w,
        match-at now_fit ps 0 place k h w,
        z,
        bit_at (λ p k. active p k (names ++ (e ∷ []))) ps place k h w,
        role-at is_last_role ps place k h w,
      )
      (last-matched (get_or ps place []) k (matched place))

  pub now-matched : (i : ℕ) → i < 8 * mask_size → now_matched a run e i ≡ match_bit now_fit 0 ps i
  unfolding now_matched
  now-matched i h =
      ap₂ ◌||◌ (matched-read s names matched deep short rest i h) (ap₂ ◌&&◌ (now-active i h) (m.tables.masks last_mask (omega arith) i h))
      ∙ (cases (ltb i (length (steps_of ps))) (λ t. inside (locate ps i (ltb-true i (length (steps_of ps)) t))) (λ t. past (ltb-false i (length (steps_of ps)) t)))
    where
      past : length (steps_of ps) ≤ i → (match_bit matched 0 ps i || (active_bits s (names ++ (e ∷ [])) i && role_at is_last_role (roles s) i)) ≡ match_bit now_fit 0 ps i
      past le = rw (match-past matched ps 0 i le, match-past now_fit ps 0 i le, bit_past (λ p k. active p k (names ++ (e ∷ []))) ps i le)

      inside : Located ps i → (match_bit matched 0 ps i || (active_bits s (names ++ (e ∷ [])) i && role_at is_last_role (roles s) i)) ≡ match_bit now_fit 0 ps i
      inside l =
          subst (λ (j : ℕ). (match_bit matched 0 ps j || (active_bits s (names ++ (e ∷ [])) j && role_at is_last_role (roles s) j)) ≡ match_bit now_fit 0 ps j)
          (sym l.is) (matched-placed l.place l.k l.there l.within)
