-- On the run of a machine's state the asking calls answer what the machine has, and 13 exactly where what is asked of is not there.
use Rattle.std.proofs.Common.{None}
use Prim.Native.Nat.{ℕ, zero, suc, ◌+◌, ◌-◌, ◌*◌, ◌≤◌, ◌<◌, pred}
use mathlib.Core.Path.{◌≡◌, refl, ◌∙◌, ap, ap₂}
use mathlib.Core.Bool.{Bool, true, false, ◌&&◌, ◌||◌, cond}
use mathlib.Core.List.{List, [], ◌++◌}
use native.Mathlib.Omega.{arith}
use native.Mathlib.Nat.{zero-add}
use borrow.Author.Tests.{ltb-true, ltb-false, leb-true, eq-eqb}
use lib.Dec.{leb, ltb}
use lib.ListN.{length, get_or}
use lib.Seq.{take-length}
use Rattle.notation.specs.Limits.{max_paths, max_steps}
use Rattle.text.specs.Names.{Name, within}
use Rattle.notation.specs.Sets.{Path, FolderSet, folder_paths}
use Rattle.notation.specs.Form.{paths_of}
use Rattle.text.specs.Lists.{any}
use Rattle.notation.specs.Print.{print}
use Rattle.text.specs.declared.refusals.Refusal.TheVariants.{NotFound}
use Rattle.text.specs.Refusals.{number_of}
use Rattle.text.specs.Answers.{Answer, refused, value, said}
use Rattle.notation.specs.Activity.{active}
use Rattle.notation.specs.Reads.{path_at, folder_of, folder_index}
use Rattle.notation.specs.declared.PathPlace.{PathPlace}
use Rattle.notation.specs.declared.FolderNumber.{FolderNumber}
use Rattle.notation.proofs.Laws.Stored.PathTable.{steps_before, steps-through}
use Rattle.notation.proofs.Laws.Stored.FolderTable.{no_folder, paths_before, paths-between, paths-before-most}
use Rattle.notation.proofs.Laws.Stored.ReadPaths.{PathRead, path-read, path-missing}
use Rattle.notation.proofs.Laws.Stored.ReadFolders.{folder-of-read}
use Rattle.model.specs.Prefix.{prefix_of}
use Rattle.model.specs.Folders.{count_from, places_from, folder_matched}
use Rattle.text.specs.Order.{first, given}
use Rattle.model.specs.Calls.{State, open_names, active_step}
use Rattle.stored.specs.Automaton.{mask_size}
use Rattle.stored.specs.Run.{run_of}
use Rattle.stored.specs.Tables.{size_of}
use Rattle.stored.specs.RunCalls.{depth_of, stored_name, active_at, matched_at, state_at}
use Rattle.stored.specs.Asking.{ask_refusal, has_path, place_matched, any_matched, ask_path, has_folder, index_paths, ask_folder, ask_step, ask_prefix, name_refusal, ask_name}
use Rattle.text.proofs.Laws.Tests.{cases}
use Rattle.model.proofs.Laws.Keywords.Prefix.{current-prefix}
use Rattle.model.proofs.Laws.Machine.Sound.{Sound}
use Rattle.model.proofs.Laws.Machine.Moves.{Few}
use Rattle.stored.proofs.Laws.Running.PathSteps.{bit_at, match-at}
use Rattle.stored.proofs.Laws.Running.RunBytes.{matched-read, active-at, state-at, name-at}
use Rattle.stored.proofs.Laws.Running.Means.{Means}
use Rattle.stored.proofs.Laws.Running.HeldSet.{folder-held}
use Rattle.stored.proofs.Laws.Shapes.Passing.{names-length, names-deep, names-short, stored-depth, run-shaped, long-enough}
use Rattle.stored.proofs.Laws.Running.FolderPlaces.{has_number, Placed, missing, at, placed}

-- the answer where it is there, else 13
abbrev pub asked : Bool → Bool → Answer Bool
asked there b = cond there (value b) (refused (number_of NotFound))

any_same : (f g : ℕ → Bool) (first n : ℕ) → ((i : ℕ) → first ≤ i → i < first + n → f i ≡ g i) → any f (count_from first n) ≡ any g (count_from first n)
unfolding any count_from
any_same f g first zero h = refl
any_same f g first (suc n) h = ap₂ ◌||◌ (h first (omega arith) (omega arith)) (any_same f g (suc first) n (λ i l u. h i (omega arith) (omega arith)))

none_any : (f : ℕ → Bool) → any f [] ≡ false
unfolding any
none_any f = refl

pub within-out : (k n : ℕ) → within 1 n k ≡ true → (1 ≤ k) × (k ≤ n)
within-out k n h = go (leb 1 k) (leb k n) refl refl h
  where
    go : (x y : Bool) → leb 1 k ≡ x → leb k n ≡ y → (x && y) ≡ true → (1 ≤ k) × (k ≤ n)
    go true true p q h = (leb-true 1 k p, leb-true k n q)
    go true false p q h = absurd (let z : ◌≡◌ {A = ℕ} 0 1 = cc in omega arith)
    go false y p q h = absurd (let z : ◌≡◌ {A = ℕ} 0 1 = cc in omega arith)

module _ (s : FolderSet) (a : List ℕ) (m : Means s a) (st : State) (few : Few s st []) (rest : List ℕ) where
  abbrev g : Sound s st
  g = few.0

  abbrev names : List Name
  names = open_names st

  abbrev ps : List Path
  ps = paths_of s

  abbrev run : List ℕ
  run = run_of s st ++ rest

  -- only 13 is left
  ask-refused : (there : Bool) → ask_refusal a run there ≡ cond there 0 (number_of NotFound)
  unfolding ask_refusal given first
  ask-refused true = rw (long-enough s a m st few rest, m.shaped, run-shaped s a m st few rest)
  ask-refused false = rw (long-enough s a m st few rest, m.shaped, run-shaped s a m st few rest)

  answer-is : (there b c : Bool) → (there ≡ true → b ≡ c) → said (ask_refusal a run there) b ≡ asked there c
  answer-is true b c h = rw (ask-refused true, h refl)
  answer-is false b c h = rw (ask-refused false)

  path-there : (i : ℕ) → i < length ps → PathRead a (print s) i (steps_before ps i) (get_or ps i [])
  path-there i h = rw m.stored (path-read s m.fit m.more i h)

  path-gone : (i : ℕ) → length ps ≤ i → path_at a (record { 0 = i }) ≡ None
  path-gone i h = rw m.stored (path-missing s m.fit m.more i h)

  steps-room : (i k : ℕ) → i < length ps → k < length (get_or ps i []) → steps_before ps i + k < 8 * mask_size
  unfolding mask_size max_paths max_steps
  steps-room i k h w = omega (arith, steps-through ps i h, m.fit.steps)

  -- the path of a place is there
  has-path : (i : ℕ) → has_path (path_at a (record { 0 = i })) ≡ ltb i (length ps)
  has-path i = cases (ltb i (length ps)) (λ t. rw (t, (path-there i (ltb-true i (length ps) t)).answer)) (λ t. rw (t, path-gone i (ltb-false i (length ps) t)))

  pub place-matched : (i : ℕ) → i < length ps → place_matched a run (record { 0 = i }) ≡ st.matched i
  unfolding place_matched
  place-matched i h =
      let p = get_or ps i [] in
      let k = pred (length p) in
      let e : steps_before ps i + length p - 1 ≡ steps_before ps i + k = omega (arith, m.over_capacity i h) in
      let w : k < length p = omega (arith, m.over_capacity i h) in
      let l : suc k ≡ length p = omega (arith, m.over_capacity i h) in
      rw (path-there i h).answer
      (ap (matched_at run) e ∙ matched-read s names st.matched (names-deep s st g) (names-short s st g) rest (steps_before ps i + k) (steps-room i k h w)
      ∙ rw (match-at st.matched ps 0 i k h w, eq-eqb (suc k) (length p) l, zero-add i))

  -- a place without a path is not
  pub place-missing : (i : ℕ) → length ps ≤ i → place_matched a run (record { 0 = i }) ≡ false
  unfolding place_matched
  place-missing i h = rw (path-gone i h)

  -- is the path of a place matched
  pub ask-path : (place : PathPlace) → ask_path a run place ≡ asked (ltb place.0 (length ps)) (st.matched place.0)
  unfolding ask_path
  ask-path place =
      rw (has-path place.0)
      (answer-is (ltb place.0 (length ps)) (place_matched a run place) (st.matched place.0) (λ t. place-matched place.0 (ltb-true place.0 (length ps) t)))

  -- is a folder matched
  pub ask-folder : (number : FolderNumber) → ask_folder a run number ≡ asked (has_number s number.0) (folder_matched s st number.0)
  unfolding ask_folder
  ask-folder number =
      let e : folder_of a number ≡ folder_index number.0 0 s = rw m.stored (folder-of-read s m.fit m.more number) in
      rw e (go (placed 0 0 0 number.0 s m.rising))
    where
      go : Placed 0 0 number.0 s → said (ask_refusal a run (has_folder (folder_index number.0 0 s))) (any_matched a run (index_paths a (folder_index number.0 0 s))) ≡ asked (has_number s number.0) (any st.matched (places_from 0 s number.0))
      go (missing f x y) = rw (f, x) (answer-is false (any_matched a run []) false (λ t. none_any (λ j. place_matched a run (record { 0 = j }))))
      go (at i f l x y) =
          let first = paths_before s i in
          let n = length (folder_paths (get_or s i no_folder)) in
          let z : 0 + i ≡ i = omega arith in
          let w : 0 + first ≡ first = omega arith in
          rw (f, x, y, z, w, folder-held s a m i l)
          (answer-is true (any_matched a run (count_from first n)) (any st.matched (count_from first n)) (λ t.
          any_same (λ j. place_matched a run (record { 0 = j })) st.matched first n (λ j lo hi. place-matched j (omega (arith, paths-between s i l, paths-before-most s (suc i))))))

  -- is step k of a path active
  active-is : (i k : ℕ) → i < length ps → 1 ≤ k → k ≤ length (get_or ps i []) → active_at run (depth_of run) (steps_before ps i + k - 1) ≡ active_step s st i k
  active-is i zero h lo hi = absurd (omega arith)
  active-is i (suc j) h lo hi =
      let e : steps_before ps i + suc j - 1 ≡ steps_before ps i + j = omega arith in
      rw (stored-depth s a m st few rest, ← names-length s st g, e, active-at s names st.matched (names-deep s st g) (names-short s st g) rest (length names) (omega arith) (steps_before ps i + j) (steps-room i j h hi), take-length names)
      (bit_at (λ p k. active p k names) ps i j h hi)

  abbrev step_there : ℕ → ℕ → Bool
  step_there i k = ltb i (length ps) && within 1 (length (get_or ps i [])) k

  pub ask-step : (place : PathPlace) (k : ℕ) → ask_step a run place k ≡ asked (step_there place.0 k) (active_step s st place.0 k)
  unfolding ask_step
  ask-step place k =
      let i = place.0 in
      cases (ltb i (length ps))
      (λ t. let h : i < length ps = ltb-true i (length ps) t in
      rw (t, (path-there i h).answer)
      (answer-is (within 1 (length (get_or ps i [])) k) (active_at run (depth_of run) (steps_before ps i + k - 1)) (active_step s st i k) (λ w.
      let b = within-out k (length (get_or ps i [])) w in
      active-is i k h b.0 b.1)))
      (λ t. rw (t, path-gone i (ltb-false i (length ps) t)) (answer-is false false (active_step s st i k) (λ w. absurd (let z : ◌≡◌ {A = ℕ} 0 1 = cc in omega arith))))

  -- the length of the current prefix
  prefix-size : size_of a (state_at run (depth_of run)) ≡ length st.current
  prefix-size =
      rw (
        stored-depth s a m st few rest,
        ← names-length s st g,
        state-at s names st.matched (names-deep s st g) (names-short s st g) rest (length names) (omega arith) m.fit,
        take-length names,
        m.tables.size (prefix_of s names) (current-prefix s names).starts,
        g.prefix,
      )

  pub ask-prefix : ask_prefix a run ≡ value (length st.current)
  unfolding ask_prefix
  ask-prefix = ap₂ (λ (r n : ℕ). said r n) (ask-refused true) prefix-size

  -- the open name at a depth
  pub ask-name-refused : (d : ℕ) → name_refusal a run d ≡ cond (within 1 (length names) d) 0 (number_of NotFound)
  unfolding name_refusal
  ask-name-refused d = rw (stored-depth s a m st few rest, ← names-length s st g) (ask-refused (within 1 (length names) d))

  pub ask-name : (d : ℕ) → ask_name a run d ≡ cond (within 1 (length names) d) (get_or names (pred d) []) []
  unfolding ask_name
  ask-name d = rw (ask-name-refused d) (cases (within 1 (length names) d) (λ t. rw t (there d (within-out d (length names) t))) (λ t. rw t))
    where
      there : (d : ℕ) → (1 ≤ d) × (d ≤ length names) → stored_name run d ≡ get_or names (pred d) []
      there zero h = absurd (omega (arith, h.0))
      there (suc d) h = name-at s names st.matched (names-deep s st g) (names-short s st g) rest (suc d) h.1
