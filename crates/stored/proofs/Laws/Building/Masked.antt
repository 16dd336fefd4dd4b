-- On the bytes of a set, the pass over the steps gives the set's masks, and the initial state is that of a fresh run.
use Rattle.std.proofs.Common.{Some}
use Prim.Native.Nat.{ℕ, suc, ◌+◌, ◌*◌, ◌/◌, ◌%◌, ◌≤◌, ◌<◌}
use mathlib.Core.Path.{◌≡◌, refl, sym, ◌∙◌, ap, ap₂}
use mathlib.Core.Bool.{Bool, true, false}
use mathlib.Core.List.{List, [], ◌∷◌, ◌++◌, append_assoc, append-nil}
use native.Mathlib.Nat.{add-zero}
use native.Mathlib.Omega.{arith}
use borrow.Author.Tests.{lt-ltb, ne_eqb}
use lib.ListN.{length, get_or, take, replicate, length-append, get_or-append}
use lib.Seq.{get_or-append-add, get_or-append_seam, take-append_seam}
use Rattle.notation.specs.Limits.{max_paths, max_steps}
use Rattle.notation.specs.Sets.{Step, Path, FolderSet, axis_of, test_of}
use Rattle.notation.specs.Print.{print_path}
use Rattle.notation.specs.Layout.{set_part}
use Rattle.notation.specs.Form.{paths_of, steps_of}
use Rattle.notation.specs.Reads.{is_descendant, is_star, step_at, path_at, path_count, stored_step}
use Rattle.notation.proofs.Laws.Refused.Fitting.{Fitting}
use Rattle.notation.proofs.Laws.Stored.Reads.{paths-read}
use Rattle.notation.proofs.Laws.Stored.LabelTable.{no_step}
use Rattle.notation.proofs.Laws.Parts.{steps-append}
use Rattle.notation.proofs.Laws.Stored.ReadSteps.{step-read}
use Rattle.notation.proofs.Laws.Stored.ReadPaths.{path-read}
use Rattle.stored.specs.Automaton.{mask_size, all_steps, Link, Role, role, roles_from, roles_in, roles, masks, bit_bytes, byte_of, assembled, mask_count, all_masks}
use Rattle.stored.specs.Bits.{with_bit}
use Rattle.stored.specs.Code.Masks.{flagged, axis_mask, flag_role, flag_step, flag_steps, flag_path, flag_paths, with_masks}
use Rattle.stored.proofs.Laws.Bytes.Tabulate.{tabulate-length}
use Rattle.stored.proofs.Laws.Bytes.WithBit.{bits-with}
use Rattle.stored.proofs.Laws.Tables.Assembled.{Sized, after-set, mask-read, mask-put}
use Rattle.stored.proofs.Laws.Bytes.MaskRows.{bits_none, place, flags, flag_bits, role_bits, masks-are}

pub roles-length : (first : Bool) (p : Path) → length (roles_from first p) ≡ length p
unfolding roles_from
roles-length first [] = refl
roles-length first (s ∷ []) = refl
roles-length first (s ∷ t ∷ p) = ap suc (roles-length false (t ∷ p))

-- a role for each step
pub all-roles-length : (ps : List Path) → length (roles_in ps) ≡ length (steps_of ps)
unfolding roles_in steps_of
all-roles-length [] = refl
all-roles-length (p ∷ ps) =
    omega (arith, length-append (roles_from true p) (roles_in ps), length-append p (steps_of ps), roles-length true p, all-roles-length ps)

bits-append : (i : ℕ) (rs ts : List Role) (b : ℕ → Bool) → role_bits i (rs ++ ts) b ≡ role_bits (i + length rs) ts (role_bits i rs b)
unfolding role_bits
bits-append i [] ts b = ap (λ (j : ℕ). role_bits j ts b) (sym (add-zero i))
bits-append i (r ∷ rs) ts b =
    let e : suc i + length rs ≡ i + suc (length rs) = omega arith in
    bits-append (suc i) rs ts (flag_bits i r b) ∙ ap (λ (j : ℕ). role_bits j ts (role_bits (suc i) rs (flag_bits i r b))) e

pub bit_in-is : (m i : ℕ) → m < mask_count → i < 8 * mask_size → place m i < 8 * all_masks
unfolding mask_size
bit_in-is m i k h = omega arith

pub byte-in : (m i : ℕ) → m < mask_count → i < 8 * mask_size → place m i / 8 < all_masks
unfolding mask_size
byte-in m i k h = omega arith

axis-small : (first deep : Bool) → axis_mask first deep < mask_count
axis-small true true = omega arith
axis-small true false = omega arith
axis-small false true = omega arith
axis-small false false = omega arith

pub all_small : max_paths * max_steps ≡ 8 * mask_size
unfolding max_paths max_steps mask_size
all_small = refl

steps-more : (n i : ℕ) (first : Bool) (part : List ℕ) → flag_steps (suc (suc n)) i first part ≡ flag_steps (suc n) (suc i) false (flag_step i first false part)
unfolding flag_steps
steps-more n i first part = ap (λ (last : Bool). flag_steps (suc n) (suc i) false (flag_step i first last part)) (ne_eqb (suc n) 0 (omega arith))

one-path : (p : Path) → length (steps_of (p ∷ [])) ≡ length p
unfolding steps_of
one-path p = ap length (append-nil p)

no_steps : length (steps_of []) ≡ 0
unfolding steps_of
no_steps = refl

-- a path of the set, as it is read
pub path-in : (s : FolderSet) (fit : Fitting s) (more : List ℕ) (pre : List Path) (p : Path) (ps : List Path) → paths_of s ≡ pre ++ (p ∷ ps)
    → (at : ℕ) × (path_at (set_part s ++ more) (record { 0 = length pre }) ≡ Some (record { first = length (steps_of pre); steps = length p; at = at; size = length (print_path p) }))
path-in s fit more pre p ps e =
    let h : length pre < length (paths_of s) = omega (arith, ap length e, length-append pre (p ∷ ps)) in
    let r = path-read s fit more (length pre) h in
    let q : get_or (paths_of s) (length pre) [] ≡ p = ap (λ (l : List Path). get_or l (length pre) []) e ∙ get_or-append_seam pre p ps [] in
    let t : take (length pre) (paths_of s) ≡ pre = ap (take (length pre)) e ∙ take-append_seam pre (p ∷ ps) in
    (r.at, r.answer ∙ ap₂ (λ (l : List Path) (y : Path). Some (record { first = length (steps_of l); steps = length y; at = r.at; size = length (print_path y) })) t q)

-- and its steps
pub steps-here : (s : FolderSet) (pre : List Path) (p : Path) (ps : List Path) → paths_of s ≡ pre ++ (p ∷ ps) → all_steps s ≡ steps_of pre ++ (p ++ steps_of ps)
unfolding steps_of
steps-here s pre p ps e = ap steps_of e ∙ steps-append pre (p ∷ ps)

module _ (s : FolderSet) (fit : Fitting s) (hs : List ℕ) (ls : List Link) (f : ℕ) (sizes : (ms : List ℕ) → length ms ≡ all_masks → Sized hs ls ms) (rest : List ℕ) where
  -- the bytes with a row of bits for masks
  abbrev bytes : (ℕ → Bool) → List ℕ
  bytes b = assembled s hs ls (bit_bytes b all_masks) f ++ rest

  sized : (b : ℕ → Bool) → Sized hs ls (bit_bytes b all_masks)
  sized b = sizes (bit_bytes b all_masks) (tabulate-length (byte_of b) all_masks)

  flagged-bit : (on : Bool) (m i : ℕ) → m < mask_count → i < 8 * mask_size → (b : ℕ → Bool) → flagged on m i (bytes b) ≡ bytes (flags on (place m i) b)
  unfolding flagged
  flagged-bit false m i k h b = refl
  flagged-bit true m i k h b =
      rw (mask-read s fit hs ls (bit_bytes b all_masks) f (sized b) rest (place m i / 8) (byte-in m i k h))
      (mask-put s fit hs ls (bit_bytes b all_masks) f (sized b) rest (place m i / 8) (with_bit (get_or (bit_bytes b all_masks) (place m i / 8) 0) (place m i % 8)) (byte-in m i k h)
      ∙ ap (λ (l : List ℕ). assembled s hs ls l f ++ rest) (bits-with b all_masks (place m i) (bit_in-is m i k h)))

  role-bits : (i : ℕ) → i < 8 * mask_size → (st : Step) (first last : Bool) (b : ℕ → Bool)
      → flag_role i (is_descendant (axis_of st)) (is_star (test_of st)) first last (bytes b) ≡ bytes (flag_bits i (role st first last) b)
  unfolding flag_role
  role-bits i h st first last b =
      let axis = axis_mask first (is_descendant (axis_of st)) in
      let b1 = flags (is_star (test_of st)) (place 0 i) b in
      let b2 = flags true (place axis i) b1 in
      rw (flagged-bit (is_star (test_of st)) 0 i (omega arith) h b, flagged-bit true axis i (axis-small first (is_descendant (axis_of st))) h b1)
      (flagged-bit last 5 i (omega arith) h b2)

  step-bits : (i : ℕ) → i < length (all_steps s) → (first last : Bool) (b : ℕ → Bool)
      → flag_step i first last (bytes b) ≡ bytes (flag_bits i (role (get_or (all_steps s) i no_step) first last) b)
  unfolding flag_step
  step-bits i h first last b =
      let x = after-set s fit hs ls (bit_bytes b all_masks) f rest in
      let read : step_at (bytes b) i ≡ Some (stored_step (get_or (all_steps s) i no_step)) = rw x.1 (step-read s fit x.0 i h) in
      let small : i < 8 * mask_size = omega (arith, fit.steps, all_small) in
      rw (lt-ltb i (8 * mask_size) small, read) (role-bits i small (get_or (all_steps s) i no_step) first last b)

  path-bits : (p : Path) (i : ℕ) (first : Bool) (b : ℕ → Bool) → i + length p ≤ length (all_steps s)
      → ((k : ℕ) → k < length p → get_or (all_steps s) (i + k) no_step ≡ get_or p k no_step)
      → flag_steps (length p) i first (bytes b) ≡ bytes (role_bits i (roles_from first p) b)
  unfolding flag_steps roles_from role_bits
  path-bits [] i first b h g = refl
  path-bits (x ∷ []) i first b h g =
      step-bits i (omega arith) first true b ∙ ap (λ (y : Step). bytes (flag_bits i (role y first true) b)) (rw add-zero at (g 0 (omega arith)))
  path-bits (x ∷ y ∷ p) i first b h g =
      steps-more (length p) i first (bytes b)
      ∙ ap (λ (part : List ℕ). flag_steps (suc (length p)) (suc i) false part) (step-bits i (omega arith) first false b ∙ ap (λ (z : Step). bytes (flag_bits i (role z first false) b)) here)
      ∙ (path-bits (y ∷ p) (suc i) false (flag_bits i (role x first false) b) (omega arith) later)
    where
      here : get_or (all_steps s) i no_step ≡ x
      here = rw add-zero at (g 0 (omega arith))

      later : (k : ℕ) → k < length (y ∷ p) → get_or (all_steps s) (suc i + k) no_step ≡ get_or (y ∷ p) k no_step
      later k l = let e : suc i + k ≡ i + suc k = omega arith in ap (λ (j : ℕ). get_or (all_steps s) j no_step) e ∙ g (suc k) (omega arith)

  path-here : (b : ℕ → Bool) (pre : List Path) (p : Path) (ps : List Path) → paths_of s ≡ pre ++ (p ∷ ps)
      → (at : ℕ) × (path_at (bytes b) (record { 0 = length pre }) ≡ Some (record { first = length (steps_of pre); steps = length p; at = at; size = length (print_path p) }))
  path-here b pre p ps e =
      let x = after-set s fit hs ls (bit_bytes b all_masks) f rest in
      let r = path-in s fit x.0 pre p ps e in
      (r.0, rw x.1 r.1)

  flag-path-bits : (b : ℕ → Bool) (pre : List Path) (p : Path) (ps : List Path) → paths_of s ≡ pre ++ (p ∷ ps)
      → flag_path (length pre) (bytes b) ≡ bytes (role_bits (length (steps_of pre)) (roles_from true p) b)
  unfolding flag_path
  flag-path-bits b pre p ps e =
      let r = path-here b pre p ps e in
      let split = steps-here s pre p ps e in
      rw r.1 (path-bits p (length (steps_of pre)) true b (omega (arith, ap length split, length-append (steps_of pre) (p ++ steps_of ps), length-append p (steps_of ps))) (step-here split))
    where
      step-here : all_steps s ≡ steps_of pre ++ (p ++ steps_of ps) → (k : ℕ) → k < length p → get_or (all_steps s) (length (steps_of pre) + k) no_step ≡ get_or p k no_step
      step-here split k h =
          ap (λ (l : List Step). get_or l (length (steps_of pre) + k) no_step) split
          ∙ get_or-append-add (steps_of pre) (p ++ steps_of ps) k no_step ∙ get_or-append p (steps_of ps) no_step k h

  all-bits-here : (ps pre : List Path) (b : ℕ → Bool) → paths_of s ≡ pre ++ ps → flag_paths (length ps) (length pre) (bytes b) ≡ bytes (role_bits (length (steps_of pre)) (roles_in ps) b)
  unfolding flag_paths roles_in role_bits
  all-bits-here [] pre b e = refl
  all-bits-here (p ∷ ps) pre b e =
      ap (λ (part : List ℕ). flag_paths (length ps) (suc (length pre)) part) (flag-path-bits b pre p ps e)
      ∙ (ap (λ (n : ℕ). flag_paths (length ps) n (bytes (role_bits (length (steps_of pre)) (roles_from true p) b))) (sym size)
      ∙ all-bits-here ps (pre ++ (p ∷ [])) (role_bits (length (steps_of pre)) (roles_from true p) b) (e ∙ sym (append_assoc pre (p ∷ []) ps))
      ∙ ap (λ (n : ℕ). bytes (role_bits n (roles_in ps) (role_bits (length (steps_of pre)) (roles_from true p) b))) steps
      ∙ ap bytes (sym (bits-append (length (steps_of pre)) (roles_from true p) (roles_in ps) b)))
    where
      size : length (pre ++ (p ∷ [])) ≡ suc (length pre)
      size = omega (arith, length-append pre (p ∷ []))

      steps : length (steps_of (pre ++ (p ∷ []))) ≡ length (steps_of pre) + length (roles_from true p)
      steps = omega (arith, ap length (steps-append pre (p ∷ [])), one-path p, length-append (steps_of pre) (steps_of (p ∷ [])), roles-length true p)

  -- so the pass over zeros gives the masks
  pub masks-put : with_masks (assembled s hs ls (replicate all_masks 0) f ++ rest) ≡ assembled s hs ls (masks s) f ++ rest
  unfolding with_masks
  masks-put =
      rw (← bits_none all_masks, count)
      (all-bits-here (paths_of s) [] (λ j. false) refl ∙ ap (λ (l : List ℕ). assembled s hs ls l f ++ rest) (start ∙ masks-are s (omega (arith, all-roles-length (paths_of s), fit.steps, all_small))))
    where
      count : path_count (bytes (λ j. false)) ≡ length (paths_of s)
      count = let x = after-set s fit hs ls (bit_bytes (λ j. false) all_masks) f rest in rw x.1 (paths-read s fit x.0)

      start : bit_bytes (role_bits (length (steps_of [])) (roles s) (λ j. false)) all_masks ≡ bit_bytes (role_bits 0 (roles s) (λ j. false)) all_masks
      start = ap (λ (n : ℕ). bit_bytes (role_bits n (roles s) (λ j. false)) all_masks) no_steps
