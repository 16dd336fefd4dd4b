-- An accepted open of a run gives the run of the names with one more and of the matches with those paths that fit now; its failure moves
-- are the machine's. An accepted close takes the last name away again. A start gives the fresh run.
use Prim.Native.Nat.{ℕ, suc, ◌+◌, ◌*◌, ◌≤◌, ◌<◌, pred}
use mathlib.Core.Path.{◌≡◌, refl, sym, ◌∙◌, ap, ap₂}
use mathlib.Core.Bool.{Bool, false, ◌||◌}
use mathlib.Core.Logic.{◌⊎◌, inl, inr}
use mathlib.Core.List.Memᴰ
use mathlib.Core.List.{List, [], ◌∷◌, ◌++◌, append_assoc, Memᴰ}
use native.Mathlib.Omega.{arith}
use lib.ListN.{length, get_or, replicate, length-append, length-replicate}
use lib.Seq.{sets, take-length}
use Rattle.text.specs.Names.{max_name, Name}
use Rattle.notation.specs.Sets.{FolderSet}
use Rattle.notation.specs.Form.{paths_of, steps_of}
use Rattle.text.specs.Bytes.{le16, joined, padded}
use Rattle.notation.specs.Layout.{word_size}
use Rattle.notation.specs.Reads.{step_count}
use Rattle.notation.specs.Activity.{active, seen, fits}
use Rattle.notation.proofs.Laws.Fill.Padded.{sets-front, joined_snoc}
use Rattle.model.specs.Limits.{max_depth}
use Rattle.model.specs.Prefix.{prefix_of}
use Rattle.model.specs.Walk.{walk}
use Rattle.notation.specs.Limits.{max_paths, max_steps}
use Rattle.stored.specs.Automaton.{mask_size, byte_of, bit_bytes}
use Rattle.stored.specs.Run.{matches_at, rows_at, row_size, row_at, match_bit, active_bits, seen_bits, row_of, rows_from, run_with, depth_at}
use Rattle.stored.specs.RunCalls.{used_bytes, used_bits, now_active, now_seen, now_matched, open_walk, step_bits, row_opened, with_row, open_run, close_run}
use Rattle.model.proofs.Laws.Keywords.Prefix.{current-prefix}
use Rattle.model.proofs.Laws.Keywords.Walk.{walk-current}
use Rattle.stored.specs.Compiled.{stored_walk}
use Rattle.stored.proofs.Laws.Bytes.Tabulate.{tabulate-length}
use Rattle.stored.proofs.Laws.Bytes.MaskRows.{bits-same}
use Rattle.stored.proofs.Laws.Bytes.Stores.{sets-left, past}
use Rattle.stored.proofs.Laws.Running.PathSteps.{bit_past, match-past}
use Rattle.stored.proofs.Laws.Running.RunBytes.{Short, match_bytes, row_bytes, zeros_from, rows_fit, used-room, bits-length, rows_more, row-length, row-bytes, run-parts, depth-read, state-at}
use Rattle.stored.proofs.Laws.Running.Means.{Means}
use Rattle.stored.proofs.Laws.Running.OpenBits.{now-active, now-seen, now-matched}
use Rattle.stored.proofs.Laws.Running.RowStores.{bits-over, bits-padded, zeros-row, spliced}

pub short-open : (names : List Name) (e : Name) → Short names → length e ≤ max_name → Short (names ++ (e ∷ []))
short-open names e short h n m = go (Memᴰ.append_cases names m)
  where
    go : Memᴰ n names ⊎ Memᴰ n (e ∷ []) → length n ≤ max_name
    go (inl p) = short n p
    go (inr q) = rw (Memᴰ.eq_of_singleton q) h

pub short-close : (names : List Name) (e : Name) → Short (names ++ (e ∷ [])) → Short names
short-close names e short n m = short n (Memᴰ.append_left (e ∷ []) m)

row-after : (d : ℕ) → row_at (suc d) ≡ row_at d + row_size
unfolding row_size
row-after d = omega arith

row-place : (bits rows : ℕ) (n : ℕ) → bits ≡ mask_size → rows ≡ row_size * n → word_size + (bits + rows) ≡ row_at n
unfolding rows_at matches_at
row-place bits rows n e f = omega arith

-- another row in a run, with its match bits and its depth
stored-run : (d d' k : ℕ) (bits rows old new tail vs : List ℕ) → word_size + (length bits + length rows) ≡ row_at k → length old ≡ row_size → length vs ≤ length bits
    → sets (sets (with_row (le16 d ++ (bits ++ (rows ++ (old ++ tail)))) k new) matches_at vs) depth_at (le16 d') ≡ le16 d' ++ (sets bits 0 vs ++ (rows ++ (new ++ tail)))
unfolding matches_at
stored-run d d' k bits rows old new tail vs size e h =
    let group : (x : List ℕ) → le16 d ++ (bits ++ (rows ++ x)) ≡ (le16 d ++ (bits ++ rows)) ++ x = λ x. ap (λ (l : List ℕ). le16 d ++ l) (sym (append_assoc bits rows x)) in
    let front : length (le16 d ++ (bits ++ rows)) ≡ row_at k = omega (arith, length-append bits rows) in
    ap (λ (l : List ℕ). sets (sets l matches_at vs) depth_at (le16 d'))
    (ap (λ (l : List ℕ). with_row l k new) (group (old ++ tail)) ∙ spliced (le16 d ++ (bits ++ rows)) old new tail (row_at k) row_size front e ∙ sym (group (new ++ tail)))
    ∙ ap (λ (l : List ℕ). sets l depth_at (le16 d'))
    (past (le16 d) (bits ++ (rows ++ (new ++ tail))) word_size matches_at 0 vs refl refl
    ∙ ap (λ (l : List ℕ). le16 d ++ l) (sets-left vs bits (rows ++ (new ++ tail)) 0 (omega arith)))
    ∙ sets-front (le16 d) (sets bits 0 vs ++ (rows ++ (new ++ tail))) (le16 d') refl

-- the runs without and with a last name: a row of zeros, or the name's
module _ (s : FolderSet) (names : List Name) (e : Name) (deep : length names < max_depth) (short : Short names) (size : length e ≤ max_name) (rest : List ℕ) where
  abbrev more : List Name
  more = names ++ (e ∷ [])

  abbrev d : ℕ
  d = length names

  abbrev tail : List ℕ
  tail = zeros_from (row_at (suc d) + row_size) ++ rest

  one_more-is : length more ≡ suc d
  one_more-is = omega (arith, length-append names (e ∷ []))

  place : (matched : ℕ → Bool) → 2 + (length (match_bytes s matched) + length (row_bytes s names)) ≡ row_at (suc d)
  place matched = row-place (length (match_bytes s matched)) (length (row_bytes s names)) (suc d) (bits-length (match_bit matched 0 (paths_of s))) (row-bytes s names matched (omega arith) short)

  without : (matched : ℕ → Bool) → run_with s names matched ++ rest ≡ le16 d ++ (match_bytes s matched ++ (row_bytes s names ++ (replicate row_size 0 ++ tail)))
  without matched =
      run-parts s names matched (omega arith) short rest
      ∙ ap (λ (l : List ℕ). le16 d ++ (match_bytes s matched ++ (row_bytes s names ++ l)))
      (ap (λ (l : List ℕ). l ++ rest) (zeros-row (row_at (suc d)) (omega (arith, row-after (suc d), rows_fit (suc d) deep))) ∙ append_assoc (replicate row_size 0) (zeros_from (row_at (suc d) + row_size)) rest)

  with-last : (matched : ℕ → Bool) → run_with s more matched ++ rest ≡ le16 (suc d) ++ (match_bytes s matched ++ (row_bytes s names ++ (row_of s e more ++ tail)))
  with-last matched =
      let rows : row_bytes s more ≡ row_bytes s names ++ row_of s e more = ap joined (rows_more s [] [] names e) ∙ joined_snoc (rows_from s [] [] names) (row_of s e more) in
      run-parts s more matched (omega (arith, one_more-is)) (short-open names e short size) rest
      ∙ rw (one_more-is, row-after (suc d), rows, append_assoc (row_bytes s names) (row_of s e more) tail)

module _ (s : FolderSet) (a : List ℕ) (m : Means s a) where
  step_count-is : step_count a ≡ length (steps_of (paths_of s))
  step_count-is = m.tables.steps

  few : used_bytes a ≤ mask_size
  few = used-room a (rw step_count-is m.fit.steps)

  used_all : length (steps_of (paths_of s)) ≤ 8 * used_bytes a
  unfolding mask_size max_paths max_steps
  used_all = omega (arith, step_count-is, m.fit.steps)

  module _ (names : List Name) (deep : length names ≤ max_depth) (short : Short names) (rest : List ℕ) where
    -- the walk of an open is the machine's
    pub open-walk : (matched : ℕ → Bool) (e : Name) → open_walk a (run_with s names matched ++ rest) e ≡ stored_walk s (walk s (prefix_of s names) e)
    open-walk matched e =
        rw (depth-read s names matched deep short rest, state-at s names matched deep short rest (length names) (omega arith) m.fit, take-length names)
        (m.tables.walks (prefix_of s names) (current-prefix s names).starts e)

  step-bits : (f g : ℕ → Bool) → ((i : ℕ) → i < 8 * mask_size → f i ≡ g i) → ((i : ℕ) → length (steps_of (paths_of s)) ≤ i → g i ≡ false) → step_bits a f ≡ bit_bytes g mask_size
  step-bits f g same none =
      ap (padded mask_size) (bits-same f g (used_bytes a) (λ i h. same i (omega (arith, few))))
      ∙ bits-padded g (used_bytes a) mask_size few (λ i h. none i (omega (arith, used_all)))

  -- opening
  module _ (names : List Name) (matched : ℕ → Bool) (deep : length names < max_depth) (short : Short names) (rest : List ℕ) (e : Name) (size : length e ≤ max_name) where
    abbrev shallow : length names ≤ max_depth
    shallow = omega arith

    abbrev now : List Name
    now = names ++ (e ∷ [])

    abbrev fitting : ℕ → Bool
    fitting place = matched place || fits (get_or (paths_of s) place []) now

    abbrev run : List ℕ
    run = run_with s names matched ++ rest

    row_opened-is : row_opened a run e ≡ row_of s e now
    unfolding row_opened row_of
    row_opened-is =
        rw (
          step-bits (now_active a run e) (active_bits s now) (now-active s a m names matched shallow short rest e) (bit_past (λ p k. active p k now) (paths_of s)),
          step-bits (now_seen a run e) (seen_bits s now) (now-seen s a m names matched shallow short rest e) (bit_past (λ p k. seen p k now) (paths_of s)),
          open-walk names shallow short rest matched e,
          walk-current s names e,
        )

    matches-written : sets (match_bytes s matched) 0 (used_bits a (now_matched a run e)) ≡ match_bytes s fitting
    matches-written =
        let u : used_bits a (now_matched a run e) ≡ bit_bytes (match_bit fitting 0 (paths_of s)) (used_bytes a) =
        bits-same (now_matched a run e) (match_bit fitting 0 (paths_of s)) (used_bytes a) (λ i h. now-matched s a m names matched shallow short rest e i (omega (arith, few))) in
        rw u
        (bits-over (match_bit matched 0 (paths_of s)) (match_bit fitting 0 (paths_of s)) (used_bytes a) mask_size few
        (λ i h k. match-past matched (paths_of s) 0 i (omega (arith, used_all)) ∙ sym (match-past fitting (paths_of s) 0 i (omega (arith, used_all)))))

    -- what an open leaves
    pub open-run : open_run a run e ≡ run_with s now fitting ++ rest
    unfolding open_run
    open-run =
        ap₂ (λ (k : ℕ) (l : List ℕ). sets (sets (with_row l (suc k) (row_opened a run e)) matches_at (used_bits a (now_matched a run e))) depth_at (le16 (suc k)))
        (depth-read s names matched shallow short rest) (without s names e deep short size rest matched)
        ∙ stored-run (length names) (suc (length names)) (suc (length names)) (match_bytes s matched) (row_bytes s names) (replicate row_size 0) (row_opened a run e) (tail s names e deep short size rest) (used_bits a (now_matched a run e))
        (place s names e deep short size rest matched) (length-replicate row_size 0)
        (omega (arith, tabulate-length (byte_of (now_matched a run e)) (used_bytes a), bits-length (match_bit matched 0 (paths_of s)), few))
        ∙ ap₂ (λ (x y : List ℕ). le16 (suc (length names)) ++ (x ++ (row_bytes s names ++ (y ++ tail s names e deep short size rest)))) matches-written row_opened-is
        ∙ sym (with-last s names e deep short size rest fitting)

-- closing: the last name's row is made zero
module _ (s : FolderSet) (names : List Name) (e : Name) (matched : ℕ → Bool) (deep : length names < max_depth) (short : Short names) (size : length e ≤ max_name) (rest : List ℕ) where
  pub close-run : close_run (run_with s (names ++ (e ∷ [])) matched ++ rest) ≡ run_with s names matched ++ rest
  unfolding close_run
  close-run =
      let n : length (names ++ (e ∷ [])) ≡ suc (length names) = one_more-is s names e deep short size rest in
      ap₂ (λ (k : ℕ) (l : List ℕ). sets (with_row l k (replicate row_size 0)) depth_at (le16 (pred k)))
      (depth-read s (names ++ (e ∷ [])) matched (omega (arith, n)) (short-open names e short size) rest ∙ n) (with-last s names e deep short size rest matched)
      ∙ stored-run (suc (length names)) (length names) (suc (length names)) (match_bytes s matched) (row_bytes s names) (row_of s e (names ++ (e ∷ []))) (replicate row_size 0) (tail s names e deep short size rest) []
      (place s names e deep short size rest matched) (row-length s e (names ++ (e ∷ [])) size) (omega arith)
      ∙ sym (without s names e deep short size rest matched)
