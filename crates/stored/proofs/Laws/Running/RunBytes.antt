-- A run's bytes: its parts, and what is read of them.
use Prim.Native.Nat.{ℕ, zero, suc, ◌+◌, ◌-◌, ◌*◌, ◌/◌, ◌≤◌, ◌<◌}
use mathlib.Core.Path.{◌≡◌, refl, sym, ◌∙◌, ap, subst}
use mathlib.Core.Bool.{Bool}
use mathlib.Core.List.{List, [], ◌∷◌, ◌++◌, append_assoc, append-nil, Memᴰ}
use native.Mathlib.Omega.{arith}
use native.Mathlib.Nat.{le_of_suc-le-suc, add-zero, mul-suc}
use lib.ListN.{length, get_or, take, drop, replicate, length-append}
use Rattle.text.specs.Names.{max_name, Name}
use Rattle.notation.specs.Limits.{max_paths, max_steps, max_labels}
use Rattle.notation.specs.Sets.{FolderSet}
use Rattle.notation.specs.Form.{paths_of}
use Rattle.text.specs.Bytes.{le16, joined, padded}
use Rattle.notation.specs.Reads.{word16, step_count}
use Rattle.notation.proofs.Laws.Stored.Stands.{Stands, left, right, read, slice}
use Rattle.notation.proofs.Laws.Fill.Padded.{length-padded}
use Rattle.notation.proofs.Laws.Stored.Entries.{OfWidth, none, more, joined_length, entry}
use Rattle.notation.proofs.Laws.Refused.Fitting.{Fitting}
use Rattle.notation.proofs.Laws.Stored.Words.{word_read}
use Rattle.model.specs.Limits.{max_depth}
use Rattle.model.specs.Prefix.{prefix_of}
use Rattle.stored.specs.Automaton.{mask_size, state_of, bit_bytes, byte_of}
use Rattle.stored.specs.Bits.{bit_in}
use Rattle.stored.specs.Run.{matches_at, rows_at, name_in, state_in, active_in, seen_in, row_size, row_at, run_size, match_bit, active_bits, seen_bits, row_of, rows_from, run_with, depth_at}
use Rattle.stored.specs.RunCalls.{depth_of, name_length, stored_name, state_at, active_at, seen_at, matched_at, used_bytes}
use Rattle.stored.proofs.Laws.Bytes.Tabulate.{tabulate-length}
use Rattle.stored.proofs.Laws.Bytes.Bits.{bits-bit}
use Rattle.model.proofs.Laws.Keywords.Prefix.{current-prefix}
use Rattle.stored.proofs.Laws.Tables.States.{at-among, state-within}

-- names that a row has room for
abbrev pub Short : List Name → Type 0
Short names = (n : Name) → Memᴰ n names → length n ≤ max_name

-- bits that stand somewhere are read there
pub bits-read : {base : ℕ} {whole : List ℕ} (f : ℕ → Bool) (n i : ℕ) → i < 8 * n → Stands base (bit_bytes f n) whole → bit_in whole base i ≡ f i
bits-read {base} {whole} f n i h t =
    let k : i / 8 < n = omega arith in
    let e : get_or whole (base + i / 8) 0 ≡ get_or (bit_bytes f n) (i / 8) 0 = read (i / 8) (omega (arith, tabulate-length (byte_of f) n)) t in
    rw e (bits-bit f n i h)

module _ (s : FolderSet) where
  -- one row: its size, and where its parts stand
  module _ (e : Name) (names : List Name) (short : length e ≤ max_name) where
    pub row-length : length (row_of s e names) ≡ row_size
    unfolding row_of row_size seen_in active_in state_in name_in
    row-length =
        omega (
          arith,
          length-padded max_name e short,
          tabulate-length (byte_of (active_bits s names)) mask_size,
          tabulate-length (byte_of (seen_bits s names)) mask_size,
          length-append (padded max_name e) (le16 (state_of s (prefix_of s names)) ++ (bit_bytes (active_bits s names) mask_size ++ bit_bytes (seen_bits s names) mask_size)),
          length-append (bit_bytes (active_bits s names) mask_size) (bit_bytes (seen_bits s names) mask_size),
        )

    module _ {at : ℕ} {whole : List ℕ} (t : Stands at (row_of s e names) whole) where
      from-name : Stands (at + name_in) (padded max_name e ++ (le16 (state_of s (prefix_of s names)) ++ (bit_bytes (active_bits s names) mask_size ++ bit_bytes (seen_bits s names) mask_size))) whole
      unfolding row_of name_in
      from-name = right (length e ∷ []) _ at (at + name_in) refl t

      from-state : Stands (at + state_in) (le16 (state_of s (prefix_of s names)) ++ (bit_bytes (active_bits s names) mask_size ++ bit_bytes (seen_bits s names) mask_size)) whole
      unfolding state_in
      from-state = right (padded max_name e) _ (at + name_in) (at + state_in) (omega (arith, length-padded max_name e short)) from-name

      from-active : Stands (at + active_in) (bit_bytes (active_bits s names) mask_size ++ bit_bytes (seen_bits s names) mask_size) whole
      unfolding active_in
      from-active = right (le16 (state_of s (prefix_of s names))) _ (at + state_in) (at + active_in) (omega arith) from-state

      from-seen : Stands (at + seen_in) (bit_bytes (seen_bits s names) mask_size) whole
      unfolding seen_in
      from-seen = right (bit_bytes (active_bits s names) mask_size) _ (at + active_in) (at + seen_in) (omega (arith, tabulate-length (byte_of (active_bits s names)) mask_size)) from-active

      pub length-read : get_or whole at 0 ≡ length e
      unfolding row_of
      length-read = rw add-zero at (read 0 (omega arith) t)

      pub name-read : take (get_or whole at 0) (drop (at + name_in) whole) ≡ e
      unfolding padded
      name-read = rw length-read (slice (left e _ (left (padded max_name e) _ from-name)))

      pub state-read : Fitting s → word16 whole (at + state_in) ≡ state_of s (prefix_of s names)
      unfolding max_labels
      state-read f = word_read (state_of s (prefix_of s names)) (at + state_in) (omega (arith, state-within s (prefix_of s names) (current-prefix s names).starts, f.labels)) (left (le16 (state_of s (prefix_of s names))) _ from-state)

      pub active-read : (i : ℕ) → i < 8 * mask_size → bit_in whole (at + active_in) i ≡ active_bits s names i
      active-read i h = bits-read (active_bits s names) mask_size i h (left (bit_bytes (active_bits s names) mask_size) _ from-active)

      pub seen_read : (i : ℕ) → i < 8 * mask_size → bit_in whole (at + seen_in) i ≡ seen_bits s names i
      seen_read i h = bits-read (seen_bits s names) mask_size i h from-seen

  -- the rows of all depths
  pub rows-count : (e : Name) (outer names : List Name) → length (rows_from s e outer names) ≡ suc (length names)
  unfolding rows_from
  rows-count e outer [] = refl
  rows-count e outer (n ∷ names) = ap suc (rows-count n (outer ++ (n ∷ [])) names)

  pub rows-width : (e : Name) (outer names : List Name) → length e ≤ max_name → Short names → OfWidth row_size (rows_from s e outer names)
  unfolding rows_from
  rows-width e outer [] h t = more (row-length e outer h) none
  rows-width e outer (n ∷ names) h t = more (row-length e outer h) (rows-width n (outer ++ (n ∷ [])) names (t n (Memᴰ.head refl)) (λ m k. t m (Memᴰ.tail k)))

  pub row-at : (e : Name) (outer names : List Name) (d : ℕ) → d ≤ length names → get_or (rows_from s e outer names) d [] ≡ row_of s (get_or (e ∷ names) d []) (outer ++ take d names)
  unfolding rows_from
  row-at e outer [] zero h = ap (row_of s e) (sym (append-nil outer))
  row-at e outer [] (suc d) h = absurd (omega arith)
  row-at e outer (n ∷ names) zero h = ap (row_of s e) (sym (append-nil outer))
  row-at e outer (n ∷ names) (suc d) h = row-at n (outer ++ (n ∷ [])) names d (le_of_suc-le-suc h) ∙ ap (row_of s (get_or (n ∷ names) d [])) (append_assoc outer (n ∷ []) (take d names))

  -- one name more is one row more
  pub rows_more : (e : Name) (outer names : List Name) (n : Name)
      → rows_from s e outer (names ++ (n ∷ [])) ≡ rows_from s e outer names ++ (row_of s n (outer ++ (names ++ (n ∷ []))) ∷ [])
  unfolding rows_from
  rows_more e outer [] n = refl
  rows_more e outer (m ∷ names) n =
      ap (λ (l : List (List ℕ)). row_of s e outer ∷ l)
      (rows_more m (outer ++ (m ∷ [])) names n
      ∙ ap (λ (l : List Name). rows_from s m (outer ++ (m ∷ [])) names ++ (row_of s n l ∷ [])) (append_assoc outer (m ∷ []) (names ++ (n ∷ []))))

-- the parts of a run: depth, match bits, rows, zeros
abbrev pub match_bytes : FolderSet → (ℕ → Bool) → List ℕ
match_bytes s matched = bit_bytes (match_bit matched 0 (paths_of s)) mask_size

abbrev pub row_bytes : FolderSet → List Name → List ℕ
row_bytes s names = joined (rows_from s [] [] names)

unfoldable pub zeros_from : ℕ → List ℕ
zeros_from n = replicate (run_size - n) 0

-- the rows of all depths fit
pub rows_fit : (d : ℕ) → d ≤ max_depth → row_at (suc d) ≤ run_size
unfolding rows_at row_size run_size max_depth matches_at mask_size seen_in active_in state_in name_in max_name
rows_fit d h = omega arith

pub row_room : (d : ℕ) (run : List ℕ) → d < max_depth → run_size ≤ length run → row_at (suc d) + row_size ≤ length run
row_room d run h size = omega (arith, mul-suc row_size (suc d), rows_fit (suc d) h)

-- the bytes that the steps of an automaton use are few enough
pub used-room : (a : List ℕ) → step_count a ≤ max_paths * max_steps → used_bytes a ≤ mask_size
unfolding mask_size max_paths max_steps
used-room a h = omega arith

two-more : rows_at ≡ 2 + mask_size
unfolding rows_at matches_at
two-more = refl

pub bits-length : (f : ℕ → Bool) → length (bit_bytes f mask_size) ≡ mask_size
bits-length f = tabulate-length (byte_of f) mask_size

regroup : (h m r z rest : List ℕ) → ((h ++ (m ++ r)) ++ z) ++ rest ≡ h ++ (m ++ (r ++ (z ++ rest)))
regroup h m r z rest = simp append_assoc

pub short-at : (names : List Name) (d : ℕ) → d ≤ length names → Short names → length (get_or ([] ∷ names) d []) ≤ max_name
short-at names zero h t = omega arith
short-at names (suc d) h t = t (get_or names d []) (at-among names [] d h)

module _ (s : FolderSet) (names : List Name) (matched : ℕ → Bool) (deep : length names ≤ max_depth) (short : Short names) where
  width : OfWidth row_size (rows_from s [] [] names)
  width = rows-width s [] [] names (omega arith) short

  pub row-bytes : length (row_bytes s names) ≡ row_size * suc (length names)
  row-bytes = joined_length width ∙ ap (λ (n : ℕ). row_size * n) (rows-count s [] [] names)

  used : length (le16 (length names) ++ (match_bytes s matched ++ row_bytes s names)) ≡ row_at (suc (length names))
  used = omega (arith, two-more, row-bytes, bits-length (match_bit matched 0 (paths_of s)), length-append (match_bytes s matched) (row_bytes s names))

  -- a run is as long as a run must be
  pub run_length-is : length (run_with s names matched) ≡ run_size
  unfolding run_with
  run_length-is = length-padded run_size _ (rw used (rows_fit (length names) deep))

  pub run-parts : (rest : List ℕ)
      → run_with s names matched ++ rest ≡ le16 (length names) ++ (match_bytes s matched ++ (row_bytes s names ++ (zeros_from (row_at (suc (length names))) ++ rest)))
  unfolding run_with padded zeros_from
  run-parts rest =
      regroup (le16 (length names)) (match_bytes s matched) (row_bytes s names) (replicate (run_size - length (le16 (length names) ++ (match_bytes s matched ++ row_bytes s names))) 0) rest
      ∙ ap (λ (n : ℕ). le16 (length names) ++ (match_bytes s matched ++ (row_bytes s names ++ (replicate (run_size - n) 0 ++ rest)))) used

  module _ (rest : List ℕ) where
    from-depth : Stands depth_at (le16 (length names) ++ (match_bytes s matched ++ (row_bytes s names ++ (zeros_from (row_at (suc (length names))) ++ rest)))) (run_with s names matched ++ rest)
    from-depth = record { before = []; after = []; split = run-parts rest ∙ sym (append-nil _); size = refl }

    from-matches : Stands matches_at (match_bytes s matched ++ (row_bytes s names ++ (zeros_from (row_at (suc (length names))) ++ rest))) (run_with s names matched ++ rest)
    unfolding matches_at
    from-matches = right (le16 (length names)) _ depth_at matches_at refl from-depth

    from-rows : Stands rows_at (row_bytes s names ++ (zeros_from (row_at (suc (length names))) ++ rest)) (run_with s names matched ++ rest)
    unfolding rows_at
    from-rows = right (match_bytes s matched) _ matches_at rows_at (rw (bits-length (match_bit matched 0 (paths_of s)))) from-matches

    row-stands : (d : ℕ) → d ≤ length names → Stands (row_at d) (row_of s (get_or ([] ∷ names) d []) (take d names)) (run_with s names matched ++ rest)
    row-stands d h =
        subst (λ (r : List ℕ). Stands (row_at d) r (run_with s names matched ++ rest)) (row-at s [] [] names d h)
        (entry d width (omega (arith, rows-count s [] [] names)) (left (row_bytes s names) _ from-rows))

    row-short : (d : ℕ) → d ≤ length names → length (get_or ([] ∷ names) d []) ≤ max_name
    row-short d h = short-at names d h short

    -- what is read of it
    pub depth-read : depth_of (run_with s names matched ++ rest) ≡ length names
    unfolding depth_of max_depth
    depth-read = word_read (length names) 0 (omega arith) (left (le16 (length names)) _ from-depth)

    pub matched-read : (i : ℕ) → i < 8 * mask_size → matched_at (run_with s names matched ++ rest) i ≡ match_bit matched 0 (paths_of s) i
    matched-read i h = bits-read (match_bit matched 0 (paths_of s)) mask_size i h (left (match_bytes s matched) _ from-matches)

    module _ (d : ℕ) (h : d ≤ length names) where
      pub length_at : name_length (run_with s names matched ++ rest) d ≡ length (get_or ([] ∷ names) d [])
      length_at = length-read s (get_or ([] ∷ names) d []) (take d names) (row-short d h) (row-stands d h)

      -- the name of depth d, which is empty for depth 0
      pub name-at : stored_name (run_with s names matched ++ rest) d ≡ get_or ([] ∷ names) d []
      name-at = name-read s (get_or ([] ∷ names) d []) (take d names) (row-short d h) (row-stands d h)

      pub state-at : Fitting s → state_at (run_with s names matched ++ rest) d ≡ state_of s (prefix_of s (take d names))
      state-at f = state-read s (get_or ([] ∷ names) d []) (take d names) (row-short d h) (row-stands d h) f

      pub active-at : (i : ℕ) → i < 8 * mask_size → active_at (run_with s names matched ++ rest) d i ≡ active_bits s (take d names) i
      active-at i k = active-read s (get_or ([] ∷ names) d []) (take d names) (row-short d h) (row-stands d h) i k

      pub seen-at : (i : ℕ) → i < 8 * mask_size → seen_at (run_with s names matched ++ rest) d i ≡ seen_bits s (take d names) i
      seen-at i k = seen_read s (get_or ([] ∷ names) d []) (take d names) (row-short d h) (row-stands d h) i k
