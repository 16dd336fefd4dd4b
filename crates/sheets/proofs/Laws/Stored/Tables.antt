-- The tables from which a sheet is made hold its rows: matched places one after the other, and the number of each place's folder.
use Rattle.std.proofs.Common.{Option, Some, None}
use Prim.Native.Nat.{ℕ, zero, suc, ◌+◌, ◌-◌, ◌≤◌, ◌<◌, min}
use native.Mathlib.Omega.{arith}
use native.Mathlib.Nat.{zero-add}
use native.Mathlib.Numerals.{add-one}
use borrow.Rule.Slice.PartMut.{put_mid}
use mathlib.Core.Path.{◌≡◌, refl, sym, ◌∙◌, ap}
use mathlib.Core.Bool.{Bool, true, false, cond}
use mathlib.Core.List.{List, [], ◌∷◌, ◌++◌, map, append-nil}
use lib.Dec.{leb}
use lib.ListN.{length, get_or, take, drop, replicate, length-take, length-drop, length-append, length-replicate, length-map, get_or-map, get_or-append}
use Rattle.std.proofs.lemmas.List.{get_or-append_right, get_or-replicate, drop_all}
use lib.Seq.{get_or-take}
use borrow.Author.Tests.{leb-true, leb-false, le-leb, lt-leb}
use Rattle.text.specs.Bytes.{joined}
use Rattle.notation.specs.Limits.{max_number, max_paths}
use Rattle.notation.specs.declared.reads.StoredFolder.{StoredFolder}
use Rattle.model.specs.Folders.{count_from}
use Rattle.stored.specs.Shape.{automaton_shaped}
use Rattle.stored.specs.HeldSet.{folders_held, folder_held}
use Rattle.stored.specs.Asking.{place_matched}
use Rattle.stored.proofs.Laws.Shapes.Held.{number_held, number-most}
use Rattle.text.proofs.Laws.Tests.{cases}
use Rattle.sheets.specs.Limits.{line_width}
use Rattle.sheets.specs.Sheet.{spaces, body_line, body_at}
use Rattle.sheets.specs.SheetIn.{if_place_matched, matched_from, matched_places, or_before, number_among, place_row, rows_in}
use Rattle.sheets.specs.Code.Rows.{Numbered, table_row, table_rows, InTables}
use Rattle.sheets.proofs.Laws.Page.Counted.{joined-more}
use Rattle.sheets.proofs.Laws.Page.Lines.{body_is-is, body-none}

behind : (l : List ℕ) (x top : ℕ) → x < top → ((i : ℕ) → i < length l → get_or l i 0 < top) → (j : ℕ) → j < suc (length l) → get_or (x ∷ l) j 0 < top
behind l x top h e zero k = h
behind l x top h e (suc j) k = e j (omega arith)

-- one place more
module _ (a run : List ℕ) where
  pub place-added : (n : ℕ) → place_matched a run (record { 0 = n }) ≡ true → matched_from a run 0 n ++ (n ∷ []) ≡ matched_from a run 0 (suc n)
  place-added n t = ap (λ (b : Bool). matched_from a run 0 n ++ cond b (n ∷ []) []) (sym t) ∙ rw zero-add at (joined-more (if_place_matched a run) 0 n)

  pub place-left : (n : ℕ) → place_matched a run (record { 0 = n }) ≡ false → matched_from a run 0 n ≡ matched_from a run 0 (suc n)
  place-left n f =
      sym (append-nil (matched_from a run 0 n)) ∙ ap (λ (b : Bool). matched_from a run 0 n ++ cond b (n ∷ []) []) (sym f) ∙ rw zero-add at (joined-more (if_place_matched a run) 0 n)

  pub matched-few : (first n : ℕ) → length (matched_from a run first n) ≤ n
  unfolding joined count_from
  matched-few first zero = omega arith
  matched-few first (suc n) =
      let later = matched-few (suc first) n in
      cases (place_matched a run (record { 0 = first })) (λ t. rw t (omega arith)) (λ f. rw f (omega arith))

  matched-below : (first n top j : ℕ) → first + n ≤ top → j < length (matched_from a run first n) → get_or (matched_from a run first n) j 0 < top
  unfolding joined count_from
  matched-below first zero top j h k = absurd (omega arith)
  matched-below first (suc n) top j h k =
      let later : (i : ℕ) → i < length (matched_from a run (suc first) n) → get_or (matched_from a run (suc first) n) i 0 < top = λ i l. matched-below (suc first) n top i (omega arith) l in
      cases (place_matched a run (record { 0 = first })) (λ t. rw t (behind (matched_from a run (suc first) n) first top (omega arith) later j (rw t at k))) (λ f. rw f (later j (rw f at k)))

-- one number from a place on
pub filled : (before : List ℕ) (from number : ℕ) (p : ℕ) → p < length before
    → get_or (take from before ++ replicate (length before - from) number) p 0 ≡ cond (leb from p) number (get_or before p 0)
filled before from number p k =
    let front = take from before in
    let many = length-take from before in
    cases (leb from p)
    (λ t.
    let low : from ≤ p = leb-true from p t in
    let at : length front ≡ from = omega arith in
    rw t (get_or-append_right front (replicate (length before - from) number) from p 0 at low ∙ get_or-replicate (length before - from) (p - from) number 0 (omega arith)))
    (λ f.
    let high : p < from = leb-false from p f in
    rw f (get_or-append front (replicate (length before - from) number) 0 p (omega arith) ∙ get_or-take from before p 0 high))

pub among-most : (a : List ℕ) → automaton_shaped a ≡ true → (place n : ℕ) → number_among a place n ≤ max_number
unfolding number_among
among-most a h place zero = omega arith
among-most a h place (suc n) = go (folder_held a n) (number-most a h n) (among-most a h place n)
  where
    go : (f : Option StoredFolder) → number_held f ≤ max_number → number_among a place n ≤ max_number → or_before f place (number_among a place n) ≤ max_number
    go (Some f) k l = cases (leb f.first.0 place) (λ t. rw t k) (λ u. rw u l)
    go None k l = l

-- no folder, and one more
pub numbered-none : (a : List ℕ) → Numbered a 0 (replicate max_paths 0)
unfolding number_among
numbered-none a = record { size = length-replicate max_paths 0; each = λ p k. get_or-replicate max_paths p 0 0 k }

module _ (a : List ℕ) (i : ℕ) (numbers : List ℕ) (n : Numbered a i numbers) where
  -- a folder that is there is entered from its first path on
  pub numbered_some : (folder : StoredFolder) → folder_held a i ≡ Some folder → (from k m : ℕ) (part : List ℕ) → from ≡ min folder.first.0 max_paths → k ≡ max_paths - from
      → part ≡ replicate m folder.number.0 → m ≡ max_paths - from → Numbered a (i + 1) (put_mid from k numbers part)
  unfolding number_among
  numbered_some folder is from k m part e z f g =
      let number = folder.number.0 in
      let none : drop k (drop from numbers) ≡ [] = drop_all k (drop from numbers) (omega (arith, length-drop from numbers, n.size)) in
      let same : m ≡ length numbers - from = omega (arith, n.size) in
      let front = take from numbers in
      let part-size = length-replicate (length numbers - from) number in
      rw (none, append-nil, f, same, add-one) (record {
        size = omega (arith, length-append front (replicate (length numbers - from) number), length-take from numbers, part-size, n.size);
        each = λ p h.
            let low : leb from p ≡ leb folder.first.0 p = cases (leb folder.first.0 p)
            (λ t. le-leb from p (omega (arith, leb-true folder.first.0 p t)) ∙ sym t)
            (λ u. lt-leb from p (omega (arith, leb-false folder.first.0 p u)) ∙ sym u) in
            filled numbers from number p (omega (arith, n.size)) ∙ rw (low, n.each p h, is);
      })

  pub numbered_same : folder_held a i ≡ None → Numbered a (i + 1) numbers
  unfolding number_among
  numbered_same is = rw add-one (record { size = n.size; each = λ p h. n.each p h ∙ rw is })

-- body lines by the tables
module _ (a places numbers : List ℕ) where
  pub rows_many : length (table_rows a places numbers) ≡ length places
  unfolding table_rows
  rows_many = length-map places (table_row a numbers)

  pub table-row : (j : ℕ) → j < length places → body_at (table_rows a places numbers) j ≡ body_line (table_row a numbers (get_or places j 0))
  unfolding table_rows
  table-row j h =
      body_is-is (map (table_row a numbers) places) j (table_row a numbers 0) (rw (length-map places (table_row a numbers)) h)
      ∙ ap body_line (get_or-map (table_row a numbers) places j 0)

  pub table_none : (j : ℕ) → length places ≤ j → body_at (table_rows a places numbers) j ≡ spaces line_width
  unfolding table_rows
  table_none j h = body-none (map (table_row a numbers) places) j (rw (length-map places (table_row a numbers)) h)

-- the tables of an automaton and a run
module _ (a run numbers : List ℕ) (n : Numbered a (folders_held a) numbers) where
  pub in_tables : InTables (matched_places a run) numbers
  in_tables = record {
    few = matched-few a run 0 max_paths;
    size = n.size;
    inside = λ j k. matched-below a run 0 max_paths max_paths j (omega arith) k;
  }

  rows_same : (first m : ℕ) → first + m ≤ max_paths → map (table_row a numbers) (matched_from a run first m) ≡ map (place_row a) (matched_from a run first m)
  unfolding joined count_from table_row
  rows_same first zero h = refl
  rows_same first (suc m) h =
      cases (place_matched a run (record { 0 = first }))
      (λ t. rw (t, n.each first (omega arith), rows_same (suc first) m (omega arith)))
      (λ f. rw f (rows_same (suc first) m (omega arith)))

  pub rows_are : table_rows a (matched_places a run) numbers ≡ rows_in a run
  unfolding table_rows rows_in
  rows_are = rows_same 0 max_paths (omega arith)

pub ruleset lines = (table-row, table_none)

pub ruleset tables = (in_tables, rows_are)
