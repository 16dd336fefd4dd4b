-- A turn of each loop of the listing: one place, or one folder, more.
use Prim.Native.Nat.{ℕ, suc, ◌+◌, ◌-◌, ◌<◌, ◌≤◌}
use native.Mathlib.Omega.{arith}
use native.Mathlib.Numerals.{add-one}
use mathlib.Core.Path.{◌≡◌, sym, ap}
use mathlib.Core.Bool.{Bool, true, false, cond}
use mathlib.Core.List.{List, [], ◌∷◌, ◌++◌, map, append_assoc}
use Rattle.model.specs.Folders.{count_from}
use Rattle.stored.specs.HeldSet.{folder_held}
use Rattle.stored.specs.Asking.{place_matched, any_matched, paths_of_folder}
use Rattle.text.specs.Bytes.{joined}
use Rattle.text.specs.Decimal.{decimal}
use Rattle.text.specs.Output.{Adds, no_pieces}
use Rattle.text.proofs.Laws.Output.{and_then, same_bytes}
use Rattle.notation.specs.Print.{folder_word, footer}
use Rattle.filing.specs.Listing.{moves_word, moves_line}
use Rattle.filing.specs.Listed.{path_listed, if_matched, paths_listed, line_listed, line_at, folder_listed}

-- the first of the numbers up to an end, and what is left of them there
count_next : (i end : ℕ) → i < end → count_from i (end - i) ≡ i ∷ count_from (i + 1) (end - (i + 1))
unfolding count_from
count_next i end h =
    let k : end - i ≡ suc (end - (i + 1)) = omega arith in
    rw (k, add-one i, count_from)

count_done : (i end : ℕ) → end ≤ i → count_from i (end - i) ≡ []
unfolding count_from
count_done i end h =
    let k : end - i ≡ 0 = omega arith in
    rw k

-- a turn of a loop that puts a text for each number up to an end, told from what is left
module _ {S : Type 0} {puts : S → List ℕ → S} (f : ℕ → List ℕ) (i end : ℕ) where
  pub turn : {s t u : S} → i < end → Adds puts s (f i) t → Adds puts t (joined (map f (count_from (i + 1) (end - (i + 1))))) u
      → Adds puts s (joined (map f (count_from i (end - i)))) u
  unfolding joined
  turn h x y = same_bytes (and_then x y) (sym (ap (λ (l : List ℕ). joined (map f l)) (count_next i end h)))

  pub turned : {s : S} → end ≤ i → Adds puts s (joined (map f (count_from i (end - i)))) s
  unfolding joined
  turned h = same_bytes no_pieces (sym (ap (λ (l : List ℕ). joined (map f l)) (count_done i end h)))

-- a place that is matched, and one that is not
pub path-yes : (a run : List ℕ) (place : ℕ) → place_matched a run (record { 0 = place }) ≡ true → path_listed a place ≡ if_matched a run place
path-yes a run place e = sym (ap (λ (b : Bool). cond b (path_listed a place) []) e)

pub path-no : (a run : List ℕ) (place : ℕ) → place_matched a run (record { 0 = place }) ≡ false → [] ≡ if_matched a run place
path-no a run place e = sym (ap (λ (b : Bool). cond b (path_listed a place) []) e)

-- a folder that is matched, and one that is not
pub folder-yes : (a run : List ℕ) (i : ℕ) → any_matched a run (paths_of_folder (folder_held a i)) ≡ true → line_at a run (folder_held a i) ≡ folder_listed a run i
unfolding folder_listed
folder-yes a run i e = sym (ap (λ (b : Bool). cond b (line_at a run (folder_held a i)) []) e)

pub folder-no : (a run : List ℕ) (i : ℕ) → any_matched a run (paths_of_folder (folder_held a i)) ≡ false → [] ≡ folder_listed a run i
unfolding folder_listed
folder-no a run i e = sym (ap (λ (b : Bool). cond b (line_at a run (folder_held a i)) []) e)

-- a head and what follows it are one line
pub line-joined : (a run : List ℕ) (number : ℕ) (places : List ℕ) → (folder_word ++ decimal number) ++ (paths_listed a run places ++ footer) ≡ line_listed a run number places
unfolding line_listed
line-joined a run number places = append_assoc folder_word (decimal number) (paths_listed a run places ++ footer)

pub moves-joined : (opens moves : ℕ) → (moves_word ++ decimal opens) ++ ((32 ∷ []) ++ (decimal moves ++ footer)) ≡ moves_line opens moves
unfolding moves_line
moves-joined opens moves = append_assoc moves_word (decimal opens) ((32 ∷ []) ++ (decimal moves ++ footer))
