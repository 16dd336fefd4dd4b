-- A folder is matched exactly when one of its paths is; the places of a folder's number are those of the paths of its folders.
use Prim.Native.Nat.{ℕ, zero, suc, ◌+◌, ◌<◌}
use mathlib.Core.Path.{◌≡◌, refl, sym, ◌∙◌, ap, subst}
use mathlib.Core.Bool.{Bool, true, cond}
use mathlib.Core.Logic.{◌⊎◌, inl, inr, ◌↔◌}
use mathlib.Core.List.Memᴰ
use mathlib.Core.List.{List, [], ◌∷◌, ◌++◌, append_assoc, Memᴰ}
use native.Mathlib.Omega.{arith}
use lib.Dec.{eqb}
use lib.ListN.{length, get_or, length-append, get_or-append}
use lib.Seq.{get_or-append-add}
use borrow.Author.Tests.{eqb-true, eq-eqb}
use Rattle.notation.specs.Sets.{Path, Folder, folder, FolderSet, folder_number, folder_paths}
use Rattle.notation.specs.Form.{paths_of}
use Rattle.model.specs.Calls.{State, path_of_place}
use Rattle.model.specs.Folders.{count_from, places_from, places_of, FolderMatched, folder_matched}
use Rattle.text.proofs.Laws.Tests.{cases}
use Rattle.text.proofs.Laws.Lists.{any-is, is_any}

-- a folder is matched exactly when one of its paths is
pub folder-matched : (set : FolderSet) (s : State) (number : ℕ) → (folder_matched set s number ≡ true) ↔ FolderMatched set s number
folder-matched set s number = (λ h. let r = any-is s.matched (places_of set number) h in record { place = r.0; of_folder = r.1; is_matched = r.2 }, λ m. is_any s.matched (places_of set number) m.of_folder m.is_matched)

in_count : (count first place : ℕ) → Memᴰ place (count_from first count) → (i : ℕ) × (i < count) × (place ≡ first + i)
unfolding count_from
in_count zero first place m = absurd (Memᴰ.not-nil m)
in_count (suc k) first place m = go (λ t. in_count k (suc first) place t) (Memᴰ.cases_cons m)
  where
    go : (Memᴰ place (count_from (suc first) k) → (i : ℕ) × (i < k) × (place ≡ suc first + i)) → (place ≡ first) ⊎ Memᴰ place (count_from (suc first) k) → (i : ℕ) × (i < suc k) × (place ≡ first + i)
    go f (inl e) = (0, omega arith, omega arith)
    go f (inr t) = let r = f t in (suc r.0, omega (arith, r.1), omega (arith, r.2))

count-in : (count first i : ℕ) → i < count → Memᴰ (first + i) (count_from first count)
unfolding count_from
count-in zero first i l = absurd (omega arith)
count-in (suc k) first zero l = Memᴰ.head {x = first} (omega arith)
count-in (suc k) first (suc i) l = let e : first + suc i ≡ suc first + i = omega arith in Memᴰ.tail (Memᴰ.cast e (count-in k (suc first) i (omega arith)))

member-at : {A : Type 0} (l : List A) (d a : A) → Memᴰ a l → (i : ℕ) × (i < length l) × (get_or l i d ≡ a)
member-at [] d a m = absurd (Memᴰ.not-nil m)
member-at {A} (b ∷ l) d a m = go (λ t. member-at l d a t) (Memᴰ.cases_cons m)
  where
    go : (Memᴰ a l → (i : ℕ) × (i < length l) × (get_or l i d ≡ a)) → (a ≡ b) ⊎ Memᴰ a l → (i : ℕ) × (i < length (b ∷ l)) × (get_or (b ∷ l) i d ≡ a)
    go f (inl e) = (0, omega arith, sym e)
    go f (inr t) = let r = f t in (suc r.0, omega (arith, r.1), r.2)

at-member : {A : Type 0} (l : List A) (i : ℕ) (d : A) → i < length l → Memᴰ (get_or l i d) l
at-member [] i d h = absurd (omega arith)
at-member (b ∷ l) zero d h = Memᴰ.head refl
at-member (b ∷ l) (suc i) d h = Memᴰ.tail (at-member l i d (omega arith))

-- the path at a place past `front`
past-front : (front ps rest : List Path) (i : ℕ) → i < length ps → get_or (front ++ (ps ++ rest)) (length front + i) [] ≡ get_or ps i []
past-front front ps rest i l = get_or-append-add front (ps ++ rest) i [] ∙ get_or-append ps rest [] i l

-- the folder of the set whose number this is and whose path stands at the place
pub record PathOf (fs : FolderSet) (number : ℕ) (path : Path) : Type 0 where
  pub owner : Folder
  pub in_set : Memᴰ owner fs
  pub numbered : folder_number owner ≡ number
  pub path-in : Memᴰ path (folder_paths owner)

owned : (n number : ℕ) (ps : List Path) (fs : FolderSet) (front : List Path) (place : ℕ) → Memᴰ place (cond (eqb n number) (count_from (length front) (length ps)) []) → PathOf (folder n ps ∷ fs) number (get_or (front ++ (ps ++ paths_of fs)) place [])
owned n number ps fs front place m = cases (eqb n number)
    (λ t. let r = in_count (length ps) (length front) place (subst (λ (b : Bool). Memᴰ place (cond b (count_from (length front) (length ps)) [])) t m) in
    let e : get_or (front ++ (ps ++ paths_of fs)) place [] ≡ get_or ps r.0 [] = ap (λ (k : ℕ). get_or (front ++ (ps ++ paths_of fs)) k []) r.2 ∙ past-front front ps (paths_of fs) r.0 r.1 in
    record { owner = folder n ps; in_set = Memᴰ.head refl; numbered = eqb-true n number t; path-in = Memᴰ.cast e (at-member ps r.0 [] r.1) })
    (λ f. absurd (Memᴰ.not-nil (subst (λ (b : Bool). Memᴰ place (cond b (count_from (length front) (length ps)) [])) f m)))

places-in : (fs : FolderSet) (front : List Path) (number place : ℕ) → Memᴰ place (places_from (length front) fs number) → PathOf fs number (get_or (front ++ paths_of fs) place [])
unfolding places_from paths_of
places-in [] front number place m = absurd (Memᴰ.not-nil m)
places-in (folder n ps ∷ fs) front number place m =
    go (λ k. places-in fs (front ++ ps) number place k) (Memᴰ.append_cases (cond (eqb n number) (count_from (length front) (length ps)) []) m)
  where
    go : (Memᴰ place (places_from (length (front ++ ps)) fs number) → PathOf fs number (get_or ((front ++ ps) ++ paths_of fs) place []))
        → Memᴰ place (cond (eqb n number) (count_from (length front) (length ps)) []) ⊎ Memᴰ place (places_from (length front + length ps) fs number)
        → PathOf (folder n ps ∷ fs) number (get_or (front ++ (ps ++ paths_of fs)) place [])
    go f (inl t) = owned n number ps fs front place t
    go f (inr t) =
        let r = f (subst (λ (k : ℕ). Memᴰ place (places_from k fs number)) (sym (length-append front ps)) t) in
        record { owner = r.owner; in_set = Memᴰ.tail r.in_set; numbered = r.numbered; path-in = Memᴰ.cast (ap (λ (l : List Path). get_or l place []) (sym (append_assoc front ps (paths_of fs)))) r.path-in }

-- a place of a folder's number holds a path of a folder of that number
pub place-path : (set : FolderSet) (number place : ℕ) → Memᴰ place (places_of set number) → PathOf set number (path_of_place set place)
place-path set number place m = places-in set [] number place m

pub record PlaceOf (set : FolderSet) (first : ℕ) (paths : List Path) (number : ℕ) (path : Path) : Type 0 where
  pub place : ℕ
  pub of_folder : Memᴰ place (places_from first set number)
  pub path-at : get_or paths place [] ≡ path

place-first : (n : ℕ) (ps : List Path) (fs : FolderSet) (front : List Path) (path : Path) → Memᴰ path ps → PlaceOf (folder n ps ∷ fs) (length front) (front ++ (ps ++ paths_of fs)) n path
unfolding places_from
place-first n ps fs front path m =
    let r = member-at ps [] path m in
    record {
      place = length front + r.0;
      of_folder = Memᴰ.append_left (places_from (length front + length ps) fs n) (subst (λ (b : Bool). Memᴰ (length front + r.0) (cond b (count_from (length front) (length ps)) [])) (sym (eq-eqb n n refl)) (count-in (length ps) (length front) r.0 r.1));
      path-at = past-front front ps (paths_of fs) r.0 r.1 ∙ r.2;
    }

in-places : (fs : FolderSet) (front : List Path) (f : Folder) (path : Path) → Memᴰ f fs → Memᴰ path (folder_paths f) → PlaceOf fs (length front) (front ++ paths_of fs) (folder_number f) path
unfolding places_from paths_of
in-places [] front f path m p = absurd (Memᴰ.not-nil m)
in-places (folder n ps ∷ fs) front f path m p = go (λ k. in-places fs (front ++ ps) f path k p) (Memᴰ.cases_cons m)
  where
    go : (Memᴰ f fs → PlaceOf fs (length (front ++ ps)) ((front ++ ps) ++ paths_of fs) (folder_number f) path)
        → (f ≡ folder n ps) ⊎ Memᴰ f fs → PlaceOf (folder n ps ∷ fs) (length front) (front ++ (ps ++ paths_of fs)) (folder_number f) path
    go h (inl e) =
        subst (λ (k : ℕ). PlaceOf (folder n ps ∷ fs) (length front) (front ++ (ps ++ paths_of fs)) k path) (ap folder_number (sym e))
        (place-first n ps fs front path (subst (λ (g : Folder). Memᴰ path (folder_paths g)) e p))
    go h (inr t) =
        let r = h t in
        record {
          place = r.place;
          of_folder = Memᴰ.append_right (cond (eqb n (folder_number f)) (count_from (length front) (length ps)) []) (subst (λ (k : ℕ). Memᴰ r.place (places_from k fs (folder_number f))) (length-append front ps) r.of_folder);
          path-at = ap (λ (l : List Path). get_or l r.place []) (sym (append_assoc front ps (paths_of fs))) ∙ r.path-at;
        }

-- each path of a folder of the set stands at a place of its number
pub path-place : (set : FolderSet) (f : Folder) (path : Path) → Memᴰ f set → Memᴰ path (folder_paths f) → PlaceOf set 0 (paths_of set) (folder_number f) path
path-place set f path m p = in-places set [] f path m p
