-- Adding folders changes no other folder's matches while the larger set is accepted.
use Prim.Native.Nat.{ℕ, ◌<◌}
use mathlib.Core.Path.{◌≡◌, refl, sym, ◌∙◌, ap, subst}
use mathlib.Core.Bool.{Bool, true, false, cond}
use mathlib.Core.Logic.{◌⊎◌, inl, inr}
use mathlib.Core.List.Memᴰ
use mathlib.Core.List.{List, [], ◌∷◌, ◌++◌, cons≢nil, Memᴰ}
use native.Mathlib.Omega.{arith}
use lib.Dec.{leb}
use borrow.Author.Tests.{leb-false}
use Rattle.notation.specs.Sets.{Path, Folder, folder, FolderSet, folder_number, folder_paths}
use Rattle.notation.specs.Form.{paths_faults, faults_after, faults}
use Rattle.text.specs.declared.refusals.Refusal.{Refusal}
use Rattle.text.specs.declared.refusals.Refusal.TheVariants.{OutOfOrder}
use Rattle.notation.specs.Fit.{Fits}
use Rattle.model.specs.Calls.{as_left, Call, open_call, open_names, path_of_place, run}
use Rattle.model.specs.Folders.{places_of, folder_matched, HasFolders}
use Rattle.model.proofs.Laws.Machine.Matches.{run-matched}
use Rattle.model.proofs.Laws.Machine.Folders.{folder-matched, PathOf, place-path, path-place}
use Rattle.model.proofs.Laws.Machine.Alike.{same-accepted, same_names}
use Rattle.text.proofs.Laws.Tests.{same_test}

-- a path matched under one set is matched under another that has it, at its place there
path-matched : (a b : FolderSet) (calls : List Call) (i j : ℕ) → path_of_place a i ≡ path_of_place b j → (run a calls).matched i ≡ true → (run b calls).matched j ≡ true
path-matched a b calls i j e m =
    let f = (run-matched a calls i).0 m in
    (run-matched b calls j).1 (record {
      before = f.before;
      name = f.name;
      later = f.later;
      joined = f.joined;
      is_accepted = same-accepted b a f.before (open_call as_left f.name) ∙ f.is_accepted;
      fitted = subst (λ (p : Path). Fits p (open_names (run b (f.before ++ (open_call as_left f.name ∷ []))))) e (subst (Fits (path_of_place a i)) (same_names a b (f.before ++ (open_call as_left f.name ∷ []))) f.fitted);
    })

-- a folder whose every path of its number in one set belongs to a folder of that number in the other
carried : (a b : FolderSet) (number : ℕ) → ((path : Path) → PathOf a number path → PathOf b number path) → (calls : List Call) → folder_matched a (run a calls) number ≡ true → folder_matched b (run b calls) number ≡ true
carried a b number has calls h =
    let m = (folder-matched a (run a calls) number).0 h in
    let o = has (path_of_place a m.place) (place-path a number m.place m.of_folder) in
    let q = path-place b o.owner (path_of_place a m.place) o.in_set o.path-in in
    (folder-matched b (run b calls) number).1 (record {
      place = q.place;
      of_folder = subst (λ (k : ℕ). Memᴰ q.place (places_of b k)) o.numbered q.of_folder;
      is_matched = path-matched a b calls m.place q.place (sym q.path-at) m.is_matched;
    })

-- numbers that rise are all different
no-faults : (b : Bool) (r : Refusal) (l : List Refusal) → cond b (r ∷ []) [] ++ l ≡ [] → (b ≡ false) × (l ≡ [])
no-faults true r l h = absurd (cons≢nil h)
no-faults false r l h = (refl, h)

append-none : (l k : List Refusal) → l ++ k ≡ [] → k ≡ []
append-none [] k h = h
append-none (r ∷ l) k h = absurd (cons≢nil h)

above : (fs : FolderSet) (last : ℕ) → faults_after last fs ≡ [] → (f : Folder) → Memᴰ f fs → last < folder_number f
unfolding faults_after
above [] last h f m = absurd (Memᴰ.not-nil m)
above (folder n ps ∷ fs) last h f m =
    let a = no-faults (leb n last) OutOfOrder (paths_faults ps ++ faults_after n fs) h in
    let l : last < n = leb-false n last a.0 in
    go l (above fs n (append-none (paths_faults ps) (faults_after n fs) a.1) f) (Memᴰ.cases_cons m)
  where
    go : last < n → (Memᴰ f fs → n < folder_number f) → (f ≡ folder n ps) ⊎ Memᴰ f fs → last < folder_number f
    go l r (inl e) = omega (arith, ap folder_number e)
    go l r (inr t) = omega (arith, r t)

different : (fs : FolderSet) (last : ℕ) → faults_after last fs ≡ [] → (f g : Folder) → Memᴰ f fs → Memᴰ g fs → folder_number f ≡ folder_number g → f ≡ g
unfolding faults_after
different [] last h f g m k e = absurd (Memᴰ.not-nil m)
different (folder n ps ∷ fs) last h f g m k e =
    let a = no-faults (leb n last) OutOfOrder (paths_faults ps ++ faults_after n fs) h in
    let r = append-none (paths_faults ps) (faults_after n fs) a.1 in
    go (above fs n r) (different fs n r f g) (Memᴰ.cases_cons m) (Memᴰ.cases_cons k)
  where
    go : ((x : Folder) → Memᴰ x fs → n < folder_number x) → (Memᴰ f fs → Memᴰ g fs → folder_number f ≡ folder_number g → f ≡ g) → (f ≡ folder n ps) ⊎ Memᴰ f fs → (g ≡ folder n ps) ⊎ Memᴰ g fs → f ≡ g
    go u d (inl p) (inl q) = p ∙ sym q
    go u d (inl p) (inr t) = absurd (omega (arith, u g t, ap folder_number p))
    go u d (inr s) (inl q) = absurd (omega (arith, u f s, ap folder_number q))
    go u d (inr s) (inr t) = d s t e

-- for a larger set without faults that has all folders of the smaller, after any calls each folder of the smaller is matched by the one
-- exactly when by the other
pub adding-folders : (smaller larger : FolderSet) → HasFolders larger smaller → faults larger ≡ [] → (f : Folder) → Memᴰ f smaller → (calls : List Call)
    → folder_matched smaller (run smaller calls) (folder_number f) ≡ folder_matched larger (run larger calls) (folder_number f)
adding-folders smaller larger has none f m calls =
    same_test _ _ (carried smaller larger (folder_number f) up calls) (carried larger smaller (folder_number f) down calls)
  where
    up : (path : Path) → PathOf smaller (folder_number f) path → PathOf larger (folder_number f) path
    up path o = record { owner = o.owner; in_set = has o.owner o.in_set; numbered = o.numbered; path-in = o.path-in }

    down : (path : Path) → PathOf larger (folder_number f) path → PathOf smaller (folder_number f) path
    down path o =
        let e : o.owner ≡ f = different larger 0 none o.owner f o.in_set (has f m) o.numbered in
        record { owner = f; in_set = m; numbered = refl; path-in = subst (λ (g : Folder). Memᴰ path (folder_paths g)) e o.path-in }
