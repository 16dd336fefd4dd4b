-- What holds after every list of calls: the current prefix is that of the open names and closing brings back the one before; names are
-- well formed, depth and opens within their limits, and opens = closes + open elements.
use Prim.Native.Nat.{suc, ◌+◌, ◌≤◌}
use mathlib.Core.Path.{◌≡◌, refl, sym, ◌∙◌, ap, subst}
use mathlib.Core.Bool.{Bool, true, false, not, ◌&&◌, and-false}
use mathlib.Core.Logic.{◌⊎◌, inl, inr}
use mathlib.Core.List.Memᴰ
use mathlib.Core.List.{List, [], ◌∷◌, map, reverse, reverse-cons, Memᴰ}
use native.Mathlib.Omega.{arith}
use lib.Dec.{ltb}
use lib.ListN.{length, length-map, length-reverse}
use borrow.Author.Tests.{leb-false, lt-ltb}
use Rattle.text.specs.Names.{max_name, Name, name_form, too_long}
use Rattle.notation.specs.Sets.{FolderSet}
use Rattle.text.specs.Lists.{non_empty}
use Rattle.model.specs.Limits.{max_depth, max_opens}
use Rattle.model.specs.Words.{Word}
use Rattle.model.specs.Prefix.{longest_end, prefix_of}
use Rattle.model.specs.Walk.{walk, arrived_at}
use Rattle.model.specs.Calls.{Call, Level, level, name_of, State, names_of, open_names, depth, nothing_open, fresh, opened, closed_from, run}
use Rattle.model.proofs.Laws.Keywords.Prefix.{length-prefix}
use Rattle.model.proofs.Laws.Keywords.Walk.{walk-current}
use Rattle.model.proofs.Laws.Machine.Calls.{Openable, Closable, always}
use Rattle.model.proofs.Laws.Machine.Steps.{names-opened}

-- of the open elements, innermost first: each name is well formed, and each element keeps the current prefix of the names around it
pub data Kept (set : FolderSet) : List Level → Type 0 where
  none : Kept set []
  more : {n : Name} {w : Word} {outer : List Level} → name_form n ≡ true → too_long n ≡ false → w ≡ prefix_of set (names_of outer) → Kept set outer → Kept set (level n w ∷ outer)

kept_word : {set : FolderSet} {n : Name} {w : Word} {outer : List Level} → Kept set (level n w ∷ outer) → w ≡ prefix_of set (names_of outer)
kept_word (more f l p k) = p

kept-outer : {set : FolderSet} {n : Name} {w : Word} {outer : List Level} → Kept set (level n w ∷ outer) → Kept set outer
kept-outer (more f l p k) = k

pub record Sound (set : FolderSet) (s : State) : Type 0 where
  pub prefix : s.current ≡ prefix_of set (open_names s)
  pub kept : Kept set s.levels
  pub shallow : depth s ≤ max_depth
  pub few : s.opens ≤ max_opens
  pub balance : s.opens ≡ s.closes + depth s
  pub root : s.root_closed ≡ (ltb 0 s.opens && nothing_open s)

pub fresh-sound : (set : FolderSet) → Sound set (fresh set)
unfolding fresh prefix_of longest_end
fresh-sound set = record { prefix = refl; kept = none; shallow = omega arith; few = omega arith; balance = refl; root = refl }

pub open-sound : (set : FolderSet) (s : State) (e : Name) → Openable s e → Sound set s → Sound set (opened set s e)
unfolding opened
open-sound set s e o g = record {
  prefix = ap (λ (w : Word). arrived_at (walk set w e)) g.prefix ∙ (walk-current set (open_names s) e ∙ ap (prefix_of set) (sym (names-opened set s e)));
  kept = more o.form o.short g.prefix g.kept;
  shallow = o.shallow;
  few = o.few;
  balance = omega (arith, g.balance);
  root = o.root ∙ sym (and-false (ltb 0 (suc s.opens)));
}

pub close-sound : (set : FolderSet) (s : State) (e : Name) (c : Closable s e) → Sound set s → Sound set (closed_from (level e c.before ∷ c.outer) s)
unfolding closed_from
close-sound set s e c g =
    let k : Kept set (level e c.before ∷ c.outer) = subst (Kept set) c.innermost g.kept in
    let d : length s.levels ≡ suc (length c.outer) = ap length c.innermost in
    record {
      prefix = kept_word k;
      kept = kept-outer k;
      shallow = omega (arith, g.shallow);
      few = g.few;
      balance = omega (arith, g.balance);
      root = ap (λ (b : Bool). b && not (non_empty c.outer)) (sym (lt-ltb 0 s.opens (omega (arith, g.balance))));
    }

-- the current prefix has at most one symbol more than elements are open
pub current-length : (set : FolderSet) (s : State) → Sound set s → length s.current ≤ suc (depth s)
current-length set s g = omega (arith, ap length g.prefix, length-prefix set (open_names s), length-reverse (map name_of s.levels), length-map s.levels name_of)

-- after every list of calls from a fresh machine
pub sound : (set : FolderSet) (calls : List Call) → Sound set (run set calls)
sound set calls = always set (λ s h. Sound set s) (λ s h e o g. open-sound set s e o g) (λ s h e c g. close-sound set s e c g) calls (fresh set) [] (fresh-sound set)

-- the current prefix is that of the open names
pub run-prefix : (set : FolderSet) (calls : List Call) → (run set calls).current ≡ prefix_of set (open_names (run set calls))
run-prefix set calls = (sound set calls).prefix

-- at most 64 elements are open, at most 65,535 opens are accepted
pub run-depth : (set : FolderSet) (calls : List Call) → length (open_names (run set calls)) ≤ max_depth
run-depth set calls =
    let s = run set calls in
    omega (arith, (sound set calls).shallow, length-reverse (map name_of s.levels), length-map s.levels name_of)

pub run-opens : (set : FolderSet) (calls : List Call) → (run set calls).opens ≤ max_opens
run-opens set calls = (sound set calls).few

-- accepted opens = accepted closes + open elements
pub run-balance : (set : FolderSet) (calls : List Call) → (run set calls).opens ≡ (run set calls).closes + length (open_names (run set calls))
run-balance set calls =
    let s = run set calls in
    omega (arith, (sound set calls).balance, length-reverse (map name_of s.levels), length-map s.levels name_of)

-- the root is closed exactly when an open was accepted and nothing is open
pub run-root : (set : FolderSet) (calls : List Call) → (run set calls).root_closed ≡ (ltb 0 (run set calls).opens && nothing_open (run set calls))
run-root set calls = (sound set calls).root

mem-reverse : {A : Type 0} {a : A} (l : List A) → Memᴰ a (reverse l) → Memᴰ a l
mem-reverse [] m = m
mem-reverse {a} (b ∷ l) m = go (λ t. mem-reverse l t) (Memᴰ.append_cases (reverse l) (subst (Memᴰ a) (reverse-cons b l) m))
  where
    go : (Memᴰ a (reverse l) → Memᴰ a l) → Memᴰ a (reverse l) ⊎ Memᴰ a (b ∷ []) → Memᴰ a (b ∷ l)
    go f (inl p) = Memᴰ.tail (f p)
    go f (inr q) = Memᴰ.head (Memᴰ.eq_of_singleton q)

kept-formed : {set : FolderSet} (levels : List Level) → Kept set levels → (n : Name) → Memᴰ n (map name_of levels) → (name_form n ≡ true) × (too_long n ≡ false)
kept-formed [] k n m = absurd (Memᴰ.not-nil m)
kept-formed (level a w ∷ outer) (more f l p k) n m = elim (Memᴰ.cases_cons m) [
  | inl e ↦ (ap name_form e ∙ f, ap (λ (x : Name). too_long x) e ∙ l)
  | inr r ↦ kept-formed outer k n r
]

-- each open name has name form and is not too long
pub sound-names : (set : FolderSet) (s : State) → Sound set s → (n : Name) → Memᴰ n (open_names s) → (name_form n ≡ true) × (too_long n ≡ false)
sound-names set s g n m = kept-formed s.levels g.kept n (mem-reverse (map name_of s.levels) m)

pub run-names : (set : FolderSet) (calls : List Call) (n : Name) → Memᴰ n (open_names (run set calls)) → (name_form n ≡ true) × (too_long n ≡ false)
run-names set calls n m = sound-names set (run set calls) (sound set calls) n m

pub run-name-length : (set : FolderSet) (calls : List Call) (n : Name) → Memᴰ n (open_names (run set calls)) → length n ≤ max_name
run-name-length set calls n m = omega (arith, leb-false (suc max_name) (length n) (run-names set calls n m).1)
