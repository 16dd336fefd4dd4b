-- Which words begin a keyword: beside the empty one, `#` where a path begins with `/`, and for each label the run that ends there.
use Prim.Native.Nat.{ℕ}
use mathlib.Core.Path.{◌≡◌, refl, sym, ◌∙◌, ap, subst}
use mathlib.Core.Logic.{◌⊎◌, inl, inr, ◌↔◌}
use mathlib.Core.List.Memᴰ
use mathlib.Core.List.{[], ◌∷◌, ◌++◌, append-nil, append_assoc, cons≢nil, tail-eq_of_cons-eq, head-eq_of_cons-eq, Memᴰ}
use native.Mathlib.Omega.{arith}
use lib.ListN.{length, length-append}
use Rattle.text.specs.Names.{Name}
use Rattle.notation.specs.Sets.{child, descendant, label, star, step, Path, FolderSet}
use Rattle.notation.specs.Form.{paths_of}
use Rattle.model.specs.Words.{Symbol, document, name, Word, ended, cut, before, keywords, label_words, Begins}
use Rattle.model.specs.Walk.{followed_by}

-- no keyword is empty
ended_some : (w k : Word) → Memᴰ k (ended w) → (k ≡ w) × (k ≡ [] → ⊥)
ended_some [] k m = absurd (Memᴰ.not-nil m)
ended_some (s ∷ w) k m = let e = Memᴰ.eq_of_singleton m in (e, λ n. cons≢nil (sym e ∙ n))

cut-some : (p : Path) (w k : Word) → Memᴰ k (cut w p) → k ≡ [] → ⊥
unfolding cut
cut-some [] w k m = (ended_some w k m).1
cut-some (step child (label n) ∷ p) w k m = cut-some p (followed_by w n) k m
cut-some (step child star ∷ p) w k m = elim (Memᴰ.append_cases (ended w) m) [ inl t ↦ (ended_some w k t).1 | inr t ↦ cut-some p [] k t ]
cut-some (step descendant (label n) ∷ p) w k m = elim (Memᴰ.append_cases (ended w) m) [ inl t ↦ (ended_some w k t).1 | inr t ↦ cut-some p (name n ∷ []) k t ]
cut-some (step descendant star ∷ p) w k m = elim (Memᴰ.append_cases (ended w) m) [ inl t ↦ (ended_some w k t).1 | inr t ↦ cut-some p [] k t ]

pub keyword-some : (p : Path) (k : Word) → Memᴰ k (keywords p) → k ≡ [] → ⊥
unfolding keywords
keyword-some p = cut-some p (before p)

-- u is a beginning of k
record Front (u k : Word) : Type 0 where
  rest : Word
  joined : u ++ rest ≡ k

-- a beginning of a word with e is one of the word, or all of it
front-followed : (u w : Word) (e : Name) → Front u (followed_by w e) → Front u w ⊎ (u ≡ followed_by w e)
front-followed [] w e f = inl (record { rest = w; joined = refl })
front-followed (s ∷ u) [] e f = inr (ap (λ (l : Word). s ∷ l) (empty u f.rest (tail-eq_of_cons-eq f.joined)) ∙ ap (λ (x : Symbol). x ∷ []) (head-eq_of_cons-eq f.joined))
  where
    empty : (u r : Word) → u ++ r ≡ [] → u ≡ []
    empty [] r h = refl
    empty (t ∷ u) r h = absurd (cons≢nil h)
front-followed (s ∷ u) (t ∷ w) e f = go (head-eq_of_cons-eq f.joined) (front-followed u w e (record { rest = f.rest; joined = tail-eq_of_cons-eq f.joined }))
  where
    go : s ≡ t → Front u w ⊎ (u ≡ followed_by w e) → Front (s ∷ u) (t ∷ w) ⊎ (s ∷ u ≡ followed_by (t ∷ w) e)
    go h (inl g) = inl (record { rest = g.rest; joined = ap (λ (x : Symbol). x ∷ (u ++ g.rest)) h ∙ ap (λ (l : Word). t ∷ l) g.joined })
    go h (inr g) = inr (ap (λ (x : Symbol). x ∷ u) h ∙ ap (λ (l : Word). t ∷ l) g)

-- a beginning of a keyword is one of the run before, or the run that ends at some label
data Found (u w : Word) (p : Path) : Type 0 where
  infront : Front u w → Found u w p
  none : u ≡ [] → Found u w p
  atlabel : Memᴰ u (label_words w p) → Found u w p

front-empty : (u : Word) → Front u [] → u ≡ []
front-empty [] f = refl
front-empty (s ∷ u) f = absurd (cons≢nil f.joined)

fronts : (p : Path) (w u k : Word) → Memᴰ k (cut w p) → Front u k → Found u w p
unfolding cut label_words
fronts [] w u k m f = infront (subst (Front u) (ended_some w k m).0 f)
fronts (step child (label n) ∷ p) w u k m f = go (fronts p (followed_by w n) u k m f)
  where
    go : Found u (followed_by w n) p → Found u w (step child (label n) ∷ p)
    go (infront g) = elim (front-followed u w n g) [ inl h ↦ infront h | inr e ↦ atlabel (Memᴰ.head e) ]
    go (none e) = none e
    go (atlabel t) = atlabel (Memᴰ.tail t)
fronts (step child star ∷ p) w u k m f = elim (Memᴰ.append_cases (ended w) m) [ inl t ↦ infront (subst (Front u) (ended_some w k t).0 f) | inr t ↦ go (fronts p [] u k t f) ]
  where
    go : Found u [] p → Found u w (step child star ∷ p)
    go (infront g) = none (front-empty u g)
    go (none e) = none e
    go (atlabel t) = atlabel t
fronts (step descendant (label n) ∷ p) w u k m f = elim (Memᴰ.append_cases (ended w) m) [ inl t ↦ infront (subst (Front u) (ended_some w k t).0 f) | inr t ↦ go (fronts p (name n ∷ []) u k t f) ]
  where
    go : Found u (name n ∷ []) p → Found u w (step descendant (label n) ∷ p)
    go (infront g) = elim (front-followed u [] n g) [ inl h ↦ none (front-empty u h) | inr e ↦ atlabel (Memᴰ.head e) ]
    go (none e) = none e
    go (atlabel t) = atlabel (Memᴰ.tail t)
fronts (step descendant star ∷ p) w u k m f = elim (Memᴰ.append_cases (ended w) m) [ inl t ↦ infront (subst (Front u) (ended_some w k t).0 f) | inr t ↦ go (fronts p [] u k t f) ]
  where
    go : Found u [] p → Found u w (step descendant star ∷ p)
    go (infront g) = none (front-empty u g)
    go (none e) = none e
    go (atlabel t) = atlabel t

-- a run goes on to a keyword
record Onward (u w : Word) (p : Path) : Type 0 where
  keyword : Word
  cuts : Memᴰ keyword (cut w p)
  front : Front u keyword

shorter : (u v k : Word) → Front (u ++ v) k → Front u k
shorter u v k f = record { rest = v ++ f.rest; joined = sym (append_assoc u v f.rest) ∙ f.joined }

run_on : (p : Path) (s : Symbol) (w : Word) → Onward (s ∷ w) (s ∷ w) p
unfolding cut
run_on [] s w = record { keyword = s ∷ w; cuts = Memᴰ.head refl; front = record { rest = []; joined = append-nil (s ∷ w) } }
run_on (step child (label n) ∷ p) s w = let r = run_on p s (followed_by w n) in record { keyword = r.keyword; cuts = r.cuts; front = shorter (s ∷ w) (name n ∷ []) r.keyword r.front }
run_on (step child star ∷ p) s w = record { keyword = s ∷ w; cuts = Memᴰ.head refl; front = record { rest = []; joined = append-nil (s ∷ w) } }
run_on (step descendant (label n) ∷ p) s w = record { keyword = s ∷ w; cuts = Memᴰ.head refl; front = record { rest = []; joined = append-nil (s ∷ w) } }
run_on (step descendant star ∷ p) s w = record { keyword = s ∷ w; cuts = Memᴰ.head refl; front = record { rest = []; joined = append-nil (s ∷ w) } }

run-on-label : (p : Path) (w : Word) (n : Name) → Onward (followed_by w n) (followed_by w n) p
run-on-label p [] n = run_on p (name n) []
run-on-label p (s ∷ w) n = run_on p s (followed_by w n)

same_start : (u v w : Word) (p : Path) → u ≡ v → Onward v w p → Onward u w p
same_start u v w p e o = record { keyword = o.keyword; cuts = o.cuts; front = record { rest = o.front.rest; joined = ap (λ (l : Word). l ++ o.front.rest) e ∙ o.front.joined } }

labels-on : (p : Path) (w u : Word) → Memᴰ u (label_words w p) → Onward u w p
unfolding cut label_words
labels-on [] w u m = absurd (Memᴰ.not-nil m)
labels-on (step child (label n) ∷ p) w u m = go (λ t. labels-on p (followed_by w n) u t) (Memᴰ.cases_cons m)
  where
    onward : Onward u (followed_by w n) p → Onward u w (step child (label n) ∷ p)
    onward o = record { keyword = o.keyword; cuts = o.cuts; front = o.front }

    go : (Memᴰ u (label_words (followed_by w n) p) → Onward u (followed_by w n) p) → (u ≡ followed_by w n) ⊎ Memᴰ u (label_words (followed_by w n) p) → Onward u w (step child (label n) ∷ p)
    go f (inl e) = onward (same_start u (followed_by w n) (followed_by w n) p e (run-on-label p w n))
    go f (inr t) = onward (f t)
labels-on (step child star ∷ p) w u m = let o = labels-on p [] u m in record { keyword = o.keyword; cuts = Memᴰ.append_right (ended w) o.cuts; front = o.front }
labels-on (step descendant (label n) ∷ p) w u m = go (λ t. labels-on p (name n ∷ []) u t) (Memᴰ.cases_cons m)
  where
    onward : Onward u (name n ∷ []) p → Onward u w (step descendant (label n) ∷ p)
    onward o = record { keyword = o.keyword; cuts = Memᴰ.append_right (ended w) o.cuts; front = o.front }

    go : (Memᴰ u (label_words (name n ∷ []) p) → Onward u (name n ∷ []) p) → (u ≡ name n ∷ []) ⊎ Memᴰ u (label_words (name n ∷ []) p) → Onward u w (step descendant (label n) ∷ p)
    go f (inl e) = onward (same_start u (name n ∷ []) (name n ∷ []) p e (run_on p (name n) []))
    go f (inr t) = onward (f t)
labels-on (step descendant star ∷ p) w u m = let o = labels-on p [] u m in record { keyword = o.keyword; cuts = Memᴰ.append_right (ended w) o.cuts; front = o.front }

-- the word is the run that ends at some label of the set
pub record LabelWord (set : FolderSet) (u : Word) : Type 0 where
  pub path : Path
  pub of_set : Memᴰ path (paths_of set)
  pub at_label : Memᴰ u (label_words (before path) path)

-- some path of the set begins with `/`
pub record Rooted (set : FolderSet) : Type 0 where
  pub path : Path
  pub of_set : Memᴰ path (paths_of set)
  pub root : before path ≡ document ∷ []

name-document : (e : Name) → name e ≡ document → ⊥
name-document e h = let z : ◌≡◌ {A = ℕ} 0 1 = cc in omega arith

no-front-empty : (w : Word) (e : Name) → Front (followed_by w e) [] → ⊥
no-front-empty w e f = omega (arith, ap length f.joined, length-append (followed_by w e) f.rest, length-append w (name e ∷ []))

no_front : (p : Path) (w : Word) (e : Name) → Front (followed_by w e) (before p) → ⊥
no_front [] w e f = no-front-empty w e f
no_front (step child t ∷ p) [] e f = name-document e (head-eq_of_cons-eq f.joined)
no_front (step child t ∷ p) (s ∷ w) e f = no-front-empty w e (record { rest = f.rest; joined = tail-eq_of_cons-eq f.joined })
no_front (step descendant t ∷ p) w e f = no-front-empty w e f

followed-some : (w : Word) (e : Name) → followed_by w e ≡ [] → ⊥
followed-some [] e h = cons≢nil h
followed-some (s ∷ w) e h = cons≢nil h

-- a word that ends with a name begins a keyword exactly when it is the run that ends at some label
pub begins-label : (set : FolderSet) (w : Word) (e : Name) → Begins set (followed_by w e) ↔ LabelWord set (followed_by w e)
unfolding keywords
begins-label set w e = (
  λ b. record { path = b.path; of_set = b.of_set; at_label = there b (fronts b.path (before b.path) (followed_by w e) b.keyword b.of_path (record { rest = b.rest; joined = b.joined })) },
  λ l.
      let o = labels-on l.path (before l.path) (followed_by w e) l.at_label in
      record { path = l.path; of_set = l.of_set; keyword = o.keyword; of_path = o.cuts; rest = o.front.rest; joined = o.front.joined },
)
  where
    there : (b : Begins set (followed_by w e)) → Found (followed_by w e) (before b.path) b.path → Memᴰ (followed_by w e) (label_words (before b.path) b.path)
    there b (infront f) = absurd (no_front b.path w e f)
    there b (none h) = absurd (followed-some w e h)
    there b (atlabel m) = m

-- no such run is `#` alone
label-named : (p : Path) (w : Word) → Memᴰ (document ∷ []) (label_words w p) → ⊥
unfolding label_words
label-named [] w m = Memᴰ.not-nil m
label-named (step child (label n) ∷ p) w m = elim (Memᴰ.cases_cons m) [ inl e ↦ last w e | inr t ↦ label-named p (followed_by w n) t ]
  where
    last : (w : Word) → document ∷ [] ≡ followed_by w n → ⊥
    last [] e = name-document n (sym (head-eq_of_cons-eq e))
    last (s ∷ w) e = followed-some w n (sym (tail-eq_of_cons-eq e))
label-named (step child star ∷ p) w m = label-named p [] m
label-named (step descendant (label n) ∷ p) w m = elim (Memᴰ.cases_cons m) [ inl e ↦ name-document n (sym (head-eq_of_cons-eq e)) | inr t ↦ label-named p (name n ∷ []) t ]
label-named (step descendant star ∷ p) w m = label-named p [] m

rooted-front : (p : Path) → Front (document ∷ []) (before p) → before p ≡ document ∷ []
rooted-front [] f = absurd (cons≢nil f.joined)
rooted-front (step child t ∷ p) f = refl
rooted-front (step descendant t ∷ p) f = absurd (cons≢nil f.joined)

-- `#` begins a keyword exactly when some path begins with `/`
pub begins-document : (set : FolderSet) → Begins set (document ∷ []) ↔ Rooted set
unfolding keywords
begins-document set = (
  λ b. record { path = b.path; of_set = b.of_set; root = there b (fronts b.path (before b.path) (document ∷ []) b.keyword b.of_path (record { rest = b.rest; joined = b.joined })) },
  λ r.
      let o : Onward (document ∷ []) (before r.path) r.path = subst (λ (w : Word). Onward (document ∷ []) w r.path) (sym r.root) (run_on r.path document []) in
      record { path = r.path; of_set = r.of_set; keyword = o.keyword; of_path = o.cuts; rest = o.front.rest; joined = o.front.joined },
)
  where
    there : (b : Begins set (document ∷ [])) → Found (document ∷ []) (before b.path) b.path → before b.path ≡ document ∷ []
    there b (infront f) = rooted-front b.path f
    there b (none h) = absurd (cons≢nil h)
    there b (atlabel m) = absurd (label-named b.path (before b.path) m)

-- what begins a keyword is empty, `#`, or the run that ends at some label
pub data Kind (set : FolderSet) (u : Word) : Type 0 where
  empty : u ≡ [] → Kind set u
  root : u ≡ document ∷ [] → Kind set u
  labelled : LabelWord set u → Kind set u

front-root : (set : FolderSet) (u : Word) → Front u (document ∷ []) → Kind set u
front-root set [] f = empty refl
front-root set (s ∷ []) f = root (ap (λ (x : Symbol). x ∷ []) (head-eq_of_cons-eq f.joined))
front-root set (s ∷ t ∷ u) f = absurd (cons≢nil (tail-eq_of_cons-eq f.joined))

front-before : (set : FolderSet) (p : Path) (u : Word) → Front u (before p) → Kind set u
front-before set [] u f = empty (front-empty u f)
front-before set (step child t ∷ p) u f = front-root set u f
front-before set (step descendant t ∷ p) u f = empty (front-empty u f)

pub begins-kind : (set : FolderSet) (u : Word) → Begins set u → Kind set u
unfolding keywords
begins-kind set u b = go (fronts b.path (before b.path) u b.keyword b.of_path (record { rest = b.rest; joined = b.joined }))
  where
    go : Found u (before b.path) b.path → Kind set u
    go (infront f) = front-before set b.path u f
    go (none h) = empty h
    go (atlabel m) = labelled (record { path = b.path; of_set = b.of_set; at_label = m })
