-- What holds of all that can be read, and how it is shown; words and names are read back as they were printed, and print to what stood there.
use Prim.Native.Nat.{ℕ, ◌+◌, ◌≤◌}
use native.Mathlib.Omega.{arith}
use mathlib.Core.Path.{◌≡◌, refl, sym, ap, ◌∙◌}
use mathlib.Core.Bool.{Bool, true, false, cond, false≢true}
use mathlib.Core.List.{List, [], ◌∷◌, ◌++◌}
use lib.Dec.{eqb}
use borrow.Author.Tests.{eqb-true, eq-eqb}
use lib.ListN.{length, drop, length-append, length-drop}
use lib.Seq.{drop-append_seam, drop-drop}
use Rattle.text.specs.Lists.{every}
use Rattle.text.specs.Names.{begins_name, in_name, name_form}
use Rattle.text.specs.Read.{Read, fail, got, then_read, when, starts_with, read_word, name_ahead, read_name}
use Rattle.text.proofs.Laws.Tests.{cases, and_left, both, both_true}
use Rattle.text.proofs.Laws.Fronts.{front-back, front-every, stops, front_of, back-of}

-- whatever was read, this holds of it and of the bytes after it
pub data WhenRead {A : Type 0} (P : A → List ℕ → Type 0) : Read A → Type 0 where
  failed : WhenRead P fail
  gotten : {a : A} {r : List ℕ} → P a r → WhenRead P (got a r)

pub holds-got : {A : Type 0} {P : A → List ℕ → Type 0} {a : A} {r : List ℕ} → WhenRead P (got a r) → P a r
holds-got (gotten h) = h

pub then-holds : {A B : Type 0} {P : A → List ℕ → Type 0} {Q : B → List ℕ → Type 0} {m : Read A} {k : A → List ℕ → Read B}
    → WhenRead P m → ((a : A) (r : List ℕ) → P a r → WhenRead Q (k a r)) → WhenRead Q (then_read m k)
then-holds failed f = failed
then-holds (gotten {a} {r} h) f = f a r h

pub holds-map : {A : Type 0} {P Q : A → List ℕ → Type 0} {m : Read A} → WhenRead P m → ((a : A) (r : List ℕ) → P a r → Q a r) → WhenRead Q m
holds-map failed f = failed
holds-map (gotten {a} {r} h) f = gotten (f a r h)

pub then_same : {A B : Type 0} {P : A → List ℕ → Type 0} {m : Read A} {k j : A → List ℕ → Read B}
    → WhenRead P m → ((a : A) (r : List ℕ) → P a r → k a r ≡ j a r) → then_read m k ≡ then_read m j
then_same failed f = refl
then_same (gotten {a} {r} h) f = f a r h

pub when-holds : {A : Type 0} {P : A → List ℕ → Type 0} {x : Read A} (t : Bool) → (t ≡ true → WhenRead P x) → WhenRead P (when t x)
when-holds true f = f refl
when-holds false f = failed

pub cond-holds : {A : Type 0} {P : A → List ℕ → Type 0} {x y : Read A} (t : Bool) → (t ≡ true → WhenRead P x) → (t ≡ false → WhenRead P y)
    → WhenRead P (cond t x y)
cond-holds true f g = f refl
cond-holds false f g = g refl

pub word_back : (w r : List ℕ) → read_word w (w ++ r) ≡ got [] r
unfolding read_word
word_back [] r = refl
word_back (b ∷ w) r = rw (eq-eqb b b refl) (word_back w r)

pub word-begins : (w r : List ℕ) → starts_with w (w ++ r) ≡ true
unfolding starts_with
word-begins [] r = refl
word-begins (b ∷ w) r = rw (eq-eqb b b refl) (word-begins w r)

pub word_sound : (w l : List ℕ) → WhenRead (λ u r. w ++ r ≡ l) (read_word w l)
unfolding read_word
word_sound [] l = gotten refl
word_sound (b ∷ w) [] = failed
word_sound (b ∷ w) (c ∷ l) =
    when-holds (eqb b c) (λ t. holds-map (word_sound w l) (λ u r e. rw (eqb-true b c t) (ap (◌∷◌ c) e)))

-- a word is read where it stands, and only there
pub word-is : (w l : List ℕ) → read_word w l ≡ cond (starts_with w l) (got [] (drop (length w) l)) fail
unfolding read_word starts_with
word-is [] l = refl
word-is (b ∷ w) [] = refl
word-is (b ∷ w) (c ∷ l) = cases (eqb b c) (λ t. rw t (word-is w l)) (λ f. rw f)

pub begins-drop : (w l : List ℕ) → starts_with w l ≡ true → w ++ drop (length w) l ≡ l
begins-drop w l t = holds-got (rw (word-is w l, t) at (word_sound w l))

-- a word that stands at an offset ends within the bytes
pub word_fits : (w s : List ℕ) (at : ℕ) → 1 ≤ length w → starts_with w (drop at s) ≡ true → at + length w ≤ length s
word_fits w s at some t =
    omega (arith, ap length (begins-drop w (drop at s) t), length-append w (drop (length w) (drop at s)), length-drop at s)

-- what stands behind a piece at an offset
pub behind : (s p r : List ℕ) (at : ℕ) → p ++ r ≡ drop at s → drop (at + length p) s ≡ r
behind s p r at e = sym (drop-drop (length p) at s) ∙ ap (drop (length p)) (sym e) ∙ drop-append_seam p r

pub name_back : (n r : List ℕ) → name_form n ≡ true → stops in_name r ≡ true → read_name (n ++ r) ≡ got n r
unfolding name_form read_name
name_back [] r h s = absurd (false≢true h)
name_back (b ∷ n) r h s =
    let (first, rest) = both (begins_name b) (every in_name n) h in
    rw (first, front_of in_name n r rest s, back-of in_name n r rest s)

pub name-ahead : (n r : List ℕ) → name_form n ≡ true → name_ahead (n ++ r) ≡ true
unfolding name_form
name-ahead [] r h = absurd (false≢true h)
name-ahead (b ∷ n) r h = and_left _ _ h

pub name-sound : (l : List ℕ) → WhenRead (λ n r. (name_form n ≡ true) × (n ++ r ≡ l)) (read_name l)
unfolding read_name name_form
name-sound [] = failed
name-sound (b ∷ l) =
    when-holds (begins_name b)
    (λ t. gotten (both_true t (front-every in_name l), ap (◌∷◌ b) (front-back in_name l)))
