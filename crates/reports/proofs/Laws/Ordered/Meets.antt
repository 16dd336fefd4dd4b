-- Two lists of names that share a name: through what they have only. A list in two parts repeats a name if a part does, or if the parts meet.
use mathlib.Core.Path.{◌≡◌, refl, sym, ap, ap₂, ◌∙◌}
use mathlib.Core.Bool.{Bool, true, false, ◌||◌, or-false, or-true, or_assoc, or_comm}
use mathlib.Core.List.{List, [], ◌∷◌, ◌++◌}
use Rattle.text.specs.Names.{Name, same_name}
use Rattle.text.specs.Lists.{any}
use Rattle.text.proofs.Laws.Bytes.SameName.{same_name-is}
use Rattle.text.proofs.Laws.Tests.{cases, clash}
use Rattle.documents.specs.Repeats.{repeated}

pub any_append : {A : Type 0} (f : A → Bool) (k l : List A) → any f (k ++ l) ≡ (any f k || any f l)
unfolding any
any_append f [] l = refl
any_append f (a ∷ k) l = ap (◌||◌ (f a)) (any_append f k l) ∙ sym (or_assoc (f a) (any f k) (any f l))

pub any-like : {A : Type 0} (f g : A → Bool) → ((a : A) → f a ≡ g a) → (l : List A) → any f l ≡ any g l
unfolding any
any-like f g e [] = refl
any-like f g e (a ∷ l) = ap₂ ◌||◌ (e a) (any-like f g e l)

-- a test goes past another
pub or-past : (a b c : Bool) → (a || (b || c)) ≡ (b || (a || c))
or-past a b c = sym (or_assoc a b c) ∙ ap (λ (d : Bool). d || c) (or_comm a b) ∙ or_assoc b a c

pub any-or : {A : Type 0} (f g : A → Bool) (l : List A) → any (λ a. f a || g a) l ≡ (any f l || any g l)
unfolding any
any-or f g [] = refl
any-or f g (a ∷ l) = ap (◌||◌ (f a || g a)) (any-or f g l) ∙ apart (f a) (g a) (any f l) (any g l)
  where
    apart : (a b c d : Bool) → (a || b || (c || d)) ≡ (a || c || (b || d))
    apart true b c d = refl
    apart false b c d = or-past b c d

pub any_none : {A : Type 0} (l : List A) → any (λ (a : A). false) l ≡ false
unfolding any
any_none [] = refl
any_none (a ∷ l) = any_none l

-- some name of the one list is in the other
abbrev pub meets : List Name → List Name → Bool
meets l m = any (λ n. any (same_name n) m) l

same-turned : (m n : Name) → same_name m n ≡ same_name n m
same-turned m n =
    cases (same_name m n)
    (λ t. t ∙ sym ((same_name-is n m).1 (sym ((same_name-is m n).0 t))))
    (λ f. cases (same_name n m) (λ t. clash ((same_name-is m n).1 (sym ((same_name-is n m).0 t))) f) (λ g. f ∙ sym g))

pub meets-turned : (l m : List Name) → meets l m ≡ meets m l
unfolding any
meets-turned [] m = sym (any_none m)
meets-turned (n ∷ l) m =
    ap₂ ◌||◌ (any-like (same_name n) (λ k. same_name k n) (same-turned n) m) (meets-turned l m)
    ∙ sym (any-or (λ k. same_name k n) (λ k. any (same_name k) l) m)

-- through what the lists have
meets-later : (k l m : List Name) → ((n : Name) → any (same_name n) l ≡ any (same_name n) m) → meets k l ≡ meets k m
meets-later k l m e = any-like (λ n. any (same_name n) l) (λ n. any (same_name n) m) e k

pub meets-like : (k k₂ l l₂ : List Name) → ((n : Name) → any (same_name n) k ≡ any (same_name n) k₂) → ((n : Name) → any (same_name n) l ≡ any (same_name n) l₂)
    → meets k l ≡ meets k₂ l₂
meets-like k k₂ l l₂ e g = meets-later k l l₂ g ∙ meets-turned k l₂ ∙ meets-later l₂ k k₂ e ∙ meets-turned l₂ k₂

pub repeated-append : (l m : List Name) → repeated (l ++ m) ≡ (repeated l || (repeated m || meets l m))
unfolding repeated any
repeated-append [] m = sym (or-false (repeated m))
repeated-append (n ∷ l) m =
    ap₂ ◌||◌ (any_append (same_name n) l m) (repeated-append l m)
    ∙ apart (any (same_name n) l) (any (same_name n) m) (repeated l) (repeated m) (meets l m)
  where
    apart : (a b c d e : Bool) → (a || b || (c || (d || e))) ≡ (a || c || (d || (b || e)))
    apart true b c d e = refl
    apart false b true d e = or-true b
    apart false b false d e = or-past b d e
