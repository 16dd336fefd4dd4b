-- The order of names: when it is which, that it goes on from the second bytes, that it is one way round only and goes on from name to name.
use Prim.Native.Nat.{ℕ, ◌<◌}
use native.Mathlib.Omega.{arith}
use mathlib.Core.Path.{◌≡◌, refl, sym, ap, ◌∙◌}
use mathlib.Core.Bool.{true}
use mathlib.Core.List.{[], ◌∷◌}
use lib.Dec.{ltb}
use borrow.Author.Tests.{ltb-true, ltb-false, lt-ltb, le-ltb, eq-eqb, ne_eqb}
use Rattle.text.specs.Names.{Name, same_name}
use Rattle.text.proofs.Laws.Tests.{cases}
use Rattle.std.specs.declared.cmp.Ordering.{Ordering}
use Rattle.std.specs.declared.cmp.Ordering.TheVariants.{Less, Equal, Greater}
use Rattle.std.specs.Ordering.{is_eq}
use Rattle.reports.specs.Code.Ordered.{first_byte, order_of}

-- by the first bytes
pub lower : (m n : Name) → first_byte m < first_byte n → order_of m n ≡ Less
unfolding order_of
lower [] [] h = absurd (omega arith)
lower [] (b ∷ n) h = refl
lower (a ∷ m) [] h = absurd (omega arith)
lower (a ∷ m) (b ∷ n) h = rw (lt-ltb a b h)

pub higher : (m n : Name) → first_byte n < first_byte m → order_of m n ≡ Greater
unfolding order_of
higher [] [] h = absurd (omega arith)
higher [] (b ∷ n) h = absurd (omega arith)
higher (a ∷ m) [] h = refl
higher (a ∷ m) (b ∷ n) h =
    let no : b < a = h in
    rw (le-ltb a b (omega arith), lt-ltb b a no)

pub onwards : (a b : ℕ) (m n : Name) → a ≡ b → order_of (a ∷ m) (b ∷ n) ≡ order_of m n
unfolding order_of
onwards a b m n e = rw (le-ltb a b (omega arith), le-ltb b a (omega arith))

-- of two names with a first byte each
by_bytes : {X : Type 0} (a b : ℕ) → (a < b → X) → (a ≡ b → X) → (b < a → X) → X
by_bytes a b low same high =
    cases (ltb a b)
    (λ t. low (ltb-true a b t))
    (λ f. cases (ltb b a) (λ t. high (ltb-true b a t)) (λ g. same (omega (arith, ltb-false a b f, ltb-false b a g))))

-- the same exactly if the bytes are the same
pub same_is : (m n : Name) → same_name m n ≡ is_eq (order_of m n)
unfolding same_name order_of
same_is [] [] = refl
same_is [] (b ∷ n) = refl
same_is (a ∷ m) [] = refl
same_is (a ∷ m) (b ∷ n) =
    by_bytes a b
    (λ h. rw (ne_eqb a b (λ e. omega arith), lt-ltb a b h))
    (λ e. rw (eq-eqb a b e, le-ltb a b (omega arith), le-ltb b a (omega arith)) (same_is m n))
    (λ h. rw (ne_eqb a b (λ e. omega arith), le-ltb a b (omega arith), lt-ltb b a h))

pub order_same : (m n : Name) → order_of m n ≡ Equal → same_name m n ≡ true
order_same m n e = same_is m n ∙ ap is_eq e

pub same-order : (m n : Name) → same_name m n ≡ true → order_of m n ≡ Equal
same-order m n e = told (order_of m n) (sym (same_is m n) ∙ e)
  where
    told : (o : Ordering) → is_eq o ≡ true → o ≡ Equal
    told Less t = cc
    told Equal t = refl
    told Greater t = cc

pub turned : (m n : Name) → order_of m n ≡ Greater → order_of n m ≡ Less
unfolding order_of
turned [] [] e = cc
turned [] (b ∷ n) e = cc
turned (a ∷ m) [] e = refl
turned (a ∷ m) (b ∷ n) e =
    by_bytes a b
    (λ h. cc (lower (a ∷ m) (b ∷ n) h))
    (λ h. onwards b a n m (sym h) ∙ turned m n (sym (onwards a b m n h) ∙ e))
    (λ h. lower (b ∷ n) (a ∷ m) h)

pub onto : (k m n : Name) → order_of k m ≡ Less → order_of m n ≡ Less → order_of k n ≡ Less
unfolding order_of
onto [] [] n e g = g
onto [] (b ∷ m) [] e g = cc
onto [] (b ∷ m) (c ∷ n) e g = refl
onto (a ∷ k) [] n e g = cc
onto (a ∷ k) (b ∷ m) [] e g = cc
onto (a ∷ k) (b ∷ m) (c ∷ n) e g =
    by_bytes a b
    (λ h. by_bytes b c
    (λ i. lower (a ∷ k) (c ∷ n) (omega arith))
    (λ i. lower (a ∷ k) (c ∷ n) (omega arith))
    (λ i. cc (higher (b ∷ m) (c ∷ n) i)))
    (λ h. by_bytes b c
    (λ i. lower (a ∷ k) (c ∷ n) (omega arith))
    (λ i. onwards a c k n (h ∙ i) ∙ onto k m n (sym (onwards a b k m h) ∙ e) (sym (onwards b c m n i) ∙ g))
    (λ i. cc (higher (b ∷ m) (c ∷ n) i)))
    (λ h. cc (higher (a ∷ k) (b ∷ m) h))
