-- Names compared at two offsets: one byte of each, and the names behind them.
use Prim.Native.Nat.{ℕ, ◌+◌, ◌≤◌, ◌<◌}
use native.Mathlib.Numerals.{add-one}
use mathlib.Core.Path.{◌≡◌, sym, ap, ◌∙◌}
use mathlib.Core.Bool.{true, false}
use mathlib.Core.List.{List, [], ◌∷◌}
use lib.ListN.{length, get_or, drop_of_length-le}
use lib.Seq.{drop-cons}
use borrow.Author.Tests.{ltb-true, ltb-false}
use lib.Dec.{ltb}
use Rattle.text.specs.Names.{Name, in_name, begins_name, letter, digit}
use Rattle.text.specs.Read.{front}
use Rattle.text.proofs.Laws.Tests.{cases, clash}
use Rattle.std.specs.declared.cmp.Ordering.TheVariants.{Less, Equal, Greater}
use Rattle.reports.specs.Code.Ordered.{name_at, first_byte, order_of}
use Rattle.reports.proofs.Laws.Ordered.Order.{lower, higher, onwards}

-- no name has the byte 0
zero : (b : ℕ) → b ≡ 0 → in_name b ≡ false
unfolding in_name begins_name letter digit
zero b e = ap in_name e

module _ (s : List ℕ) (p : ℕ) where
  pub name-past : length s ≤ p → name_at s p ≡ []
  unfolding front
  name-past h = ap (front in_name) (drop_of_length-le s h)

  pub name-no : p < length s → in_name (get_or s p 0) ≡ false → name_at s p ≡ []
  unfolding front
  name-no h e = rw (drop-cons s p 0 h, e)

  pub name-yes : p < length s → in_name (get_or s p 0) ≡ true → name_at s p ≡ get_or s p 0 ∷ name_at s (p + 1)
  unfolding front
  name-yes h e = ap (front in_name) (drop-cons s p 0 h) ∙ rw (e, add-one)

  -- a name that begins with no 0 goes on behind its first byte
  pub name-on : (first_byte (name_at s p) ≡ 0 → ⊥) → (p < length s) × (name_at s p ≡ first_byte (name_at s p) ∷ name_at s (p + 1))
  name-on n =
      cases (ltb p (length s))
      (λ t.
      let h = ltb-true p (length s) t in
      cases (in_name (get_or s p 0))
      (λ y. let on = name-yes h y in (h, on ∙ ap (λ (b : ℕ). b ∷ name_at s (p + 1)) (sym (ap first_byte on))))
      (λ x. absurd (n (ap first_byte (name-no h x)))))
      (λ f. absurd (n (ap first_byte (name-past (ltb-false p (length s) f)))))

  pub name-none : first_byte (name_at s p) ≡ 0 → name_at s p ≡ []
  name-none z =
      cases (ltb p (length s))
      (λ t.
      let h = ltb-true p (length s) t in
      cases (in_name (get_or s p 0)) (λ y. clash y (zero (get_or s p 0) (sym (ap first_byte (name-yes h y)) ∙ z))) (name-no h))
      (λ f. name-past (ltb-false p (length s) f))

-- two names by their first bytes: one comes first, both end, or they go on together
module _ (s : List ℕ) (p q : ℕ) {a b : ℕ} (one : a ≡ first_byte (name_at s p)) (other : b ≡ first_byte (name_at s q)) where
  pub first-lower : a < b → order_of (name_at s p) (name_at s q) ≡ Less
  first-lower h = lower (name_at s p) (name_at s q) (rw (one, other) at h)

  pub first-higher : b < a → order_of (name_at s p) (name_at s q) ≡ Greater
  first-higher h = higher (name_at s p) (name_at s q) (rw (one, other) at h)

  module _ (same : a ≡ b) where
    same_byte : first_byte (name_at s p) ≡ first_byte (name_at s q)
    same_byte = sym one ∙ same ∙ other

    pub both_end : a ≡ 0 → order_of (name_at s p) (name_at s q) ≡ Equal
    unfolding order_of
    both_end z =
        let y : first_byte (name_at s p) ≡ 0 = sym one ∙ z in
        rw (name-none s p y, name-none s q (sym same_byte ∙ y))

    pub both-on : (a ≡ 0 → ⊥) → (p < length s) × (q < length s) × (order_of (name_at s p) (name_at s q) ≡ order_of (name_at s (p + 1)) (name_at s (q + 1)))
    both-on n =
        let on = name-on s p (λ z. n (one ∙ z)) in
        let also = name-on s q (λ z. n (one ∙ same_byte ∙ z)) in (
          on.0,
          also.0,
          ap (λ (k : Name). order_of k (name_at s q)) on.1 ∙ ap (order_of (first_byte (name_at s p) ∷ name_at s (p + 1))) also.1
              ∙ onwards (first_byte (name_at s p)) (first_byte (name_at s q)) (name_at s (p + 1)) (name_at s (q + 1)) same_byte,
        )

pub ruleset name_bytes = (name-past, name-no, name-yes)

pub ruleset comparings = (first-lower, first-higher, both_end, both-on)
