-- Offsets sorted by halves: each half is lent, sorted and put back, then both are joined.
use Prim.Native.Nat.{ℕ, ◌-◌, ◌≤◌}
use native.Mathlib.Omega.{arith}
use mathlib.Core.Path.{◌≡◌, sym, ap, ap₂, subst, ◌∙◌}
use mathlib.Core.Bool.{Bool, true, false}
use mathlib.Core.List.{List, ◌++◌, append-nil}
use lib.ListN.{length, take, drop, length-drop, take-append-drop, drop_of_length-le}
use lib.Seq.{length_front, length-take-le, take_all, take_at, drop_at}
use Rattle.std.proofs.lemmas.List.{take_rest}
use borrow.Rule.Slice.PartMut.{mid_of, put_mid, same_len_mid}
use Rattle.reports.specs.Code.Ordered.{names_at, MergesTo, Sorts}
use Rattle.reports.proofs.Laws.Ordered.Sorted.{twice, twice-left, twice-right, joined}

-- offsets p whose first half is back as a
module _ (p a : List ℕ) (h : ℕ) (fits : h ≤ length p) (size : length a ≡ length (take h p)) where
  abbrev back : List ℕ
  back = a ++ drop h p

  abbrev rest : ℕ
  rest = length back - h

  pub whole : length back ≡ length p
  whole = length_front p a h size

  pub half-size : length (take h p) ≡ h
  half-size = length-take-le h p fits

  -- the second half as it is lent
  pub later : mid_of h rest back ≡ drop h p
  later =
      ap (take rest) (drop_at a (drop h p) h (size ∙ half-size))
      ∙ take_all rest (drop h p) (omega (arith, whole, length-drop h p))

  module _ (b : List ℕ) (again : length b ≡ length (mid_of h rest back)) where
    pub whole_again : length (put_mid h rest back b) ≡ length p
    whole_again = same_len_mid h rest back b again ∙ whole

    both : put_mid h rest back b ≡ a ++ b
    both =
        ap₂ (λ (k l : List ℕ). k ++ (b ++ l)) (take_at a (drop h p) h (size ∙ half-size))
        (ap (drop rest) (drop_at a (drop h p) h (size ∙ half-size)) ∙ drop_of_length-le (drop h p) {i = rest} (omega (arith, whole, length-drop h p)))
        ∙ ap (λ (l : List ℕ). a ++ l) (append-nil b)

    -- both halves, as they are lent to be merged
    module _ (s : List ℕ) {t u : Bool} (one : Sorts s (take h p) t a) (other : Sorts s (mid_of h rest back) u b) (e : t ≡ false) (g : u ≡ false)
        {r : Bool} (out : List ℕ) (m : MergesTo (names_at s (take h (put_mid h rest back b))) (names_at s (mid_of h (length (put_mid h rest back b) - h) (put_mid h rest back b))) r (names_at s out)) where
      pub halves-joined : Sorts s p r out
      halves-joined =
          subst (λ (l : List ℕ). Sorts s l r out) (take-append-drop h p)
          (joined s (take h p) (drop h p) out (rw e at one) (rw (later, g) at other)
          (rw (take_rest (put_mid h rest back b) h, both, take_at a b h (size ∙ half-size), drop_at a b h (size ∙ half-size)) at m))

      -- a name met
      pub halves-met : r ≡ true → (after : List ℕ) → Sorts s p true after
      halves-met x after = twice s p after (sym halves-joined.says ∙ x)

  module _ (s : List ℕ) (out : List ℕ) {t : Bool} where
    pub left-twice : {c : List ℕ} → Sorts s (take h p) t c → t ≡ true → Sorts s p true out
    left-twice one e =
        subst (λ (l : List ℕ). Sorts s l true out) (take-append-drop h p) (twice-left s (take h p) (drop h p) out (rw e at one))

    pub right-twice : {c : List ℕ} → Sorts s (mid_of h rest back) t c → t ≡ true → Sorts s p true out
    right-twice other e =
        subst (λ (l : List ℕ). Sorts s l true out) (take-append-drop h p) (twice-right s (take h p) (drop h p) out (rw (later, e) at other))
