-- Sorting in two parts: what the parts answer makes what the whole answers.
use Prim.Native.Nat.{ℕ, ◌<◌}
use native.Mathlib.Omega.{arith}
use mathlib.Core.Path.{◌≡◌, refl, sym, ap, ap₂, ◌∙◌}
use mathlib.Core.Bool.{Bool, true, false, ◌||◌, or-true}
use mathlib.Core.List.{List, [], ◌∷◌, ◌++◌, map-append}
use lib.ListN.{length, get_or}
use Rattle.std.specs.List.{swap}
use Rattle.text.specs.Names.{same_name}
use Rattle.text.specs.Lists.{every, any}
use Rattle.text.proofs.Laws.Tests.{clash}
use Rattle.documents.specs.Repeats.{repeated}
use Rattle.std.specs.declared.cmp.Ordering.TheVariants.{Less, Equal, Greater}
use Rattle.reports.specs.Code.Ordered.{name_at, names_at, order_of, Rising, MergesTo, Sorts}
use Rattle.reports.proofs.Laws.Ordered.Meets.{any_append, meets, meets-like, repeated-append}
use Rattle.reports.proofs.Laws.Ordered.Merge.{merge-says, merge-rises, merge-any}

module _ (s : List ℕ) where
  -- what repeats a name
  pub twice : (before after : List ℕ) → repeated (names_at s before) ≡ true → Sorts s before true after
  twice before after e = record { says = sym e; rising = λ f. clash refl f; same = λ f. clash refl f }

  one : (a : ℕ) → Sorts s (a ∷ []) false (a ∷ [])
  unfolding repeated any every
  one a = record { says = refl; rising = λ f. Rising.more refl Rising.none; same = λ f n. refl }

  -- fewer than two
  pub few : (p : List ℕ) → length p < 2 → Sorts s p false p
  unfolding repeated
  few [] h = record { says = refl; rising = λ f. Rising.none; same = λ f n. refl }
  few (a ∷ []) h = one a
  few (a ∷ b ∷ p) h = absurd (omega arith)

  module _ (l m : List ℕ) where
    parts : repeated (names_at s (l ++ m)) ≡ (repeated (names_at s l) || (repeated (names_at s m) || meets (names_at s l) (names_at s m)))
    parts = ap repeated (map-append (name_at s) l m) ∙ repeated-append (names_at s l) (names_at s m)

    pub twice-left : {a : List ℕ} (out : List ℕ) → Sorts s l true a → Sorts s (l ++ m) true out
    twice-left out p = twice (l ++ m) out (parts ∙ rw (sym p.says))

    pub twice-right : {a : List ℕ} (out : List ℕ) → Sorts s m true a → Sorts s (l ++ m) true out
    twice-right out p = twice (l ++ m) out (parts ∙ rw (sym p.says) (or-true (repeated (names_at s l))))

    pub joined : {a b : List ℕ} (out : List ℕ) {t : Bool} → Sorts s l false a → Sorts s m false b → MergesTo (names_at s a) (names_at s b) t (names_at s out) → Sorts s (l ++ m) t out
    joined {a} {b} out {t} p q r = record {
      says =
          merge-says r (p.rising refl) (q.rising refl)
          ∙ meets-like (names_at s a) (names_at s l) (names_at s b) (names_at s m) (p.same refl) (q.same refl)
          ∙ sym (parts ∙ rw (sym p.says, sym q.says));
      rising = λ f. merge-rises r f (p.rising refl) (q.rising refl);
      same = λ f n.
          merge-any (same_name n) r f ∙ ap₂ ◌||◌ (p.same refl n) (q.same refl n)
          ∙ sym (ap (any (same_name n)) (map-append (name_at s) l m) ∙ any_append (same_name n) (names_at s l) (names_at s m));
    }

  -- two, by their order
  pub two-before : (p : List ℕ) → length p ≡ 2 → order_of (name_at s (get_or p 0 0)) (name_at s (get_or p 1 0)) ≡ Less → Sorts s p false p
  two-before [] h e = absurd (omega arith)
  two-before (a ∷ []) h e = absurd (omega arith)
  two-before (a ∷ b ∷ []) h e = joined (a ∷ []) (b ∷ []) (a ∷ b ∷ []) (one a) (one b) (MergesTo.left e (MergesTo.right refl MergesTo.none))
  two-before (a ∷ b ∷ c ∷ p) h e = absurd (omega arith)

  pub two-same : (p : List ℕ) → length p ≡ 2 → order_of (name_at s (get_or p 0 0)) (name_at s (get_or p 1 0)) ≡ Equal → Sorts s p true p
  two-same [] h e = absurd (omega arith)
  two-same (a ∷ []) h e = absurd (omega arith)
  two-same (a ∷ b ∷ []) h e = joined (a ∷ []) (b ∷ []) (a ∷ b ∷ []) (one a) (one b) (MergesTo.same e)
  two-same (a ∷ b ∷ c ∷ p) h e = absurd (omega arith)

  pub two-after : (p : List ℕ) → length p ≡ 2 → order_of (name_at s (get_or p 0 0)) (name_at s (get_or p 1 0)) ≡ Greater
      → Sorts s p false (swap p 0 1)
  two-after [] h e = absurd (omega arith)
  two-after (a ∷ []) h e = absurd (omega arith)
  two-after (a ∷ b ∷ []) h e = joined (a ∷ []) (b ∷ []) (b ∷ a ∷ []) (one a) (one b) (MergesTo.right e (MergesTo.left refl MergesTo.none))
  two-after (a ∷ b ∷ c ∷ p) h e = absurd (omega arith)
