-- A sheet is its lines, head lines and body lines, and what holds of every one of these holds of every line.
use Prim.Native.Nat.{ℕ, zero, suc, ◌+◌, ◌*◌, ◌≤◌, ◌<◌}
use native.Mathlib.Omega.{arith}
use mathlib.Core.Path.{◌≡◌, refl, sym, subst}
use mathlib.Core.Logic.{inl, inr}
use mathlib.Core.List.Memᴰ
use mathlib.Core.List.{List, [], ◌∷◌, ◌++◌, map, append-nil, append_assoc, Memᴰ}
use lib.ListN.{length, length-append}
use Rattle.text.specs.Bytes.{joined}
use Rattle.model.specs.Folders.{count_from}
use Rattle.sheets.specs.Limits.{line_width, body_lines}
use Rattle.sheets.specs.Sheet.{Row, spaces, head_line, body_line, body_at, ended, page, pages_for, sheet}

-- bytes that are so many lines, all of one kind
pub record LinesOf (Kind : List ℕ → Type 0) (count : ℕ) (bytes : List ℕ) : Type 0 where
  pub lines : List (List ℕ)
  pub many : length lines ≡ count
  pub each : (l : List ℕ) → Memᴰ l lines → Kind l
  pub are : joined (map ended lines) ≡ bytes

ended-append : (ls ms : List (List ℕ)) → joined (map ended (ls ++ ms)) ≡ joined (map ended ls) ++ joined (map ended ms)
unfolding joined
ended-append [] ms = refl
ended-append (l ∷ ls) ms = rw (ended-append ls ms) (sym (append_assoc (ended l) (joined (map ended ls)) (joined (map ended ms))))

module _ (Kind : List ℕ → Type 0) where
  no_lines : LinesOf Kind 0 []
  unfolding joined
  no_lines = record { lines = []; many = refl; each = λ l m. absurd (Memᴰ.not-nil m); are = refl }

  one_line : (l : List ℕ) → Kind l → LinesOf Kind 1 (ended l)
  unfolding joined
  one_line l h = record { lines = l ∷ []; many = refl; each = λ k m. subst Kind (sym (Memᴰ.eq_of_singleton m)) h; are = append-nil (ended l) }

  more-lines : {m n : ℕ} {a b : List ℕ} → LinesOf Kind m a → LinesOf Kind n b → LinesOf Kind (m + n) (a ++ b)
  more-lines f g =
      record {
        lines = f.lines ++ g.lines;
        many = omega (arith, length-append f.lines g.lines, f.many, g.many);
        each = λ l i. elim (Memᴰ.append_cases f.lines i) [ inl x ↦ f.each l x | inr y ↦ g.each l y ];
        are = rw (ended-append f.lines g.lines, f.are, g.are);
      }

  counted-lines : (f : ℕ → List ℕ) (size first n : ℕ) → ((i : ℕ) → first ≤ i → i < first + n → LinesOf Kind size (f i)) → LinesOf Kind (n * size) (joined (map f (count_from first n)))
  unfolding joined count_from
  counted-lines f size first zero h = let e : 0 * size ≡ 0 = omega arith in rw e no_lines
  counted-lines f size first (suc n) h =
      let e : suc n * size ≡ size + n * size = omega arith in
      rw e (more-lines (h first (omega arith) (omega arith)) (counted-lines f size (suc first) n (λ i low high. h i (omega arith) (omega arith))))

  -- of one kind are the blank line and the lines of all rows
  module _ (blank : Kind (spaces line_width)) where
    body-kind : (rows : List Row) → ((r : Row) → Memᴰ r rows → Kind (body_line r)) → (j : ℕ) → Kind (body_at rows j)
    unfolding body_at
    body-kind [] h j = blank
    body-kind (r ∷ rows) h zero = h r (Memᴰ.head refl)
    body-kind (r ∷ rows) h (suc j) = body-kind rows (λ q m. h q (Memᴰ.tail m)) j

    module _ (rows : List Row) (each : (r : Row) → Memᴰ r rows → Kind (body_line r)) where
      page-lines : (k : ℕ) → Kind (head_line (suc k)) → LinesOf Kind (suc body_lines) (page rows k)
      unfolding page
      page-lines k h =
          let body = counted-lines (λ i. ended (body_at rows i)) 1 (body_lines * k) body_lines (λ i low high. one_line (body_at rows i) (body-kind rows each i)) in
          let e : suc body_lines ≡ 1 + body_lines * 1 = omega arith in
          rw e (more-lines (one_line (head_line (suc k)) h) body)

      pub sheet-lines : ((k : ℕ) → k < pages_for (length rows) → Kind (head_line (suc k))) → LinesOf Kind (pages_for (length rows) * suc body_lines) (sheet rows)
      unfolding sheet
      sheet-lines heads = counted-lines (page rows) (suc body_lines) 0 (pages_for (length rows)) (λ i low high. page-lines i (heads i (omega arith)))
