-- The offsets of a tag's name: at most one pair of them stands at an offset, and the part between them is the name, which is empty exactly
-- where no whole tag begins.
use Prim.Native.Nat.{ℕ, ◌+◌, ◌-◌, ◌≤◌}
use native.Mathlib.Omega.{arith}
use mathlib.Core.Path.{◌≡◌, refl, sym, ap, ◌∙◌}
use mathlib.Core.Logic.{◌↔◌}
use mathlib.Core.Bool.{true, false≢true}
use mathlib.Core.List.{List, [], ◌∷◌, ◌++◌, append_assoc}
use lib.ListN.{length, take, drop, length-append, length-drop}
use lib.Seq.{take-append_seam, drop-append_seam, drop-drop}
use Rattle.text.specs.Names.{Name, name_form}
use Rattle.documents.specs.Tokens.{Token, print_attributes, print_token, formed_tag, formed_token, is_text}
use Rattle.text.specs.Read.{fail, got}
use Rattle.documents.specs.Reading.{read_token}
use Rattle.documents.specs.TagAt.{Tag, start, empty, end, WholeTag, NoTag, TagAt, whole, none}
use Rattle.text.proofs.Laws.Tests.{and_left}
use Rattle.documents.proofs.Laws.Printed.ReadBack.{token_back}

-- a name that stands between two offsets
pub record Cut (s : List ℕ) (from to : ℕ) (n : Name) : Type 0 where
  pub low : from ≤ to
  pub high : to ≤ length s
  pub part : take (to - from) (drop from s) ≡ n

pub nowhere : (s : List ℕ) → Cut s 0 0 []
nowhere s = record { low = omega arith; high = omega arith; part = refl }

-- a name after the bytes p at an offset
cut : (s : List ℕ) (at : ℕ) (p n r : List ℕ) → 1 ≤ length p → p ++ (n ++ r) ≡ drop at s → Cut s (at + length p) (at + length p + length n) n
cut s at p n r h e =
    let lengths : length p + (length n + length r) ≡ length s - at =
    sym (length-append p (n ++ r) ∙ ap (λ (k : ℕ). length p + k) (length-append n r)) ∙ ap length e ∙ length-drop at s in
    let there : drop (at + length p) s ≡ n ++ r = sym (drop-drop (length p) at s) ∙ ap (drop (length p)) (sym e) ∙ drop-append_seam p (n ++ r) in
    let long : at + length p + length n - (at + length p) ≡ length n = omega arith in
    record { low = omega arith; high = omega arith; part = rw (long, there) (take-append_seam n r) }

tag-cut : (s : List ℕ) (at : ℕ) {t : Token} {before : ℕ} {n : Name} (r : List ℕ) → Tag t before n → print_token t ++ r ≡ drop at s
    → Cut s (at + before) (at + before + length n) n
unfolding print_token
tag-cut s at r (start {n} {l} {b}) g =
    cut s at (60 ∷ []) n ((print_attributes l ++ (b ++ (62 ∷ []))) ++ r) (omega arith)
    (ap (◌∷◌ 60) (sym (append_assoc n (print_attributes l ++ (b ++ (62 ∷ []))) r)) ∙ g)
tag-cut s at r (empty {n} {l} {b}) g =
    cut s at (60 ∷ []) n ((print_attributes l ++ (b ++ (47 ∷ 62 ∷ []))) ++ r) (omega arith)
    (ap (◌∷◌ 60) (sym (append_assoc n (print_attributes l ++ (b ++ (47 ∷ 62 ∷ []))) r)) ∙ g)
tag-cut s at r (end {n} {b}) g =
    cut s at (60 ∷ 47 ∷ []) n ((b ++ (62 ∷ [])) ++ r) (omega arith)
    (ap (λ (w : List ℕ). 60 ∷ 47 ∷ w) (sym (append_assoc n (b ++ (62 ∷ [])) r)) ∙ g)

tag-no-text : {t : Token} {before : ℕ} {n : Name} → Tag t before n → is_text t ≡ true → ⊥
tag-no-text start e = false≢true e
tag-no-text empty e = false≢true e
tag-no-text end e = false≢true e

tag-form : {t : Token} {before : ℕ} {n : Name} → Tag t before n → formed_token t ≡ true → name_form n ≡ true
unfolding formed_token formed_tag
tag-form start h = and_left _ _ h
tag-form empty h = and_left _ _ h
tag-form end h = and_left _ _ h

no-empty-name : name_form [] ≡ true → ⊥
unfolding name_form
no-empty-name e = false≢true e

-- a token is a tag in one way
tag-once : {t : Token} {k m : ℕ} {n o : Name} → Tag t k n → Tag t m o → (k ≡ m) × (n ≡ o)
tag-once start start = (refl, refl)
tag-once empty empty = (refl, refl)
tag-once end end = (refl, refl)

module _ (s : List ℕ) (at : ℕ) where
  -- the whole tag that begins at an offset is what is read there
  read_whole : {before : ℕ} {n : Name} (w : WholeTag s at before n) → read_token (drop at s) ≡ got w.token w.rest
  read_whole w = rw w.prints at (token_back w.token w.rest w.formed (λ e. absurd (tag-no-text w.tag e)))

  -- so none begins where nothing, or no tag, is read
  pub none_read : read_token (drop at s) ≡ fail → NoTag s at
  none_read is before n w = let z : ◌≡◌ {A = ℕ} 0 1 = cc (read_whole w) in omega arith

  pub other-read : {t : Token} {r : List ℕ} → read_token (drop at s) ≡ got t r → ((before : ℕ) (n : Name) → Tag t before n → ⊥) → NoTag s at
  other-read {t} is never before n w =
      let same : w.token ≡ t = cc (read_whole w) in
      never before n (rw same at w.tag)

  -- and one tag begins there at most
  one-whole : {k m : ℕ} {n o : Name} → WholeTag s at k n → WholeTag s at m o → (k ≡ m) × (n ≡ o)
  one-whole w v =
      let same : w.token ≡ v.token = cc (read_whole w, read_whole v) in
      tag-once (rw same at w.tag) v.tag

  pub whole-cut : {before : ℕ} {n : Name} → WholeTag s at before n → Cut s (at + before) (at + before + length n) n
  whole-cut w = tag-cut s at w.rest w.tag w.prints

  -- the offsets lie in the bytes
  pub tag-at-cut : {from to : ℕ} → TagAt s at from to → (n : Name) × Cut s from to n
  tag-at-cut (whole {before} {n} w e f) = (n, rw (f, e) (whole-cut w))
  tag-at-cut (none never e f) = ([], rw (e, f) (nowhere s))

  pub one-tag-at : {from to from₂ to₂ : ℕ} → TagAt s at from to → TagAt s at from₂ to₂ → (from ≡ from₂) × (to ≡ to₂)
  one-tag-at (whole w e f) (whole v g h) =
      let (k, n) = one-whole w v in
      (cc, cc)
  one-tag-at (whole {before} {n} w e f) (none never g h) = absurd (never before n w)
  one-tag-at (none never e f) (whole {before} {n} w g h) = absurd (never before n w)
  one-tag-at (none never e f) (none never₂ g h) = (cc, cc)

  -- what stands between the offsets is the name of the whole tag
  pub tag-name-is : {from to before : ℕ} {n : Name} → TagAt s at from to → WholeTag s at before n → take (to - from) (drop from s) ≡ n
  tag-name-is (whole w e f) v = rw (f, e) ((whole-cut w).part ∙ (one-whole w v).1)
  tag-name-is {from} {to} {before} {n} (none never e f) v = absurd (never before n v)

  -- and nothing stands between them exactly where no whole tag begins
  pub tag-name-empty : {from to : ℕ} → TagAt s at from to → (take (to - from) (drop from s) ≡ []) ↔ NoTag s at
  tag-name-empty t = (λ e before n w. no-empty-name (rw (sym (tag-name-is t w) ∙ e) at (tag-form w.tag w.formed)), nothing t)
    where
      nothing : {from to : ℕ} → TagAt s at from to → NoTag s at → take (to - from) (drop from s) ≡ []
      nothing (whole {before} {n} w e f) never = absurd (never before n w)
      nothing (none never₂ e f) never = rw (e, f) refl
