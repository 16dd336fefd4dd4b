-- Pieces in a sink: that pieces one after the other are their bytes joined, and what a measure and the front of a buffer are then.
use Prim.Native.Nat.{ℕ, zero, suc, ◌+◌, ◌-◌, ◌^◌, ◌≤◌, ◌<◌, min}
use native.Mathlib.Omega.{arith}
use native.Mathlib.Nat.{zero-add, add-zero}
use mathlib.Core.Path.{◌≡◌, refl, sym, ap, ◌∙◌}
use mathlib.Core.List.{List, [], ◌∷◌, ◌++◌, append_assoc, append-nil}
use lib.Dec.{leb}
use lib.ListN.{length, drop, set, length-append}
use lib.Seq.{sets, sets-eq, length-sets, drop-drop}
use borrow.Rule.Slice.PartMut.{put_mid}
use borrow.Author.Tests.{le-leb, lt-leb, leb-true, leb-false}
use denote.Ref.{MutBor}
use Rattle.text.specs.Answers.{said, says, value}
use Rattle.text.specs.Order.{Condition, given}
use Rattle.text.specs.Written.{written_into, TextWritten}
use Rattle.std.specs.Prelude.{Result, Ok, Err}
use Rattle.std.specs.Result.{IsErrAnd, result_or}
use Rattle.text.specs.declared.refusals.Refusal.{Refusal}
use Rattle.text.specs.Refusals.{number_of}
use Rattle.text.proofs.Laws.Numbers.{some_number}
use Rattle.text.proofs.Laws.Results.{err_says, handed_on}
use Rattle.text.proofs.Laws.Tests.{cases}
use Rattle.text.specs.declared.output.Length.{Length}
use Rattle.text.specs.declared.output.Front.{Front}
use Rattle.text.specs.Output.{Adds, no_pieces, a_piece, measured, reached, fronted}

-- stored one after the other
sets-append : (l : List ℕ) (i : ℕ) (x y : List ℕ) → sets l i (x ++ y) ≡ sets (sets l i x) (i + length x) y
sets-append l i [] y = rw (add-zero i)
sets-append l i (v ∷ x) y =
    let e : suc i + length x ≡ i + suc (length x) = omega arith in
    sets-append (set l i v) (suc i) x y ∙ ap (λ (n : ℕ). sets (sets (set l i v) (suc i) x) n y) e

-- a part of a buffer that was written
pub written_part : (a k : ℕ) (xs ys zs : List ℕ) → ys ≡ zs → k ≡ length zs → a + k ≤ length xs → put_mid a k xs ys ≡ sets xs a zs
written_part a k xs ys zs e n h =
    let room : a + length zs ≤ length xs = omega arith in
    let same : a + k ≡ a + length zs = omega arith in
    rw (sets-eq zs xs a room, append_assoc, e, drop-drop k a xs, same)

module _ {S : Type 0} {puts : S → List ℕ → S} where
  -- one piece, and one text after the other
  pub one : {s t : S} {piece : List ℕ} → t ≡ puts s piece → Adds puts s piece t
  one {s} {t} {piece} e = let x : Adds puts s (piece ++ []) t = a_piece e no_pieces in rw append-nil at x

  pub and_then : {s t u : S} {p q : List ℕ} → Adds puts s p t → Adds puts t q u → Adds puts s (p ++ q) u
  and_then no_pieces y = y
  and_then {q = q} (a_piece {piece = piece} {bytes} e r) y = rw (append_assoc piece bytes q) (a_piece e (and_then r y))

  -- the same bytes, told otherwise
  pub same_bytes : {s t : S} {p q : List ℕ} → Adds puts s p t → p ≡ q → Adds puts s q t
  same_bytes x e = rw e at x

-- a text that is put together
pub ruleset pieces = (a_piece, no_pieces, one, and_then, same_bytes)

-- a measured text: all of its bytes
pub measured-length : {s t : Length} {text : List ℕ} → Adds measured s text t → s.bytes ≤ 2 ^ 64 - 1 → t.bytes ≡ min (s.bytes + length text) (2 ^ 64 - 1)
measured-length no_pieces h = omega arith
measured-length {s} (a_piece {t = t} {piece = piece} {bytes} e r) h =
    let b : t.bytes ≡ min (s.bytes + length piece) (2 ^ 64 - 1) = ap (λ (l : Length). l.bytes) e in
    omega (arith, measured-length r (omega arith), length-append piece bytes)

-- a piece into the front of a buffer: once one had no room, with room, and the first that has none
module _ (s : Front) (piece : List ℕ) where
  pub put-late : (at : ℕ) → s.end ≡ Err at → fronted s piece ≡ s
  put-late at e = rw e

  module _ (n : ℕ) (e : s.end ≡ Ok n) where
    pub put-in : n + length piece ≤ length s.out.now → fronted s piece ≡ record { out = record s.out { now = sets s.out.now n piece }; end = Ok (n + length piece) }
    put-in h = rw (e, le-leb (n + length piece) (length s.out.now) h)

    pub put-out : length s.out.now < n + length piece → fronted s piece ≡ record { out = s.out; end = Err n }
    put-out h = rw (e, lt-leb (n + length piece) (length s.out.now) h)

-- a text after that changes nothing
pub kept : {s t : Front} {text : List ℕ} → Adds fronted s text t → (at : ℕ) → s.end ≡ Err at → t ≡ s
kept no_pieces at e = refl
kept {s} (a_piece {t = t} {piece = piece} p r) at e = let k : t ≡ s = p ∙ put-late s piece at e in kept r at (rw k e) ∙ k

-- a text that has room is written whole, and the front ends after it
pub filled : {s t : Front} {text : List ℕ} → Adds fronted s text t → (n : ℕ) → s.end ≡ Ok n → n + length text ≤ length s.out.now
    → t ≡ record { out = record s.out { now = sets s.out.now n text }; end = Ok (n + length text) }
filled {s} no_pieces n e h = rw (add-zero n, ← e)
filled {s} (a_piece {t = t} {u} {piece} {bytes} p r) n e h =
    let l : length (piece ++ bytes) ≡ length piece + length bytes = length-append piece bytes in
    let k = p ∙ put-in s piece n e (omega arith) in
    let sum : n + (length piece + length bytes) ≡ (n + length piece) + length bytes = omega arith in
    let w = filled r (n + length piece) (ap (λ (x : Front). x.end) k)
    (rw (ap (λ (x : Front). length x.out.now) k, length-sets s.out.now n piece) (omega arith)) in
    rw (w, k, l, sum, sets-append s.out.now n piece bytes)

-- one that has none is written in part, and the front tells how far
pub ran_out : {s t : Front} {text : List ℕ} → Adds fronted s text t → (n : ℕ) → s.end ≡ Ok n → n ≤ length s.out.now → length s.out.now < n + length text
    → (front later : List ℕ) × (front ++ later ≡ text) × (t.out ≡ record s.out { now = sets s.out.now n front }) × (t.end ≡ Err (n + length front))
ran_out no_pieces n e i h = absurd (omega arith)
ran_out {s} (a_piece {t = t} {u} {piece} {bytes} p r) n e i h =
    let m = n + length piece in
    let size = length s.out.now in
    cases (leb m size)
    (λ y.
    let l : length (piece ++ bytes) ≡ length piece + length bytes = length-append piece bytes in
    let room : m ≤ size = leb-true m size y in
    let k = p ∙ put-in s piece n e room in
    let same : length t.out.now ≡ size = ap (λ (x : Front). length x.out.now) k ∙ length-sets s.out.now n piece in
    let (front, later, are, out, end) = ran_out r m (ap (λ (x : Front). x.end) k) (omega arith) (omega arith) in (
      piece ++ front,
      later,
      append_assoc piece front later ∙ ap (◌++◌ piece) are,
      out ∙ ap (λ (x : Front). record x.out { now = sets x.out.now m front }) k ∙ ap (λ (b : List ℕ). record s.out { now = b }) (sym (sets-append s.out.now n piece front)),
      end ∙ ap Err (omega (arith, length-append piece front)),
    ))
    (λ f.
    let k = p ∙ put-out s piece n e (leb-false m size f) in
    let stays = kept r n (ap (λ (x : Front). x.end) k) ∙ k in
    ([], piece ++ bytes, refl, ap (λ (x : Front). x.out) stays, ap (λ (x : Front). x.end) stays ∙ ap Err (sym (add-zero n))))

-- some first bytes of a text were written, from the place of a front on, and its place is after them
abbrev pub FrontWritten : Front → List ℕ → Front → Type 0
FrontWritten s text t = (front later : List ℕ) × (front ++ later ≡ text) × (t.out ≡ record s.out { now = sets s.out.now (reached s.end) front }) × (reached t.end ≡ reached s.end + length front)

-- so it is whatever the room; once a piece had none, none are
pub front-written : {s t : Front} {text : List ℕ} → Adds fronted s text t → FrontWritten s text t
front-written {s} no_pieces = ([], [], refl, refl, sym (add-zero (reached s.end)))
front-written {s} (a_piece {t = t} {u} {piece} {bytes} p r) = go s.end refl (front-written r)
  where
    go : (o : Result ℕ ℕ) → s.end ≡ o → FrontWritten t bytes u → FrontWritten s (piece ++ bytes) u
    go (Err n) e w =
        let stays = kept (a_piece p r) n e in
        ([], piece ++ bytes, refl, ap (λ (x : Front). x.out) stays, ap (λ (x : Front). reached x.end) stays ∙ sym (add-zero (reached s.end)))
    go (Ok n) e (front, later, are, out, end) =
        let size = length s.out.now in
        cases (leb (n + length piece) size)
        (λ y.
        let k = p ∙ put-in s piece n e (leb-true (n + length piece) size y) in
        let turn : u.out ≡ record s.out { now = sets s.out.now n (piece ++ front) }
        = out
        ∙ ap (λ (x : Front). record x.out { now = sets x.out.now (reached x.end) front }) k
        ∙ ap (λ (b : List ℕ). record s.out { now = b }) (sym (sets-append s.out.now n piece front)) in
        let on : reached u.end ≡ n + length (piece ++ front) = end ∙ ap (λ (x : Front). reached x.end + length front) k ∙ omega (arith, length-append piece front) in
        (piece ++ front, later, append_assoc piece front later ∙ ap (◌++◌ piece) are, rw e turn, rw e on))
        (λ f.
        let k = p ∙ put-out s piece n e (leb-false (n + length piece) size f) in
        let stays = kept r n (ap (λ (x : Front). x.end) k) ∙ k in
        ([], piece ++ bytes, refl, ap (λ (x : Front). x.out) stays, ap (λ (x : Front). reached x.end) stays ∙ rw (e, add-zero n)))

-- a refusal changes nothing
pub into-kept : (n : ℕ) (text before : List ℕ) → (n ≡ 0 → ⊥) → written_into n text before ≡ before
into-kept zero text before z = absurd (z refl)
into-kept (suc n) text before z = refl

-- the same promise by an order that gives the same number
pub same_order : {order other : List Condition} {text before after : List ℕ} {answer : Result ℕ Refusal} → given order ≡ given other
    → TextWritten order text before answer after → TextWritten other text before answer after
same_order {text = text} {before} e w =
    record { answers = w.answers ∙ ap (λ (n : ℕ). said n (length text)) e; leaves = w.leaves ∙ ap (λ (n : ℕ). written_into n text before) e }

-- a text that nothing refuses and that has room: its length is answered, it stands first, and bytes past it stay
pub written-whole : (text before : List ℕ) (answer : Result ℕ Refusal) {n : ℕ} {after : List ℕ} → n ≡ 0 → length text ≤ length before
    → says answer ≡ said n (length text) → after ≡ written_into n text before → (says answer ≡ value (length text)) × (after ≡ text ++ drop (length text) before)
written-whole text before answer z h a l = (
  a ∙ ap (λ (n : ℕ). said n (length text)) z,
  l ∙ ap (λ (n : ℕ). written_into n text before) z ∙ (sets-eq text before 0 (omega arith) ∙ ap (λ (k : ℕ). text ++ drop k before) (zero-add (length text))),
)

-- a text that is delivered: a number is given, or all of it had room
module _ (order : List Condition) (text out : List ℕ) where
  pub refused-with : (r : Refusal) → number_of r ≡ given order → TextWritten order text out (Err r) out
  refused-with r e = record { answers = err_says r (given order) (length text) e; leaves = sym (into-kept (given order) text out (λ z. some_number r (e ∙ z))) }

  -- a copy over the buffer's first bytes
  pub written_front : given order ≡ 0 → length text ≤ length out → TextWritten order text out (Ok (length text)) (text ++ drop (length text) out)
  written_front z l = record { answers = rw z; leaves = rw (z, sets-eq text out 0 (omega arith), zero-add (length text)) }

  -- the same where a `?` hands on the refusal of a call
  pub refused-as : (answer : Result ℕ Refusal) (r : Refusal) → IsErrAnd answer (λ x. x ≡ r) → number_of r ≡ given order → TextWritten order text out answer out
  refused-as answer r h e = rw (handed_on answer r h) (refused-with r e)

-- into the front of a buffer, which at the end is `after`: what the front left of it, as long as it is the same reference
module _ (order : List Condition) (text : List ℕ) (out : MutBor (List ℕ)) (z : given order ≡ 0) (l : length text ≤ length out.now) {t : Front}
    (x : Adds fronted (record { out = out; end = Ok 0 }) text t) where
  pub same-buffer : out.ghost_name ≡ t.out.ghost_name
  same-buffer = sym (ap (λ (f : Front). f.out.ghost_name) (filled x 0 refl (omega arith)))

  pub written_as : (answer : Result ℕ Refusal) (after : List ℕ) (r : Refusal) → answer ≡ result_or t.end (Err r) → after ≡ t.out.now → TextWritten order text out.now answer after
  written_as answer after r e a = let w = filled x 0 refl (omega arith) in record { answers = rw (e, w, z, zero-add (length text)); leaves = rw (a, w, z) }
