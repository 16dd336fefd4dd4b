-- From a composed text to the buffer: what is refused, what is written, and what is answered.
use Prim.Native.Nat.{ℕ, ◌-◌, ◌^◌, ◌≤◌, ◌<◌, max, min}
use native.Mathlib.Nat.{zero-add}
use native.Mathlib.Omega.{arith}
use mathlib.Core.Path.{◌≡◌, sym, ◌∙◌}
use mathlib.Core.Bool.{true, false, not, ◌||◌, cond, or-true}
use mathlib.Core.List.{List}
use lib.Dec.{leb, ltb}
use lib.ListN.{length, length-append}
use borrow.Author.Tests.{leb-true, leb-false, le-leb, lt-leb, lt-ltb, le-ltb, ltb-false, not-false}
use Rattle.text.specs.Decimal.{decimal}
use Rattle.notation.specs.Print.{footer}
use Rattle.text.specs.declared.refusals.Refusal.TheVariants.{ShortBuffer, BadShape}
use Rattle.text.specs.Refusals.{number_of}
use Rattle.text.specs.Order.{first, given}
use Rattle.stored.specs.RunCalls.{shaped, too_short, lent_conditions}
use Rattle.stored.specs.declared.counters.Counters.{Counters}
use Rattle.text.proofs.Laws.Tests.{cases, or_right}
use Rattle.text.proofs.Laws.Order.{not-given}
use Rattle.text.specs.declared.output.Length.{Length}
use Rattle.text.proofs.Laws.Order.{given-none}
use Rattle.text.proofs.Laws.Output.{refused-with, same_order}
use Rattle.filing.specs.Limits.{listing_size}
use Rattle.text.specs.Output.{Adds, measured}
use Rattle.filing.specs.Listing.{refused_word, refused_line}
use Rattle.filing.specs.Listed.{listing_in, listing_room, listing_refusal, refused_conditions}
use Rattle.text.proofs.Laws.Decimal.{tens, decimal-few}
use Rattle.text.proofs.Laws.Output.{measured-length}

-- the refusals of a listing
module _ (a run : List ℕ) (c : Counters) (out : List ℕ) where
  room-least : listing_size ≤ listing_room a run c
  unfolding listing_room
  room-least = cases (shaped a run c) (λ t. rw t (omega arith)) (λ f. rw f (omega arith))

  lent-good : given (lent_conditions a run c) ≡ 0 → (too_short a run ≡ false) × (shaped a run c ≡ true)
  lent-good z =
      let t = not-given (too_short a run) ShortBuffer _ z in
      (t.0, not-false (shaped a run c) (not-given (not (shaped a run c)) BadShape _ t.1).0)

  -- a buffer that is too short for every listing
  pub out-short : length out < listing_size → listing_refusal a run c out ≡ number_of ShortBuffer
  unfolding given first
  out-short h =
      let t : ltb (length out) (listing_room a run c) ≡ true = lt-ltb (length out) (listing_room a run c) (omega (arith, room-least)) in
      rw (t, or-true (too_short a run))

  module _ (h : listing_size ≤ length out) where
    -- automaton, run or counters are refused
    pub lent-refused : (given (lent_conditions a run c) ≡ 0 → ⊥) → listing_refusal a run c out ≡ given (lent_conditions a run c)
    unfolding listing_room given first
    lent-refused n =
        cases (too_short a run)
        (λ t. rw t)
        (λ f. cases (shaped a run c) (λ s. absurd (n (rw (f, s)))) (λ s. rw (f, s, le-ltb (length out) listing_size h)))

    -- they are not: the length of what is stored is left
    length-left : given (lent_conditions a run c) ≡ 0 → listing_refusal a run c out ≡ cond (leb (length (listing_in a run c)) (length out)) 0 (number_of ShortBuffer)
    unfolding listing_room given first
    length-left z =
        let (t, s) = lent-good z in
        let text = length (listing_in a run c) in
        cases (leb text (length out))
        (λ y.
        let l : ltb (length out) (max listing_size text) ≡ false = le-ltb (length out) (max listing_size text) (omega (arith, leb-true text (length out) y)) in
        rw (t, s, l, y))
        (λ y.
        let l : ltb (length out) (max listing_size text) ≡ true = lt-ltb (length out) (max listing_size text) (omega (arith, leb-false text (length out) y)) in
        rw (t, s, l, y))

    -- it is measured
    pub length-says : {t : Length} → given (lent_conditions a run c) ≡ 0 → length out < 2 ^ 64 - 1 → Adds measured (record { bytes = 0 }) (listing_in a run c) t
        → listing_refusal a run c out ≡ cond (leb t.bytes (length out)) 0 (number_of ShortBuffer)
    length-says {t} z small x =
        let text = length (listing_in a run c) in
        let size = length out in
        let e : t.bytes ≡ min text (2 ^ 64 - 1) = rw zero-add at (measured-length x (omega arith)) in
        let same : leb t.bytes size ≡ leb text size = cases (leb text size)
        (λ y. le-leb t.bytes size (omega (arith, leb-true text size y)) ∙ sym y)
        (λ y. lt-leb t.bytes size (omega (arith, leb-false text size y)) ∙ sym y) in
        rw same (length-left z)

  -- where nothing is refused the listing has room
  pub listing-room : listing_refusal a run c out ≡ 0 → length (listing_in a run c) ≤ length out
  unfolding listing_room
  listing-room e =
      let t = not-given (too_short a run || ltb (length out) (listing_room a run c)) ShortBuffer _ e in
      let s : shaped a run c ≡ true = not-false (shaped a run c) (not-given (not (shaped a run c)) BadShape _ t.1).0 in
      let l : listing_room a run c ≤ length out = ltb-false (length out) (listing_room a run c) (or_right (too_short a run) (ltb (length out) (listing_room a run c)) t.0) in
      let m : max listing_size (length (listing_in a run c)) ≤ length out = rw s at l in
      omega arith

-- the line of a refusal has room
pub refused-length : (n : ℕ) → n < 256 → length (refused_line n) ≤ 14
unfolding refused_line refused_word footer tens
refused-length n h =
    let k : length (decimal n) ≤ 3 = decimal-few 2 n (omega arith) in
    omega (arith, length-append (decimal n) footer)

pub line-fits : (out : List ℕ) → listing_size ≤ length out → given (refused_conditions out) ≡ 0
unfolding given first
line-fits out l = let y : ltb (length out) listing_size ≡ false = le-ltb (length out) listing_size l in rw y

pub line-short : (out : List ℕ) → length out < listing_size → number_of ShortBuffer ≡ given (refused_conditions out)
unfolding given first
line-short out h = let y : ltb (length out) listing_size ≡ true = lt-ltb (length out) listing_size h in rw y

pub ruleset refused_lines = (given-none, refused-with, same_order, line-fits, line-short)
