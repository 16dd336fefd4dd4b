-- A number is found digit by digit: what is known on the way, and what it comes to.
use Prim.Native.Nat.{ℕ, ◌+◌, ◌*◌, ◌-◌, ◌≤◌, ◌<◌}
use native.Mathlib.Omega.{arith}
use native.Mathlib.Numerals.{add-one}
use mathlib.Core.Path.{◌≡◌, ap, ◌∙◌}
use mathlib.Core.Bool.{true, false, and-false}
use mathlib.Core.List.{List}
use borrow.Author.Tests.{le-leb, lt-leb}
use lib.ListN.{length, get_or, drop, length-drop, drop_of_length-le}
use lib.Seq.{drop-cons}
use Rattle.std.specs.Prelude.{Option, Some, None}
use Rattle.text.specs.Names.{digit}
use Rattle.text.specs.Read.{front, back, value_of, number_ahead, read_number}
use Rattle.text.specs.Numbers.{number_found}
use Rattle.text.specs.declared.numbers.Number.{Number}
use Rattle.text.proofs.Laws.Fronts.{stops, front-stop, back-stop}
use Rattle.text.proofs.Laws.ReadNumber.{value_grows}

module _ (s : List ℕ) (at most : ℕ) where
  abbrev pub Found : Option Number → Type 0
  Found n = n ≡ number_found (length s) (read_number most (drop at s))

  pub no_number : number_ahead (drop at s) ≡ false → Found None
  unfolding read_number
  no_number f = rw f

  -- the digits before i make this value, and those from i on the rest of the number
  pub record Scanned (i value : ℕ) : Type 0 where
    pub ahead : number_ahead (drop at s) ≡ true
    pub on : i ≤ length s
    pub small : value ≤ most
    pub values : value_of 0 (front digit (drop at s)) ≡ value_of value (front digit (drop i s))
    pub backs : back digit (drop at s) ≡ back digit (drop i s)

  module _ (i value : ℕ) (k : Scanned i value) where
    pub stopped : stops digit (drop i s) ≡ true → Found (Some (record { value = value; end = i }))
    unfolding read_number value_of
    stopped e =
        let all : value_of 0 (front digit (drop at s)) ≡ value = k.values ∙ ap (value_of value) (front-stop digit (drop i s) e) in
        let rest : back digit (drop at s) ≡ drop i s = k.backs ∙ back-stop digit (drop i s) e in
        let end : length s - length (drop i s) ≡ i = omega (arith, length-drop i s, k.on) in
        rw (k.ahead, all, rest, le-leb value most k.small, end)

    pub ended : length s ≤ i → Found (Some (record { value = value; end = length s }))
    ended h = let e : i ≡ length s = omega (arith, k.on) in rw e at (stopped (rw (drop_of_length-le s h)))

    module _ (h : i < length s) where
      pub foreign : digit (get_or s i 0) ≡ false → Found (Some (record { value = value; end = i }))
      foreign f = stopped (rw (drop-cons s i 0 h, f))

      module _ (t : digit (get_or s i 0) ≡ true) where
        further : value_of 0 (front digit (drop at s)) ≡ value_of (10 * value + (get_or s i 0 - 48)) (front digit (drop (i + 1) s))
        unfolding value_of front
        further = k.values ∙ rw (drop-cons s i 0 h, t, add-one i)

        pub over : most < 10 * value + (get_or s i 0 - 48) → Found None
        unfolding read_number
        over o =
            let large : most < value_of 0 (front digit (drop at s)) =
            rw further (omega (arith, value_grows (10 * value + (get_or s i 0 - 48)) (front digit (drop (i + 1) s)))) in
            rw (lt-leb _ most large, and-false (number_ahead (drop at s)))

        pub onwards : 10 * value + (get_or s i 0 - 48) ≤ most → Scanned (i + 1) (10 * value + (get_or s i 0 - 48))
        unfolding back
        onwards o = record { ahead = k.ahead; on = omega arith; small = o; values = further; backs = k.backs ∙ rw (drop-cons s i 0 h, t, add-one i) }

-- for the ends of the scan
pub ruleset exits = (no_number, ended, foreign, over)
