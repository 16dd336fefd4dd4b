-- What the classes say of names: the plain tests on a byte, of every number, are tests on its class.
use Prim.Native.Nat.{ℕ, ◌<◌, ◌≤◌}
use mathlib.Core.Path.{◌≡◌, refl, ◌∙◌, sym, ap}
use mathlib.Core.Bool.{Bool, true, false, ◌&&◌, and-false}
use mathlib.Core.List.{List, [], ◌∷◌, map}
use native.Mathlib.Omega.{arith}
use lib.Dec.{leb, ltb}
use borrow.Author.Tests.{lt-leb, ltb-true, ltb-false, ne_eqb}
use lib.ListN.{length, get_or}
use Rattle.std.specs.Char.{is_ascii_lowercase}
use Rattle.std.specs.List.{list_all, range_with_len}
use Rattle.std.proofs.lemmas.List.{get_or_past}
use Rattle.std.proofs.lemmas.List.FromFn.{get_or-map-range_with_len, length-map-range_with_len}
use Rattle.std.proofs.lemmas.Bool.{agree_below, agree_below_at}
use Rattle.text.specs.Lists.{every}
use Rattle.text.specs.Names.{within, letter, digit, begins_name, in_name}
use Rattle.text.specs.declared.names.Class.TheVariants.{Invalid}
use Rattle.text.specs.Classes.{Range, range, look_up, ranges, class_of, can_begin, can_follow}
use Rattle.text.proofs.Laws.Tests.{cases, and_left, and_right}

-- every range ends below n
unfoldable under : ℕ → List Range → Bool
under n [] = true
under n (range low high class ∷ rs) = ltb high n && under n rs

within-past : (low high b : ℕ) → high < b → within low high b ≡ false
within-past low high b h = rw (lt-leb b high) (and-false (leb low b))

look_up-past : (n b : ℕ) → n ≤ b → (rs : List Range) → under n rs ≡ true → look_up rs b ≡ Invalid
unfolding under look_up
look_up-past n b h [] e = refl
look_up-past n b h (range low high class ∷ rs) e =
    let inside : high < b = omega (arith, ltb-true high n (and_left (ltb high n) (under n rs) e)) in
    rw (within-past low high b) (look_up-past n b h rs (and_right (ltb high n) (under n rs) e))

-- a number of 128 and more is of no range
pub class-past : (b : ℕ) → 128 ≤ b → class_of b ≡ Invalid
unfolding class_of under ranges
class-past b h = look_up-past 128 b h ranges refl

-- the table is the rule's values at 0 .. 127; where it has no entry the class is invalid
pub entry : (b : ℕ) → get_or (map class_of (range_with_len 0 128)) b Invalid ≡ class_of b
entry b =
    let table = map class_of (range_with_len 0 128) in
    cases (ltb b 128)
    (λ t. get_or-map-range_with_len class_of 0 128 b b Invalid (ltb-true b 128 t) (omega arith))
    (λ f.
    let past : length table ≤ b = omega (arith, length-map-range_with_len class_of 0 128, ltb-false b 128 f) in
    get_or_past table b Invalid past ∙ sym (class-past b (ltb-false b 128 f)))

-- two tests on bytes are one if they are so at 0 .. 127, which is computed, and from there on
by-entries : (f g : ℕ → Bool) → agree_below f g 128 ≡ true → ((b : ℕ) → 128 ≤ b → f b ≡ g b) → (b : ℕ) → f b ≡ g b
by-entries f g e past b = cases (ltb b 128) (λ t. agree_below_at f g 128 b e (ltb-true b 128 t)) (λ t. past b (ltb-false b 128 t))

begins-past : (b : ℕ) → 128 ≤ b → begins_name b ≡ false
unfolding begins_name letter
begins-past b h =
    rw (within-past 97 122 b (omega arith), within-past 65 90 b (omega arith), ne_eqb b 95 (λ e. omega arith))

in-past : (b : ℕ) → 128 ≤ b → in_name b ≡ false
unfolding in_name digit
in-past b h =
    rw (begins-past b h, within-past 48 57 b (omega arith), ne_eqb b 45 (λ e. omega arith), ne_eqb b 46 (λ e. omega arith))

-- a byte begins a name exactly if its class does
pub begins-class : (b : ℕ) → begins_name b ≡ can_begin (class_of b)
unfolding class_of look_up ranges begins_name letter
begins-class = by-entries begins_name (λ b. can_begin (class_of b)) refl (λ b h. begins-past b h ∙ ap can_begin (sym (class-past b h)))

-- a byte is of a name exactly if its class is
pub in-class : (b : ℕ) → in_name b ≡ can_follow (class_of b)
unfolding class_of look_up ranges in_name begins_name letter digit
in-class = by-entries in_name (λ b. can_follow (class_of b)) refl (λ b h. in-past b h ∙ ap can_follow (sym (class-past b h)))

-- what the code's `all` says, of each byte's class
pub all-in-class : (l : List ℕ) → every in_name l ≡ list_all (λ b. can_follow (class_of b)) l
unfolding every
all-in-class [] = refl
all-in-class (b ∷ l) = rw (in-class b, all-in-class l)

-- small letters by a test of their own
pub in-small : (b : ℕ) → is_ascii_lowercase b ≡ true → in_name b ≡ true
unfolding in_name begins_name letter
in-small b h = rw h

pub begins-small : (b : ℕ) → is_ascii_lowercase b ≡ true → begins_name b ≡ true
unfolding begins_name letter
begins-small b h = rw h

-- for a test of a byte: by its own test, and else by its class
pub ruleset tested = (begins-class, begins-small, in-class, in-small)
