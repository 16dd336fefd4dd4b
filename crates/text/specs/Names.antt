-- Names: a letter or `_`, then letters, digits, `_`, `-` and `.`, all ASCII. Length is a matter of its own.
use Rattle.std.specs.Prelude.{ℕ, suc, Bool, true, false, ◌&&◌, ◌||◌, List, [], ◌∷◌, leb, eqb, length}
use Rattle.text.specs.Lists.{every}

-- a byte is a number; a name is a list of bytes
abbrev pub Name : Type 0
Name = List ℕ

-- b is one of low .. high
abbrev pub within : ℕ → ℕ → ℕ → Bool
within low high b = leb low b && leb b high

unfoldable pub letter : ℕ → Bool
letter b = within 97 122 b || within 65 90 b

unfoldable pub digit : ℕ → Bool
digit b = within 48 57 b

-- a byte that can begin a name: a letter or `_`
unfoldable pub begins_name : ℕ → Bool
begins_name b = letter b || eqb b 95

-- a byte of a name: one that can begin it, a digit, `-` or `.`
unfoldable pub in_name : ℕ → Bool
in_name b = begins_name b || digit b || eqb b 45 || eqb b 46

-- name form, length aside
unfoldable pub name_form : List ℕ → Bool
name_form [] = false
name_form (b ∷ bs) = begins_name b && every in_name bs

-- bytes of a name at most. A proof that needs the number says `unfolding`
unfoldable pub max_name : ℕ
max_name = 32

-- over the limit of a name's length
abbrev pub too_long : List ℕ → Bool
too_long n = leb (suc max_name) (length n)

-- two names have the same bytes
unfoldable pub same_name : List ℕ → List ℕ → Bool
same_name [] [] = true
same_name [] (b ∷ bs) = false
same_name (a ∷ rest) [] = false
same_name (a ∷ rest) (b ∷ bs) = eqb a b && same_name rest bs
