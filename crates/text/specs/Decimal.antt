-- Numbers as text: decimal digits, with no leading zero.
use Rattle.std.specs.Prelude.{ℕ, zero, suc, ◌+◌, ◌/◌, ◌%◌, true, false, List, [], ◌∷◌, ◌++◌, ltb}

-- the digits of n, as bytes; `steps` bounds how many are written
unfoldable pub digits : ℕ → ℕ → List ℕ
digits zero n = []
digits (suc steps) n = elim (ltb n 10) [ true ↦ (48 + n) ∷ [] | false ↦ digits steps (n / 10) ++ ((48 + n % 10) ∷ []) ]

unfoldable pub decimal : ℕ → List ℕ
decimal n = digits (suc n) n
