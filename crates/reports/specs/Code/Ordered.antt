-- Names in order, where they stand: offsets are sorted by the names there, so that two equal names meet.
use Rattle.std.specs.Prelude.{ℕ, ◌≡◌, Bool, true, false, cond, List, [], ◌∷◌, map, ltb, drop}
use Rattle.std.specs.declared.cmp.Ordering.{Ordering}
use Rattle.std.specs.declared.cmp.Ordering.TheVariants.{Less, Equal, Greater}
use Rattle.std.specs.Ordering.{is_lt}
use Rattle.text.specs.Names.{Name, in_name, same_name}
use Rattle.text.specs.Read.{front}
use Rattle.text.specs.Lists.{every, any}
use Rattle.documents.specs.Repeats.{repeated}

-- the name at an offset: the name bytes from there on, none where there is none
abbrev pub name_at : List ℕ → ℕ → Name
name_at s p = front in_name (drop p s)

abbrev pub names_at : List ℕ → List ℕ → List Name
names_at s places = map (name_at s) places

-- a name's first byte; no name has the byte 0
abbrev pub first_byte : Name → ℕ
first_byte [] = 0
first_byte (b ∷ n) = b

-- by bytes; a front comes before the longer name
unfoldable pub order_of : Name → Name → Ordering
order_of [] [] = Equal
order_of [] (b ∷ n) = Less
order_of (a ∷ m) [] = Greater
order_of (a ∷ m) (b ∷ n) = cond (ltb a b) Less (cond (ltb b a) Greater (order_of m n))

abbrev pub comes_before : Name → Name → Bool
comes_before m n = is_lt (order_of m n)

-- each name comes before every later one
pub data Rising : List Name → Type 0 where
  none : Rising []
  more : {n : Name} {l : List Name} → every (comes_before n) l ≡ true → Rising l → Rising (n ∷ l)

-- which of two rising lists gives the next name of both; Equal if their first names are the same
abbrev pub ahead : List Name → List Name → Ordering
ahead [] m = Greater
ahead (n ∷ l) [] = Less
ahead (n ∷ l) (k ∷ m) = order_of n k

-- two rising lists merged into one, name by name, up to a name that both have; what follows it does not matter
pub data MergesTo : List Name → List Name → Bool → List Name → Type 0 where
  none : MergesTo [] [] false []
  same : {l m out : List Name} → ahead l m ≡ Equal → MergesTo l m true out
  left : {n : Name} {l m out : List Name} {twice : Bool} → ahead (n ∷ l) m ≡ Less → MergesTo l m twice out → MergesTo (n ∷ l) m twice (n ∷ out)
  right : {n : Name} {l m out : List Name} {twice : Bool} → ahead l (n ∷ m) ≡ Greater → MergesTo l m twice out → MergesTo l (n ∷ m) twice (n ∷ out)

-- what sorting offsets answers: whether two of the names are the same; if not, the same names in order
pub record Sorts (s before : List ℕ) (twice : Bool) (after : List ℕ) : Type 0 where
  pub says : twice ≡ repeated (names_at s before)
  pub rising : twice ≡ false → Rising (names_at s after)
  pub same : twice ≡ false → (n : Name) → any (same_name n) (names_at s after) ≡ any (same_name n) (names_at s before)
