-- Reading: what stands at the front of some bytes, and what is after it.
use Rattle.std.specs.Prelude.{ℕ, zero, suc, ◌+◌, ◌*◌, ◌-◌, Bool, true, false, ◌&&◌, cond, List, [], ◌∷◌, ◌++◌, leb, eqb, length}
use Rattle.text.specs.Names.{Name, within, digit, begins_name, in_name}

-- nothing that can be read stands here; or what was read, and the bytes after it
pub data Read (A : Type 0) : Type 0 where
  fail : Read A
  got : A → List ℕ → Read A

-- then read on
abbrev pub then_read : {A B : Type 0} → Read A → (A → List ℕ → Read B) → Read B
then_read fail k = fail
then_read (got a r) k = k a r

-- only if the test holds
abbrev pub when : {A : Type 0} → Bool → Read A → Read A
when true x = x
when false x = fail

-- the longest front of bytes that pass the test, and what is after it
unfoldable pub front : (ℕ → Bool) → List ℕ → List ℕ
front ok [] = []
front ok (b ∷ l) = cond (ok b) (b ∷ front ok l) []

unfoldable pub back : (ℕ → Bool) → List ℕ → List ℕ
back ok [] = []
back ok (b ∷ l) = cond (ok b) (back ok l) (b ∷ l)

-- the word stands at the front of the bytes
unfoldable pub starts_with : List ℕ → List ℕ → Bool
starts_with [] l = true
starts_with (w ∷ ws) [] = false
starts_with (w ∷ ws) (b ∷ l) = eqb w b && starts_with ws l

unfoldable pub read_word : List ℕ → List ℕ → Read (List ℕ)
read_word [] l = got [] l
read_word (w ∷ ws) [] = fail
read_word (w ∷ ws) (b ∷ l) = when (eqb w b) (read_word ws l)

-- a byte that can begin a name
abbrev pub name_ahead : List ℕ → Bool
name_ahead [] = false
name_ahead (b ∷ l) = begins_name b

unfoldable pub read_name : List ℕ → Read Name
read_name [] = fail
read_name (b ∷ l) = when (begins_name b) (got (b ∷ front in_name l) (back in_name l))

-- the number that some digits after a value make
unfoldable pub value_of : ℕ → List ℕ → ℕ
value_of n [] = n
value_of n (b ∷ l) = value_of (10 * n + (b - 48)) l

-- a digit that can begin a number: any but 0
abbrev pub number_ahead : List ℕ → Bool
number_ahead [] = false
number_ahead (b ∷ l) = within 49 57 b

-- a number from 1 to `most`, with no leading zero
unfoldable pub read_number : ℕ → List ℕ → Read ℕ
read_number most l = when (number_ahead l && leb (value_of 0 (front digit l)) most) (got (value_of 0 (front digit l)) (back digit l))

-- items one after the other, at most so many, as long as one begins
unfoldable pub read_up_to : {A : Type 0} → ℕ → (List ℕ → Bool) → (List ℕ → Read A) → List ℕ → Read (List A)
read_up_to zero ahead item l = got [] l
read_up_to (suc steps) ahead item l =
    cond (ahead l) (then_read (item l) (λ a r. then_read (read_up_to steps ahead item r) (λ m r₂. got (a ∷ m) r₂))) (got [] l)

-- as many items as there are; each has a byte at least
abbrev pub read_many : {A : Type 0} → (List ℕ → Bool) → (List ℕ → Read A) → List ℕ → Read (List A)
read_many ahead item l = read_up_to (length l) ahead item l

unfoldable pub print_many : {A : Type 0} → (A → List ℕ) → List A → List ℕ
print_many print [] = []
print_many print (a ∷ m) = print a ++ print_many print m

-- an item after a separator
abbrev pub read_after : {A : Type 0} → List ℕ → (List ℕ → Read A) → List ℕ → Read A
read_after separator item l = then_read (read_word separator l) (λ w r. item r)

-- items with a separator between them, one at least
unfoldable pub read_separated : {A : Type 0} → List ℕ → (List ℕ → Read A) → List ℕ → Read (List A)
read_separated separator item l =
    then_read (item l) (λ a r. then_read (read_many (starts_with separator) (read_after separator item) r) (λ m r₂. got (a ∷ m) r₂))

unfoldable pub print_separated : {A : Type 0} → List ℕ → (A → List ℕ) → List A → List ℕ
print_separated separator print [] = []
print_separated separator print (a ∷ m) = print a ++ print_many (λ b. separator ++ print b) m
