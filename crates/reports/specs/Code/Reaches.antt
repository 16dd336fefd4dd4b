-- How far a reading goes, as an offset into some bytes.
use Rattle.std.specs.Prelude.{ℕ, ◌-◌, length, drop, List, [], ◌∷◌, map, Option, None, Some}
use Rattle.text.specs.Names.{Name}
use Rattle.documents.specs.Tokens.{Attribute, quote_byte, blank, in_value}
use Rattle.documents.specs.Repeats.{attribute_name}
use Rattle.text.specs.Read.{Read, fail, got, then_read, back, read_word}
use Rattle.documents.specs.Reading.{read_quote, read_parts, read_attributes}

-- where it ends, in bytes of this length in all
abbrev pub reach_of : {A : Type 0} → ℕ → Read A → Option ℕ
reach_of total fail = None
reach_of total (got a r) = Some (total - length r)

-- where what is read from an offset on ends
unfoldable pub reach : {A : Type 0} → (List ℕ → Read A) → List ℕ → ℕ → Option ℕ
reach read s at = reach_of (length s) (read (drop at s))

-- where the blanks from an offset on end
abbrev pub blanks_to : List ℕ → ℕ → ℕ
blanks_to s at = length s - length (back blank (drop at s))

-- a byte after blanks
abbrev pub read_mark : ℕ → List ℕ → Read (List ℕ)
read_mark mark l = read_word (mark ∷ []) (back blank l)

-- a value up to its quote, with the quote; a quoted value after blanks
abbrev pub read_quoted : ℕ → List ℕ → Read (List ℕ)
read_quoted quote l = then_read (read_parts (in_value quote) l) (λ v r. read_word (quote ∷ []) r)

abbrev pub read_value : List ℕ → Read (List ℕ)
read_value l = then_read (read_quote (back blank l)) (λ q r. read_quoted (quote_byte q) r)

-- the attributes of a tag and the blanks after them
abbrev pub read_inside : List ℕ → Read (List Attribute)
read_inside l = then_read (read_attributes l) (λ m r. got m (back blank r))

-- the names of attributes, if they were read
abbrev pub names_in : Read (List Attribute) → List Name
names_in fail = []
names_in (got l r) = map attribute_name l

-- those of the attributes from an offset
abbrev pub names_from : List ℕ → ℕ → List Name
names_from s at = names_in (read_attributes (drop at s))
