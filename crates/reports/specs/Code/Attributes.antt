-- The attributes of a tag from an offset, one after the other.
use Rattle.std.specs.Prelude.{ℕ, ◌-◌, ◌≤◌, ◌%◌, ◌≡◌, cond, List, ltb, length, map, take, drop, set, Option, None, Some}
use Rattle.text.specs.Read.{Read, fail, got}
use Rattle.documents.specs.Limits.{max_report_bytes}
use Rattle.documents.specs.Tokens.{Attribute}
use Rattle.documents.specs.Reading.{attribute_ahead, read_attribute}
use Rattle.documents.specs.Repeats.{attribute_name}
use Rattle.reports.specs.declared.attributes.Next.{Next}
use Rattle.reports.specs.declared.attributes.Next.TheVariants.{Blanks, Attribute as AttributeAt}
use Rattle.reports.specs.declared.attributes.Inside.{Inside}
use Rattle.reports.specs.Code.Reaches.{reach, blanks_to, read_inside, names_from}
use Rattle.reports.specs.Code.Ordered.{names_at}
use Rattle.reports.specs.Seen.{judged}

-- the attribute ahead: where its name begins, and where it ends
abbrev pub next_of : ℕ → ℕ → Read Attribute → Option Next
next_of total name fail = None
next_of total name (got a r) = Some (AttributeAt name (total - length r))

unfoldable pub next_from : List ℕ → ℕ → Option Next
next_from s at =
    cond (attribute_ahead (drop at s)) (next_of (length s) (blanks_to s at) (read_attribute (drop at s))) (Some (Blanks (blanks_to s at)))

-- a place is kept in two bytes, if there is room for it
abbrev pub kept : List ℕ → ℕ → ℕ → List ℕ
kept places k name = cond (ltb k (length places)) (set places k (name % 65536)) places

-- where the attributes and the blanks after them end, how many there are, and where their names stand, if there is room for all
pub record Notes (s : List ℕ) (at end count : ℕ) (places : List ℕ) : Type 0 where
  pub reaches : Some end ≡ reach read_inside s at
  pub counts : count ≡ length (names_from s at)
  pub noted : length s ≤ max_report_bytes → count ≤ length places → names_at s (take count places) ≡ names_from s at

-- where they end, and whether a name is repeated
abbrev pub inside_of : ℕ → Read (List Attribute) → Option Inside
inside_of total fail = None
inside_of total (got l r) = Some (record { end = total - length r; twice = judged total (map attribute_name l) })

unfoldable pub inside_from : List ℕ → ℕ → Option Inside
inside_from s at = inside_of (length s) (read_inside (drop at s))
