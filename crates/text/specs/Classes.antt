-- Byte classes: every byte that a format treats specially has one. The code's table of 128 entries is this rule at 0 .. 127.
use Rattle.std.specs.Prelude.{ℕ, Bool, true, false, cond, List, [], ◌∷◌}
use Rattle.text.specs.declared.names.Class.{Class}
use Rattle.text.specs.declared.names.Class.TheVariants.{Start, Digit, Hyphen, Dot, Blank, LineEnd, Space, DoubleQuote, SingleQuote, Less, Greater, Open, Close, Slash, Star, Ampersand, Equals, Exclamation, Question, Semicolon, Square, Other, Invalid}
use Rattle.text.specs.Names.{within}

-- what can begin a name
abbrev pub can_begin : Class → Bool
can_begin Start = true
can_begin c = false

-- what can be in one
abbrev pub can_follow : Class → Bool
can_follow Start = true
can_follow Digit = true
can_follow Hyphen = true
can_follow Dot = true
can_follow c = false

-- the bytes low .. high and their class
pub data Range : Type 0 where
  range : ℕ → ℕ → Class → Range

-- the class of the first range that holds the byte; a byte of no range is invalid
unfoldable pub look_up : List Range → ℕ → Class
look_up [] b = Invalid
look_up (range low high class ∷ rs) b = cond (within low high b) class (look_up rs b)

unfoldable pub ranges : List Range
ranges =
    range 97 122 Start
    ∷ range 65 90 Start
    ∷ range 95 95 Start
    ∷ range 48 57 Digit
    ∷ range 45 45 Hyphen
    ∷ range 46 46 Dot
    ∷ range 9 9 Blank
    ∷ range 13 13 Blank
    ∷ range 10 10 LineEnd
    ∷ range 32 32 Space
    ∷ range 34 34 DoubleQuote
    ∷ range 39 39 SingleQuote
    ∷ range 60 60 Less
    ∷ range 62 62 Greater
    ∷ range 40 40 Open
    ∷ range 41 41 Close
    ∷ range 47 47 Slash
    ∷ range 42 42 Star
    ∷ range 38 38 Ampersand
    ∷ range 61 61 Equals
    ∷ range 33 33 Exclamation
    ∷ range 63 63 Question
    ∷ range 59 59 Semicolon
    ∷ range 93 93 Square
    ∷ range 32 126 Other
    ∷ []

unfoldable pub class_of : ℕ → Class
class_of b = look_up ranges b
