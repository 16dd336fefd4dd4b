-- Where the name of a tag stands (paper 01: Reports): from which offset to which of the bytes that the tag begins in.
use Rattle.std.specs.Prelude.{ℕ, ◌+◌, ◌≡◌, true, List, ◌++◌, length, drop}
use Rattle.text.specs.Names.{Name}
use Rattle.documents.specs.Tokens.{Attribute, Token, start_tag, empty_tag, end_tag, print_token, formed_token}

-- the token is a tag of this name, and so many of its bytes stand before the name: `<`, of an end tag `</`
pub data Tag : Token → ℕ → Name → Type 0 where
  start : {n : Name} {l : List Attribute} {b : List ℕ} → Tag (start_tag n l b) 1 n
  empty : {n : Name} {l : List Attribute} {b : List ℕ} → Tag (empty_tag n l b) 1 n
  end : {n : Name} {b : List ℕ} → Tag (end_tag n b) 2 n

-- a whole tag begins at the offset: the bytes from there begin with those that some tag within its rule prints to
pub record WholeTag (s : List ℕ) (at before : ℕ) (n : Name) : Type 0 where
  pub token : Token
  pub tag : Tag token before n
  pub formed : formed_token token ≡ true
  pub rest : List ℕ
  pub prints : print_token token ++ rest ≡ drop at s

abbrev pub NoTag : List ℕ → ℕ → Type 0
NoTag s at = (before : ℕ) (n : Name) → WholeTag s at before n → ⊥

-- the name stands from the one offset to the other: right after the bytes before it, and as long as it is; 0 to 0 where no whole tag begins
pub data TagAt (s : List ℕ) (at from to : ℕ) : Type 0 where
  whole : {before : ℕ} {n : Name} → WholeTag s at before n → from ≡ at + before → to ≡ from + length n → TagAt s at from to
  none : NoTag s at → from ≡ 0 → to ≡ 0 → TagAt s at from to
