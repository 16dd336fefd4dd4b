-- What is computed of names that a tag repeats is what it says: two attributes of one tag, at different places, have the same name.
use mathlib.Core.Path.{◌≡◌, refl, sym, ap, ◌∙◌}
use mathlib.Core.Bool.{true, false}
use mathlib.Core.Logic.{◌↔◌, inl, inr}
use mathlib.Core.List.{List, [], ◌∷◌, ◌++◌, map}
use Rattle.text.specs.Names.{Name, same_name}
use Rattle.text.specs.Lists.{any}
use Rattle.text.proofs.Laws.Tests.{clash, either, either_left, either-right}
use Rattle.text.proofs.Laws.Lists.{any-is, is_any}
use Rattle.text.proofs.Laws.Bytes.SameName.{same_name-is}
use Rattle.documents.specs.Tokens.{Attribute, Token}
use Rattle.documents.specs.Repeats.{attribute_name, attributes_of, NameTwice, Repeats, repeated, names_repeat, repeats_in}

-- without attributes there is none
pub none-repeat : names_repeat [] ≡ false
unfolding repeated
none-repeat = refl

-- a name among those of attributes, where it stands
record NameAt (n : Name) (l : List Attribute) : Type 0 where
  pub before : List Attribute
  pub found : Attribute
  pub after : List Attribute
  pub stand : before ++ (found ∷ after) ≡ l
  pub same : n ≡ attribute_name found

name-at : (n : Name) (l : List Attribute) → any (same_name n) (map attribute_name l) ≡ true → NameAt n l
unfolding any
name-at n [] h = clash h refl
name-at n (a ∷ l) h = elim (either (same_name n (attribute_name a)) (any (same_name n) (map attribute_name l)) h) [
  | inl e ↦ record { before = []; found = a; after = l; stand = refl; same = (same_name-is n (attribute_name a)).0 e }
  | inr e ↦ let f = name-at n l e in record { before = a ∷ f.before; found = f.found; after = f.after; stand = ap (λ (m : List Attribute). a ∷ m) f.stand; same = f.same }
]

at_name : (n : Name) (before : List Attribute) (found : Attribute) (after : List Attribute) → n ≡ attribute_name found
    → any (same_name n) (map attribute_name (before ++ (found ∷ after))) ≡ true
unfolding any
at_name n [] found after e = either_left (any (same_name n) (map attribute_name after)) ((same_name-is n (attribute_name found)).1 e)
at_name n (a ∷ before) found after e = either-right (same_name n (attribute_name a)) (at_name n before found after e)

repeat-twice : (l : List Attribute) → names_repeat l ≡ true → NameTwice l
unfolding repeated
repeat-twice [] h = clash h refl
repeat-twice (a ∷ l) h = elim (either (any (same_name (attribute_name a)) (map attribute_name l)) (names_repeat l) h) [
  | inl e ↦ let f = name-at (attribute_name a) l e in record { before = []; one = a; between = f.before; other = f.found; after = f.after; stand = ap (λ (m : List Attribute). a ∷ m) f.stand; same = f.same }
  | inr e ↦ let t = repeat-twice l e in record { before = a ∷ t.before; one = t.one; between = t.between; other = t.other; after = t.after; stand = ap (λ (m : List Attribute). a ∷ m) t.stand; same = t.same }
]

twice-repeat : (before : List Attribute) (one : Attribute) (between : List Attribute) (other : Attribute) (after : List Attribute)
    → attribute_name one ≡ attribute_name other → names_repeat (before ++ (one ∷ (between ++ (other ∷ after)))) ≡ true
unfolding repeated
twice-repeat [] one between other after e = either_left (names_repeat (between ++ (other ∷ after))) (at_name (attribute_name one) between other after e)
twice-repeat (a ∷ before) one between other after e =
    either-right (any (same_name (attribute_name a)) (map attribute_name (before ++ (one ∷ (between ++ (other ∷ after))))))
    (twice-repeat before one between other after e)

-- a tag's attributes
pub names-repeat-is : (l : List Attribute) → (names_repeat l ≡ true) ↔ NameTwice l
names-repeat-is l = (
  repeat-twice l,
  λ t. ap names_repeat (sym t.stand) ∙ twice-repeat t.before t.one t.between t.other t.after t.same,
)

-- a run's tokens
pub repeats-is : (ts : List Token) → (repeats_in ts ≡ true) ↔ Repeats ts
unfolding repeats_in
repeats-is ts = (
  λ h.
      let (t, i, e) = any-is (λ t. names_repeat (attributes_of t)) ts h in
      record { tag = t; has = i; twice = (names-repeat-is (attributes_of t)).0 e },
  λ r. is_any (λ t. names_repeat (attributes_of t)) ts r.has ((names-repeat-is (attributes_of r.tag)).1 r.twice),
)
