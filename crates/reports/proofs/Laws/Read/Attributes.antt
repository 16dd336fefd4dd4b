-- The attributes of a tag from an offset, by the one that comes next.
use Prim.Native.Nat.{ℕ, ◌+◌, ◌*◌, ◌-◌, ◌≤◌, ◌<◌, ◌%◌}
use native.Mathlib.Omega.{arith}
use native.Mathlib.Numerals.{add-one}
use native.Mathlib.Nat.{mod-eq_of_lt}
use mathlib.Core.Path.{◌≡◌, refl, sym, ap, ◌∙◌}
use mathlib.Core.Bool.{Bool, true, false, and-false, or-false}
use mathlib.Core.List.{List, [], ◌∷◌, ◌++◌, append_assoc, append-nil, map, map-append}
use lib.Dec.{leb, ltb}
use borrow.Author.Tests.{eqb-true, ltb-true, ltb-false, le-leb, lt-leb}
use lib.ListN.{length, take, drop, get_or, set, length-append, length-drop, length-map}
use lib.Seq.{take-suc-set}
use Rattle.text.specs.Names.{Name, begins_name, in_name, name_form, same_name}
use Rattle.text.specs.Lists.{every, any, non_empty}
use Rattle.text.specs.Read.{Read, fail, got, then_read, front, back, name_ahead, read_name, print_many}
use Rattle.text.proofs.Laws.Tests.{cases, and_left, and_right, clash}
use Rattle.text.proofs.Laws.Lists.{every-head, every_rest}
use Rattle.text.proofs.Laws.Reads.{WhenRead, failed, gotten, holds-got, then-holds, when-holds, word_sound}
use Rattle.text.proofs.Laws.ReadMany.{many-none, many_more, many-sound, shorter}
use Rattle.documents.specs.Limits.{max_report_bytes}
use Rattle.documents.specs.Tokens.{Attribute, attribute, blank, in_value, quote_byte, print_parts, print_attribute, print_attributes, formed_attribute}
use Rattle.documents.specs.Repeats.{attribute_name, repeated}
use Rattle.documents.specs.Reading.{read_attribute_from, read_attribute, attribute_ahead, read_attributes}
use Rattle.documents.proofs.Laws.Printed.AttributesBack.{attribute-begins, formed-parts}
use Rattle.documents.proofs.Laws.Read.ByteTests.{blank-high}
use Rattle.documents.proofs.Laws.Read.PartsSound.{attribute-sound, part_sound}
use Rattle.documents.proofs.Laws.Read.Quotes.{quote-sound}
use Rattle.std.proofs.Common.{Option, None, Some, MatchOption}
use Rattle.reports.specs.declared.attributes.Next.{Next}
use Rattle.reports.specs.declared.attributes.Next.TheVariants.{Blanks, Attribute as AttributeAt}
use Rattle.reports.specs.declared.attributes.Noted.{Noted}
use Rattle.reports.specs.Code.Reaches.{reach_of, reach, blanks_to, read_inside, names_in, names_from}
use Rattle.reports.specs.Code.Ordered.{name_at, names_at}
use Rattle.reports.specs.Code.Attributes.{next_of, next_from, kept, Notes, inside_of, inside_from}
use Rattle.reports.specs.Code.Seen.{has_byte}
use Rattle.reports.specs.Seen.{judged}
use Rattle.reports.proofs.Laws.Read.Reaches.{left-drop, never, blanks-left, blanks-no}
use Rattle.reports.proofs.Laws.Read.Inside.{no-blanks}

-- the name of an attribute that was read is the name bytes that it begins with
name-front : (l : List ℕ) → WhenRead (λ n r. n ≡ front in_name l) (read_name l)
unfolding read_name front in_name
name-front [] = failed
name-front (b ∷ l) = when-holds (begins_name b) (λ t. gotten (rw t))

named : (f l : List ℕ) → WhenRead (λ a r. attribute_name a ≡ front in_name l) (read_attribute_from f l)
unfolding read_attribute_from
named f l =
    then-holds (name-front l) (λ n r name.
    then-holds (word_sound (61 ∷ []) (back blank r)) (λ w r₂ eq.
    then-holds (quote-sound (back blank r₂)) (λ q r₃ quote.
    then-holds (many-sound (part_sound (in_value (quote_byte q))) r₃) (λ v r₄ more.
    then-holds (word_sound (quote_byte q ∷ []) r₄) (λ u r₅ close. gotten name)))))

-- what the attributes from an offset are, by what comes next
data After (s : List ℕ) (i : ℕ) : Option Next → Type 0 where
  done : {n : ℕ} → n ≡ blanks_to s i → read_attributes (drop i s) ≡ got [] (drop i s) → After s i (Some (Blanks n))
  torn : read_attributes (drop i s) ≡ fail → After s i None
  one : {n e : ℕ} (a : Attribute) → read_attributes (drop i s) ≡ then_read (read_attributes (drop e s)) (λ m r. got (a ∷ m) r) → attribute_name a ≡ name_at s n
      → (n < length s) × (i < e) × (e ≤ length s) → After s i (Some (AttributeAt n e))

some_bytes : (l : List ℕ) → non_empty l ≡ true → 1 ≤ length l
some_bytes [] h = clash h refl
some_bytes (b ∷ l) h = omega arith

name-bytes : (n : List ℕ) → name_form n ≡ true → 1 ≤ length n
unfolding name_form
name-bytes [] h = clash h refl
name-bytes (b ∷ n) h = omega arith

some_left : (l : List ℕ) → name_ahead l ≡ true → 1 ≤ length l
some_left [] t = clash t refl
some_left (b ∷ l) t = omega arith

module _ (s : List ℕ) (i : ℕ) where
  l : List ℕ
  l = drop i s

  after : After s i (next_from s i)
  unfolding next_from l
  after = cases (attribute_ahead l) (λ t. rw t (go t (read_attribute l) refl)) (λ f. rw f (done refl (many-none attribute_ahead read_attribute l f)))
    where
      go : attribute_ahead l ≡ true → (m : Read Attribute) → read_attribute l ≡ m → After s i (next_of (length s) (blanks_to s i) m)
      go t fail e = torn (rw (many_more attribute-begins attribute-sound l t, e))
      go t (got a r) e =
          let printed = (holds-got (rw e at (attribute-sound.sound l t))).1 in
          let rest = left-drop s (print_attribute a) r i printed in
          let less : length r < length l = holds-got (rw e at (shorter attribute-begins attribute-sound l t)) in
          let behind = blanks-left s i in
          let name : attribute_name a ≡ front in_name (back blank l) = holds-got (rw e at (named (front blank l) (back blank l))) in
          let some = some_left (back blank l) (and_right (non_empty (front blank l)) (name_ahead (back blank l)) t) in
          one {n = blanks_to s i} {e = length s - length r} a (rw (many_more attribute-begins attribute-sound l t, e, rest)) (name ∙ ap (front in_name) behind)
          (omega (arith, ap length behind, length-drop (blanks_to s i) s), omega (arith, length-drop i s), omega arith)

  comes : {x : Option Next} → next_from s i ≡ x → After s i x
  comes is = rw is at after

then-got : {A : Type 0} (m : Read A) → m ≡ then_read m got
then-got fail = refl
then-got (got a r) = refl

-- one more attribute behind some others
behind-one : (l : List Attribute) (a : Attribute) (m : Read (List Attribute))
    → then_read (then_read m (λ x r. got (a ∷ x) r)) (λ x r. got (l ++ x) r) ≡ then_read m (λ x r. got ((l ++ (a ∷ [])) ++ x) r)
behind-one l a fail = refl
behind-one l a (got x r) = rw append_assoc

module _ (s : List ℕ) (i n e : ℕ) (is : next_from s i ≡ Some (AttributeAt n e)) where
  pub goes_on : i < e
  goes_on = go (comes s i is)
    where
      go : After s i (Some (AttributeAt n e)) → i < e
      go (one a read name bounds) = bounds.1

  pub goes-within : e ≤ length s
  goes-within = go (comes s i is)
    where
      go : After s i (Some (AttributeAt n e)) → e ≤ length s
      go (one a read name bounds) = bounds.2

-- the attributes that were passed from an offset to another, and what was noted of them
pub record Passed (s : List ℕ) (at i count : ℕ) (places : List ℕ) : Type 0 where
  pub passed : List Attribute
  pub read : read_attributes (drop at s) ≡ then_read (read_attributes (drop i s)) (λ m r. got (passed ++ m) r)
  pub counts : count ≡ length passed
  pub noted : length s ≤ max_report_bytes → count ≤ length places → names_at s (take count places) ≡ map attribute_name passed

pub passed_none : (s : List ℕ) (at : ℕ) (places : List ℕ) → Passed s at at 0 places
passed_none s at places = record { passed = []; read = then-got (read_attributes (drop at s)); counts = refl; noted = λ short room. refl }

module _ (s : List ℕ) (at i count : ℕ) (places : List ℕ) (p : Passed s at i count places) where
  -- the next is passed, and noted if there is room
  module _ {n e : ℕ} (next : next_from s i ≡ Some (AttributeAt n e)) where
    next-read : (b : Attribute) × (attribute_name b ≡ name_at s n) × (n < length s)
        × (read_attributes (drop at s) ≡ then_read (read_attributes (drop e s)) (λ m r. got ((p.passed ++ (b ∷ [])) ++ m) r))
    next-read = go (comes s i next)
      where
        go : After s i (Some (AttributeAt n e)) → (b : Attribute) × (attribute_name b ≡ name_at s n) × (n < length s)
            × (read_attributes (drop at s) ≡ then_read (read_attributes (drop e s)) (λ m r. got ((p.passed ++ (b ∷ [])) ++ m) r))
        go (one b is name (inside, low, high)) = (b, name, inside, rw is at p.read ∙ behind-one p.passed b (read_attributes (drop e s)))

    one_more-is : (b : Attribute) → count + 1 ≡ length (p.passed ++ (b ∷ []))
    one_more-is b = omega (arith, length-append p.passed (b ∷ []), p.counts)

    passed-full : length places ≤ count → Passed s at e (count + 1) places
    passed-full full =
        let (b, name, inside, read) = next-read in
        record { passed = p.passed ++ (b ∷ []); read = read; counts = one_more-is b; noted = λ short room. absurd (omega arith) }

    passed-noted : count < length places → Passed s at e (count + 1) (set places count (n % 65536))
    unfolding max_report_bytes
    passed-noted room =
        let (b, name, inside, read) = next-read in
        record {
          passed = p.passed ++ (b ∷ []);
          read = read;
          counts = one_more-is b;
          noted = λ short room₂.
              let same : n % 65536 ≡ n = mod-eq_of_lt (omega arith) in
              rw (add-one count, take-suc-set places count (n % 65536) room, map-append (name_at s) (take count places) ((n % 65536) ∷ []), map-append attribute_name p.passed (b ∷ []), p.noted short (omega arith), same, name);
        }

    pub passed-next : Passed s at e (count + 1) (kept places count n)
    passed-next =
        cases (ltb count (length places))
        (λ t. rw t (passed-noted (ltb-true count (length places) t)))
        (λ f. rw f (passed-full (ltb-false count (length places) f)))

  pub noted-done : {n : ℕ} → next_from s i ≡ Some (Blanks n) → Notes s at n count places
  unfolding reach
  noted-done {n} next = go (comes s i next)
    where
      go : After s i (Some (Blanks n)) → Notes s at n count places
      go (done is none) =
          let all : read_attributes (drop at s) ≡ got p.passed (drop i s) = rw (none, append-nil) at p.read in
          let names : names_from s at ≡ map attribute_name p.passed = ap names_in all in
          record {
            reaches = rw all (ap Some is);
            counts = p.counts ∙ sym (ap length names ∙ length-map p.passed attribute_name);
            noted = λ short room. p.noted short room ∙ sym names;
          }

  pub noted-torn : next_from s i ≡ None → read_attributes (drop at s) ≡ fail
  noted-torn next = go (comes s i next)
    where
      go : After s i None → read_attributes (drop at s) ≡ fail
      go (torn none) = rw none at p.read

-- Each attribute has five bytes at least: a blank, a name, `=` and two quotes

attribute-bytes : (a : Attribute) → formed_attribute a ≡ true → 5 ≤ length (print_attribute a)
unfolding print_attribute
attribute-bytes (attribute f n before after q v) h =
    let formed = formed-parts f n before after q v h in
    let end : List ℕ = print_parts v ++ (quote_byte q ∷ []) in
    omega (arith, some_bytes f formed.some, name-bytes n formed.name, length-append f (n ++ (before ++ (61 ∷ (after ++ (quote_byte q ∷ end))))), length-append n (before ++ (61 ∷ (after ++ (quote_byte q ∷ end)))), length-append before (61 ∷ (after ++ (quote_byte q ∷ end))), length-append after (quote_byte q ∷ end), length-append (print_parts v) (quote_byte q ∷ []))

attributes-bytes : (l : List Attribute) → every formed_attribute l ≡ true → 5 * length l ≤ length (print_attributes l)
unfolding print_many
attributes-bytes [] h = omega arith
attributes-bytes (a ∷ l) h =
    omega (arith, attribute-bytes a (every-head formed_attribute a l h), attributes-bytes l (every_rest formed_attribute a l h), length-append (print_attribute a) (print_attributes l))

pub names-bytes : (s : List ℕ) (at : ℕ) → 5 * length (names_from s at) ≤ length s
names-bytes s at = go (read_attributes (drop at s)) (many-sound attribute-sound (drop at s))
  where
    go : (m : Read (List Attribute)) → WhenRead (λ l r. (every formed_attribute l ≡ true) × (print_attributes l ++ r ≡ drop at s)) m → 5 * length (names_in m) ≤ length s
    go fail h = omega arith
    go (got l r) h =
        let (formed, prints) = holds-got h in
        omega (arith, attributes-bytes l formed, length-map l attribute_name, length-append (print_attributes l) r, ap length prints, length-drop at s)

-- What is told of them

two-names : (s places : List ℕ) → 2 ≤ length places → repeated (names_at s (take 2 places)) ≡ same_name (name_at s (get_or places 0 0)) (name_at s (get_or places 1 0))
unfolding repeated any
two-names s [] h = absurd (omega arith)
two-names s (p ∷ []) h = absurd (omega arith)
two-names s (p ∷ q ∷ places) h = rw (or-false, or-false)

few-names : (l : List Name) → length l < 2 → repeated l ≡ false
unfolding repeated any
few-names [] h = refl
few-names (n ∷ []) h = refl
few-names (n ∷ m ∷ l) h = absurd (omega arith)

module _ (s : List ℕ) (at count : ℕ) (is : count ≡ length (names_from s at)) where
  pub judged-few : count < 2 → false ≡ judged (length s) (names_from s at)
  judged-few h = rw (few-names (names_from s at) (omega arith)) (sym (and-false (leb (length s) max_report_bytes)))

  pub judged-long : max_report_bytes < length s → false ≡ judged (length s) (names_from s at)
  judged-long h = rw (lt-leb (length s) max_report_bytes h)

  module _ (short : length s ≤ max_report_bytes) where
    pub judged-by : (twice : Bool) → twice ≡ repeated (names_from s at) → twice ≡ judged (length s) (names_from s at)
    judged-by twice e = rw (le-leb (length s) max_report_bytes short) e

    -- what a second look notes
    pub all_noted : (r : Option Noted) (places : List ℕ) → MatchOption r (read_attributes (drop at s) ≡ fail) (λ n. Notes s at n.end n.count places)
        → count ≤ length places → (twice : Bool) → twice ≡ repeated (names_at s (take count places)) → twice ≡ repeated (names_from s at)
    all_noted r places noted room twice e = go r noted
      where
        go : (r : Option Noted) → MatchOption r (read_attributes (drop at s) ≡ fail) (λ n. Notes s at n.end n.count places) → twice ≡ repeated (names_from s at)
        go None none =
            let names : names_from s at ≡ [] = ap names_in none in
            let zero : count ≡ 0 = is ∙ ap length names in
            e ∙ ap repeated (ap (λ (k : ℕ). names_at s (take k places)) zero ∙ sym names)
        go (Some n) notes =
            let same : count ≡ n.count = is ∙ sym notes.counts in
            e ∙ ap repeated (ap (λ (k : ℕ). names_at s (take k places)) same ∙ notes.noted short (omega arith))

    pub both-noted : (places : List ℕ) → 2 ≤ length places → count ≡ 2 → names_at s (take count places) ≡ names_from s at → (twice : Bool)
        → twice ≡ same_name (name_at s (get_or places 0 0)) (name_at s (get_or places 1 0)) → twice ≡ repeated (names_from s at)
    both-noted places room two noted twice e =
        e ∙ sym (two-names s places room) ∙ ap repeated (ap (λ (k : ℕ). names_at s (take k places)) (sym two) ∙ noted)

module _ (s : List ℕ) (at : ℕ) where
  -- no attributes where a slash follows the name
  pub none_inside : has_byte s at 47 ≡ true → inside_from s at ≡ Some (record { end = at; twice = false })
  unfolding inside_from repeated
  none_inside t =
      let inside = ltb-true at (length s) (and_left _ _ t) in
      let slash = eqb-true (get_or s at 0) 47 (and_right (ltb at (length s)) _ t) in
      let to : blanks_to s at ≡ at = blanks-no s at inside (blank-high (get_or s at 0) (omega arith)) in
      let none = no-blanks s at (blanks_to s at) refl to in
      rw (none, to, and-false)

  pub torn_inside : read_attributes (drop at s) ≡ fail → inside_from s at ≡ None
  unfolding inside_from
  torn_inside e = rw e

  pub told_inside : (end : ℕ) (twice : Bool) → Some end ≡ reach read_inside s at → twice ≡ judged (length s) (names_from s at)
      → inside_from s at ≡ Some (record { end = end; twice = twice })
  unfolding inside_from reach
  told_inside end twice e t = go (read_attributes (drop at s)) e t
    where
      go : (m : Read (List Attribute)) → Some end ≡ reach_of (length s) (then_read m (λ l r. got l (back blank r))) → twice ≡ judged (length s) (names_in m)
          → inside_of (length s) (then_read m (λ l r. got l (back blank r))) ≡ Some (record { end = end; twice = twice })
      go fail e t = never (sym e)
      go (got l r) e t = cc

-- by what was noted
pub ruleset insides = (none_inside, torn_inside, told_inside)

pub ruleset notings = (goes_on, goes-within, passed_none, passed-next, noted-done, noted-torn)

pub ruleset judgings = (judged-few, judged-long, judged-by, both-noted, names-bytes)
