-- Tokens, read from bytes: what is computed. The plain definition is the printing (Tokens); laws say that reading gives back what was printed,
-- and that what was read prints to what stood there.
use Rattle.std.specs.Prelude.{ℕ, zero, suc, Bool, true, false, not, ◌&&◌, ◌||◌, cond, List, [], ◌∷◌, ◌++◌, eqb, length, drop}
use Rattle.text.specs.Names.{Name}
use Rattle.text.specs.Lists.{non_empty}
use Rattle.text.specs.Read.{Read, fail, got, then_read, when, front, back, starts_with, read_word, name_ahead, read_name, read_many}
use Rattle.documents.specs.Tokens.{blank, listed, Part, plain, reference, Quote, double, single, quote_byte, Attribute, attribute, Token, declaration, comment, start_tag, empty_tag, end_tag, text, declaration_bytes, print_parts, occurs, amp, lt, gt, quot, apos, in_text, in_value, is_declaration}

abbrev pub read_quote : List ℕ → Read Quote
read_quote [] = fail
read_quote (b ∷ l) = cond (eqb b 34) (got double l) (when (eqb b 39) (got single l))

-- one of the five references, after its `&`
unfoldable pub read_reference : List ℕ → Read Name
read_reference l =
    cond (starts_with (amp ++ (59 ∷ [])) l) (got amp (drop 4 l))
    (cond (starts_with (lt ++ (59 ∷ [])) l) (got lt (drop 3 l))
    (cond (starts_with (gt ++ (59 ∷ [])) l) (got gt (drop 3 l))
    (cond (starts_with (quot ++ (59 ∷ [])) l) (got quot (drop 5 l))
    (cond (starts_with (apos ++ (59 ∷ [])) l) (got apos (drop 5 l)) fail))))

-- `&`, or a byte that passes the test
abbrev pub part_ahead : (ℕ → Bool) → List ℕ → Bool
part_ahead ok [] = false
part_ahead ok (b ∷ l) = eqb b 38 || ok b

unfoldable pub read_part : List ℕ → Read Part
read_part [] = fail
read_part (b ∷ l) = cond (eqb b 38) (then_read (read_reference l) (λ n r. got (reference n) r)) (got (plain b) l)

-- as many parts as there are
abbrev pub read_parts : (ℕ → Bool) → List ℕ → Read (List Part)
read_parts ok l = read_many (part_ahead ok) read_part l

-- an attribute, after the blanks before it
unfoldable pub read_attribute_from : List ℕ → List ℕ → Read Attribute
read_attribute_from s l =
    then_read (read_name l) (λ n r.
    then_read (read_word (61 ∷ []) (back blank r)) (λ w r₂.
    then_read (read_quote (back blank r₂)) (λ q r₃.
    then_read (read_parts (in_value (quote_byte q)) r₃) (λ v r₄.
    then_read (read_word (quote_byte q ∷ []) r₄) (λ w r₅.
    got (attribute s n (front blank r) (front blank r₂) q v) r₅)))))

abbrev pub read_attribute : List ℕ → Read Attribute
read_attribute l = read_attribute_from (front blank l) (back blank l)

-- blanks, and then a name
abbrev pub attribute_ahead : List ℕ → Bool
attribute_ahead l = non_empty (front blank l) && name_ahead (back blank l)

-- as many attributes as there are
abbrev pub read_attributes : List ℕ → Read (List Attribute)
read_attributes l = read_many attribute_ahead read_attribute l

-- the end of a tag: `>` or `/>`
abbrev pub read_tag_end : Name → List Attribute → List ℕ → List ℕ → Read Token
read_tag_end n l s [] = fail
read_tag_end n l s (b ∷ r) =
    cond (eqb b 62) (got (start_tag n l s) r) (when (eqb b 47) (then_read (read_word (62 ∷ []) r) (λ w r₂. got (empty_tag n l s) r₂)))

-- a start or empty-element tag after its `<`, and an end tag after its `</`
unfoldable pub read_tag : List ℕ → Read Token
read_tag l =
    then_read (read_name l) (λ n r.
    then_read (read_attributes r) (λ m r₂.
    read_tag_end n m (front blank r₂) (back blank r₂)))

unfoldable pub read_end_tag : List ℕ → Read Token
read_end_tag l =
    then_read (read_name l) (λ n r. then_read (read_word (62 ∷ []) (back blank r)) (λ w r₂. got (end_tag n (front blank r)) r₂))

-- contents of a comment up to the first `--`, which must be that of `-->`
unfoldable pub read_contents : List ℕ → Read (List ℕ)
read_contents [] = fail
read_contents (b ∷ l) =
    cond (starts_with (45 ∷ 45 ∷ []) (b ∷ l)) (then_read (read_word (45 ∷ 45 ∷ 62 ∷ []) (b ∷ l)) (λ w r. got [] r))
    (when (listed b) (then_read (read_contents l) (λ c r. got (b ∷ c) r)))

-- a comment after its `<!`
unfoldable pub read_comment : List ℕ → Read Token
read_comment l = then_read (read_word (45 ∷ 45 ∷ []) l) (λ w r. then_read (read_contents r) (λ c r₂. got (comment c) r₂))

-- what begins with `<`, after it
unfoldable pub read_markup : List ℕ → Read Token
read_markup [] = fail
read_markup (b ∷ l) =
    cond (eqb b 33) (read_comment l)
    (cond (eqb b 47) (read_end_tag l)
    (cond (eqb b 63) (then_read (read_word declaration_bytes (60 ∷ b ∷ l)) (λ w r. got declaration r))
    (read_tag (b ∷ l))))

-- the end of the bytes, or `<`
abbrev pub text_ends : List ℕ → Bool
text_ends [] = true
text_ends (b ∷ l) = eqb b 60

unfoldable pub read_text : List ℕ → Read Token
read_text l =
    then_read (read_parts in_text l)
    (λ ps r. when (non_empty ps && (not (occurs (93 ∷ 93 ∷ 62 ∷ []) (print_parts ps)) && text_ends r)) (got (text ps) r))

-- the token that stands at the front of the bytes
unfoldable pub read_token : List ℕ → Read Token
read_token [] = fail
read_token (b ∷ l) = cond (eqb b 60) (read_markup l) (read_text (b ∷ l))

-- token after token to the end; `first` while a declaration may come, `steps` bounds the count of tokens
unfoldable pub read_tokens : ℕ → Bool → List ℕ → Read (List Token)
read_tokens zero first [] = got [] []
read_tokens zero first (b ∷ l) = fail
read_tokens (suc steps) first [] = got [] []
read_tokens (suc steps) first (b ∷ l) =
    then_read (read_token (b ∷ l))
    (λ t r. when (first || not (is_declaration t)) (then_read (read_tokens steps false r) (λ ts r₂. got (t ∷ ts) r₂)))

-- the whole report
abbrev pub read_report : List ℕ → Read (List Token)
read_report l = read_tokens (length l) true l
