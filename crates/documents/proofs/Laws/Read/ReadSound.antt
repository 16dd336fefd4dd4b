-- Tokens that were read are within their rules and print to what stood there; and reading finds the one run of tokens, or there is none.
use Prim.Native.Nat.{ℕ, zero, suc}
use native.Mathlib.Omega.{arith}
use mathlib.Core.Path.{◌≡◌, refl, sym, ap, ◌∙◌}
use mathlib.Core.Bool.{Bool, true, false, not, ◌&&◌, ◌||◌, true≢false, false≢true, and-true, and-false}
use mathlib.Core.List.{List, [], ◌∷◌, ◌++◌, append_assoc}
use lib.Dec.{eqb}
use borrow.Author.Tests.{eqb-true}
use lib.ListN.{length}
use Rattle.text.specs.Names.{Name}
use Rattle.text.specs.Lists.{every, non_empty}
use Rattle.documents.specs.Tokens.{blank, listed, in_text, Part, plain, reference, Attribute, Token, declaration, comment, start_tag, empty_tag, end_tag, text, declaration_bytes, print_part, print_parts, print_attributes, print_token, print_tokens, occurs, ends_in, formed_part, formed_tag, formed_comment, formed_text, formed_token, is_text, is_declaration, text_first, texts_apart, formed_run, RunOfTokens}
use Rattle.text.specs.Read.{starts_with, Read, fail, got, front, back, print_many}
use Rattle.documents.specs.Reading.{read_tag_end, read_tag, read_end_tag, read_contents, read_comment, read_markup, text_ends, read_text, read_token, read_tokens, read_report}
use Rattle.text.proofs.Laws.Tests.{and_left, and_right, both_true}
use Rattle.documents.proofs.Laws.Read.Bytes.{text-no-less}
use Rattle.documents.proofs.Laws.Printed.OneRun.{declared, run-back}
use Rattle.text.proofs.Laws.Reads.{WhenRead, failed, gotten, holds-got, then-holds, holds-map, when-holds, cond-holds, word_sound, name-sound}
use Rattle.text.proofs.Laws.ReadMany.{many-sound}
use Rattle.text.proofs.Laws.Fronts.{front-back, front-every}
use Rattle.documents.proofs.Laws.Read.PartsSound.{part_sound, attribute-sound}

-- a token read at the front of l: within its rule, its bytes stand there, and a text goes up to `<` or the end
abbrev pub Good : List ℕ → Token → List ℕ → Type 0
Good l t r = (formed_token t ≡ true) × (print_token t ++ r ≡ l) × (is_text t ≡ true → text_ends r ≡ true)

no_text : {X : Type 0} → false ≡ true → X
no_text h = absurd (false≢true h)

tag-end-sound : (n : Name) (m : List Attribute) (s e l : List ℕ) → formed_tag n m s ≡ true → n ++ (print_attributes m ++ (s ++ e)) ≡ l
    → WhenRead (Good (60 ∷ l)) (read_tag_end n m s e)
unfolding formed_token print_token
tag-end-sound n m s [] l h p = failed
tag-end-sound n m s (b ∷ r) l h p =
    cond-holds (eqb b 62)
    (λ t.
    let prints : n ++ (print_attributes m ++ (s ++ (62 ∷ r))) ≡ l =
    ap (λ (c : ℕ). n ++ (print_attributes m ++ (s ++ (c ∷ r)))) (sym (eqb-true b 62 t)) ∙ p in
    gotten (h, ap (◌∷◌ 60) (simp append_assoc prints), no_text))
    (λ f.
    when-holds (eqb b 47) (λ t.
    then-holds (word_sound (62 ∷ []) r) (λ u r₂ e.
    let prints : n ++ (print_attributes m ++ (s ++ (47 ∷ 62 ∷ r₂))) ≡ l =
    rw e (ap (λ (c : ℕ). n ++ (print_attributes m ++ (s ++ (c ∷ r)))) (sym (eqb-true b 47 t)) ∙ p) in
    gotten (h, ap (◌∷◌ 60) (simp append_assoc prints), no_text))))

tag-sound : (l : List ℕ) → WhenRead (Good (60 ∷ l)) (read_tag l)
unfolding read_tag formed_tag
tag-sound l =
    then-holds (name-sound l) (λ n r name.
    then-holds (many-sound attribute-sound r) (λ m r₂ more.
    tag-end-sound n m (front blank r₂) (back blank r₂) l (both_true name.0 (both_true more.0 (front-every blank r₂)))
    (rw (front-back blank r₂, more.1) name.1)))

end-tag-sound : (l : List ℕ) → WhenRead (Good (60 ∷ 47 ∷ l)) (read_end_tag l)
unfolding read_end_tag formed_token print_token
end-tag-sound l =
    then-holds (name-sound l) (λ n r name.
    then-holds (word_sound (62 ∷ []) (back blank r)) (λ u r₂ e.
    let prints : n ++ (front blank r ++ (62 ∷ r₂)) ≡ l = rw (e, front-back blank r) name.1 in
    gotten (both_true name.0 (front-every blank r), ap (λ (w : List ℕ). 60 ∷ 47 ∷ w) (simp append_assoc prints), no_text)))

-- a byte before contents without `--`, where `--` begins not at it
dash-sound : (b : ℕ) (c r : List ℕ) → starts_with (45 ∷ 45 ∷ []) (b ∷ (c ++ (45 ∷ r))) ≡ false → occurs (45 ∷ 45 ∷ []) c ≡ false → ends_in 45 c ≡ false
    → (occurs (45 ∷ 45 ∷ []) (b ∷ c) ≡ false) × (ends_in 45 (b ∷ c) ≡ false)
unfolding starts_with occurs ends_in
dash-sound b [] r f o e = (rw (and-false (eqb 45 b)), sym (and-true (eqb 45 b)) ∙ f)
dash-sound b (x ∷ c) r f o e = (rw (f, o), e)

no-contents : (occurs (45 ∷ 45 ∷ []) [] ≡ false) × (ends_in 45 [] ≡ false)
unfolding occurs starts_with ends_in
no-contents = (refl, refl)

contents-sound : (l : List ℕ)
    → WhenRead (λ c r. (every listed c ≡ true) × (occurs (45 ∷ 45 ∷ []) c ≡ false) × (ends_in 45 c ≡ false) × (c ++ (45 ∷ 45 ∷ 62 ∷ r) ≡ l))
    (read_contents l)
unfolding read_contents every
contents-sound [] = failed
contents-sound (b ∷ l) =
    cond-holds (starts_with (45 ∷ 45 ∷ []) (b ∷ l))
    (λ t. then-holds (word_sound (45 ∷ 45 ∷ 62 ∷ []) (b ∷ l)) (λ u r e. gotten (refl, no-contents.0, no-contents.1, e)))
    (λ f.
    when-holds (listed b) (λ t.
    then-holds (contents-sound l) (λ c r in'.
    let begins-not : starts_with (45 ∷ 45 ∷ []) (b ∷ (c ++ (45 ∷ 45 ∷ 62 ∷ r))) ≡ false = rw in'.3 f in
    let (o, e) = dash-sound b c (45 ∷ 62 ∷ r) begins-not in'.1 in'.2 in
    gotten (both_true t in'.0, o, e, ap (◌∷◌ b) in'.3))))

comment-sound : (l : List ℕ) → WhenRead (Good (60 ∷ 33 ∷ l)) (read_comment l)
unfolding read_comment formed_token formed_comment print_token
comment-sound l =
    then-holds (word_sound (45 ∷ 45 ∷ []) l) (λ u r e.
    then-holds (contents-sound r) (λ c r₂ in'.
    let prints : 45 ∷ 45 ∷ (c ++ (45 ∷ 45 ∷ 62 ∷ r₂)) ≡ l = rw in'.3 e in
    gotten (
      both_true in'.0 (both_true (ap not in'.1) (ap not in'.2)),
      ap (λ (w : List ℕ). 60 ∷ 33 ∷ w) (rw (append_assoc c (45 ∷ 45 ∷ 62 ∷ []) r₂) prints),
      no_text,
    )))

-- the bytes that are looked at stand for themselves
moved : {b c : ℕ} {l : List ℕ} {m : Read Token} → b ≡ c → WhenRead (Good (60 ∷ c ∷ l)) m → WhenRead (Good (60 ∷ b ∷ l)) m
moved e h = holds-map h (λ t r g. (g.0, rw e g.1, g.2))

markup-sound : (l : List ℕ) → WhenRead (Good (60 ∷ l)) (read_markup l)
unfolding read_markup formed_token print_token
markup-sound [] = failed
markup-sound (b ∷ l) =
    cond-holds (eqb b 33) (λ t. moved (eqb-true b 33 t) (comment-sound l)) (λ f.
    cond-holds (eqb b 47) (λ t. moved (eqb-true b 47 t) (end-tag-sound l)) (λ g.
    cond-holds (eqb b 63) (λ t. then-holds (word_sound declaration_bytes (60 ∷ b ∷ l)) (λ u r e. gotten (refl, e, no_text))) (λ h.
    tag-sound (b ∷ l))))

text-sound : (l : List ℕ) → WhenRead (Good l) (read_text l)
unfolding read_text formed_token formed_text print_token
text-sound l =
    then-holds (many-sound (part_sound in_text) l) (λ ps r in'.
    when-holds (non_empty ps && (not (occurs (93 ∷ 93 ∷ 62 ∷ []) (print_parts ps)) && text_ends r)) (λ t.
    let t₂ = and_right (non_empty ps) _ t in
    let some : non_empty ps ≡ true = and_left _ _ t in
    let clean : not (occurs (93 ∷ 93 ∷ 62 ∷ []) (print_parts ps)) ≡ true = and_left _ _ t₂ in
    gotten (
      both_true some (both_true in'.0 clean),
      in'.1,
      λ e. and_right (not (occurs (93 ∷ 93 ∷ 62 ∷ []) (print_parts ps))) _ t₂,
    )))

pub token-sound : (l : List ℕ) → WhenRead (Good l) (read_token l)
unfolding read_token
token-sound [] = failed
token-sound (b ∷ l) =
    cond-holds (eqb b 60)
    (λ t. holds-map (markup-sound l) (λ k r g. (g.0, rw (eqb-true b 60 t) g.1, g.2)))
    (λ f. text-sound (b ∷ l))

-- a text does not begin with `<`
text-starts : (ps : List Part) (r : List ℕ) → formed_text ps ≡ true → text_ends (print_parts ps ++ r) ≡ false
unfolding formed_text print_many print_part every
text-starts [] r h = absurd (false≢true h)
text-starts (plain b ∷ ps) r h =
    let parts : every (formed_part in_text) (plain b ∷ ps) ≡ true = and_left _ _ (and_right (non_empty (plain b ∷ ps)) _ h) in
    text-no-less b (and_left _ _ parts)
text-starts (reference n ∷ ps) r h = refl

apart-text : (a : Bool) (ps : List Part) (r : List ℕ) → formed_text ps ≡ true → (a ≡ true → text_ends (print_parts ps ++ r) ≡ true)
    → not (a && true) ≡ true
apart-text true ps r f h = absurd (true≢false (sym (h refl) ∙ text-starts ps r f))
apart-text false ps r f h = refl

apart : (t : Token) (ts : List Token) → every formed_token ts ≡ true → (is_text t ≡ true → text_ends (print_tokens ts) ≡ true)
    → not (is_text t && text_first ts) ≡ true
unfolding every print_tokens print_token formed_token
apart t [] f h = rw (and-false (is_text t))
apart t (declaration ∷ ts) f h = rw (and-false (is_text t))
apart t (comment c ∷ ts) f h = rw (and-false (is_text t))
apart t (start_tag n l s ∷ ts) f h = rw (and-false (is_text t))
apart t (empty_tag n l s ∷ ts) f h = rw (and-false (is_text t))
apart t (end_tag n s ∷ ts) f h = rw (and-false (is_text t))
apart t (text ps ∷ ts) f h = apart-text (is_text t) ps (print_tokens ts) (and_left _ _ f) h

declared-none : (first : Bool) → declared first [] ≡ true
unfolding every
declared-none true = refl
declared-none false = refl

declared-more : (first : Bool) (t : Token) (ts : List Token) → (first || not (is_declaration t)) ≡ true → declared false ts ≡ true
    → declared first (t ∷ ts) ≡ true
unfolding every
declared-more true t ts may h = h
declared-more false t ts may h = both_true may h

tokens-sound : (steps : ℕ) (first : Bool) (l : List ℕ)
    → WhenRead (λ ts r. (r ≡ []) × (every formed_token ts ≡ true) × (texts_apart ts ≡ true) × (declared first ts ≡ true) × (print_tokens ts ≡ l))
    (read_tokens steps first l)
unfolding read_tokens every texts_apart print_tokens
tokens-sound zero first [] = gotten (refl, refl, refl, declared-none first, refl)
tokens-sound zero first (b ∷ l) = failed
tokens-sound (suc steps) first [] = gotten (refl, refl, refl, declared-none first, refl)
tokens-sound (suc steps) first (b ∷ l) =
    then-holds (token-sound (b ∷ l)) (λ t r g.
    when-holds (first || not (is_declaration t)) (λ may.
    then-holds (tokens-sound steps false r) (λ ts r₂ more.
    gotten (
      more.0,
      both_true g.0 more.1,
      both_true (apart t ts more.1 (λ e. rw more.4 (g.2 e))) more.2,
      declared-more first t ts may more.3,
      rw more.4 g.1,
    ))))

-- what reading finds is a run of tokens
pub found-run : (bytes : List ℕ) (ts : List Token) (r : List ℕ) → read_report bytes ≡ got ts r → RunOfTokens bytes
unfolding formed_run
found-run bytes ts r e =
    let h = holds-got (rw e at (tokens-sound (length bytes) true bytes)) in
    record { tokens = ts; well = both_true h.1 (both_true h.2 h.3); prints = h.4 }

-- reading finds the one run of tokens
pub run-found : (bytes : List ℕ) (run : RunOfTokens bytes) → read_report bytes ≡ got run.tokens []
run-found bytes run = rw run.prints at (run-back run.tokens run.well)

-- or there is none
pub none_found : (bytes : List ℕ) → read_report bytes ≡ fail → RunOfTokens bytes → ⊥
none_found bytes e run = let z : ◌≡◌ {A = ℕ} 0 1 = cc (run-found bytes run) in omega arith
