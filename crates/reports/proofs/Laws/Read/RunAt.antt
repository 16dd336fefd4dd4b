-- Whether a report is a run of tokens, one token at a time; and what that means.
use Prim.Native.Nat.{ℕ, ◌-◌, ◌≤◌, ◌<◌}
use native.Mathlib.Omega.{arith}
use mathlib.Core.Path.{◌≡◌, refl, sym, ap, ap₂, ◌∙◌}
use mathlib.Core.Logic.{◌↔◌}
use mathlib.Core.Bool.{Bool, true, false, not, ◌||◌, false≢true, or-true}
use mathlib.Core.List.{List, ◌∷◌}
use lib.Dec.{eqb}
use borrow.Author.Tests.{ne_eqb, eq-eqb}
use lib.ListN.{length, drop}
use Rattle.std.proofs.Common.{None, Some}
use Rattle.reports.specs.declared.tokens.Kind.TheVariants.{Declaration}
use Rattle.reports.specs.declared.tokens.Found.{Found}
use Rattle.documents.specs.Tokens.{Token, declaration, comment, start_tag, empty_tag, end_tag, text, is_declaration, RunOfTokens}
use Rattle.text.specs.Read.{Read, fail, got, then_read}
use Rattle.documents.specs.Reading.{read_token, read_report}
use Rattle.reports.specs.Seen.{text_kind, shown, found_of}
use Rattle.reports.proofs.Laws.Read.Reaches.{never, some_is}
use Rattle.documents.proofs.Laws.Read.ReadSound.{found-run, run-found}
use Rattle.reports.proofs.Laws.Read.Next.{tokens_from, token-next, from_end, from-none, from-late, from_next}

-- something was read
abbrev pub is_got : {A : Type 0} → Read A → Bool
is_got fail = false
is_got (got a r) = true

-- the test says whether the bytes are a run of tokens
pub run_is : (bytes : List ℕ) → (is_got (read_report bytes) ≡ true) ↔ RunOfTokens bytes
run_is bytes = (λ t. from (read_report bytes) refl t, λ run. ap is_got (run-found bytes run))
  where
    from : (m : Read (List Token)) → read_report bytes ≡ m → is_got m ≡ true → RunOfTokens bytes
    from fail e t = absurd (false≢true t)
    from (got ts r) e t = found-run bytes ts r e

got-map : (t : Token) (m : Read (List Token)) → is_got (then_read m (λ ts r. got (t ∷ ts) r)) ≡ is_got m
got-map t fail = refl
got-map t (got ts r) = refl

-- a token is shown as a declaration exactly if it is one
blank-declares : (b : Bool) → text_kind b ≡ Declaration → false ≡ true
blank-declares true e = cc
blank-declares false e = cc

shown-declares : (total : ℕ) (t : Token) (at : ℕ) → shown total t at ≡ Declaration → is_declaration t ≡ true
shown-declares total declaration at e = refl
shown-declares total (comment c) at e = cc
shown-declares total (start_tag n l b) at e = cc
shown-declares total (empty_tag n l b) at e = cc
shown-declares total (end_tag n b) at e = cc
shown-declares total (text ps) at e = blank-declares _ e

shown-other : (total : ℕ) (t : Token) (at : ℕ) → (shown total t at ≡ Declaration → ⊥) → is_declaration t ≡ false
shown-other total declaration at n = absurd (n refl)
shown-other total (comment c) at n = refl
shown-other total (start_tag n l b) at m = refl
shown-other total (empty_tag n l b) at m = refl
shown-other total (end_tag n b) at m = refl
shown-other total (text ps) at n = refl

-- whether the rest from an offset is a run
unfoldable pub run_from : List ℕ → ℕ → Bool
run_from s i = is_got (tokens_from s (eqb i 0) i)

-- what was found at an offset was read there
pub record Was (s : List ℕ) (i : ℕ) (f : Found) : Type 0 where
  pub token : Token
  pub rest : List ℕ
  pub read : read_token (drop i s) ≡ got token rest
  pub kind : f.kind ≡ shown (length s) token i
  pub end : f.end ≡ length s - length rest

pub was_read : (s : List ℕ) (i : ℕ) (f : Found) → found_of (length s) i (read_token (drop i s)) ≡ Some f → Was s i f
was_read s i f found = go (read_token (drop i s)) refl found
  where
    go : (m : Read Token) → read_token (drop i s) ≡ m → found_of (length s) i m ≡ Some f → Was s i f
    go fail is e = never e
    go (got t r) is e = record { token = t; rest = r; read = is; kind = sym (ap (λ (x : Found). x.kind) (some_is e)); end = sym (ap (λ (x : Found). x.end) (some_is e)) }

module _ (s : List ℕ) (i : ℕ) (h : i < length s) where
  pub run-none : found_of (length s) i (read_token (drop i s)) ≡ None → run_from s i ≡ false
  unfolding run_from
  run-none e = go (read_token (drop i s)) refl e
    where
      go : (m : Read Token) → read_token (drop i s) ≡ m → found_of (length s) i m ≡ None → is_got (tokens_from s (eqb i 0) i) ≡ false
      go fail is e = ap is_got (from-none s i (eqb i 0) h is)
      go (got t r) is e = never (sym e)

  module _ (f : Found) (found : found_of (length s) i (read_token (drop i s)) ≡ Some f) where
    was : Was s i f
    was = was_read s i f found

    pub run-past : i < f.end
    run-past = omega (arith, (token-next s i was.token was.rest was.read).1, was.end)

    pub run-within : f.end ≤ length s
    run-within = omega (arith, (token-next s i was.token was.rest was.read).2, was.end)

    pub run-late : f.kind ≡ Declaration → (i ≡ 0 → ⊥) → run_from s i ≡ false
    unfolding run_from
    run-late d n =
        let late : is_declaration was.token ≡ true = shown-declares (length s) was.token i (sym was.kind ∙ d) in
        rw (ne_eqb i 0 n) (ap is_got (from-late s i was.token was.rest h was.read late))

    onward : (eqb i 0 || not (is_declaration was.token)) ≡ true → run_from s i ≡ run_from s f.end
    unfolding run_from
    onward may =
        let less = run-past in
        let past : eqb f.end 0 ≡ false = ne_eqb f.end 0 (λ e. omega arith) in
        ap is_got (from_next s i (eqb i 0) was.token was.rest h was.read may) ∙ got-map was.token (tokens_from s false (length s - length was.rest))
        ∙ ap₂ (λ (b : Bool) (n : ℕ). is_got (tokens_from s b n)) (sym past) (sym was.end)

    -- any token but a declaration, past offset 0; any at all at offset 0
    pub run-next : (f.kind ≡ Declaration → ⊥) → run_from s i ≡ run_from s f.end
    run-next n =
        let plain : is_declaration was.token ≡ false = shown-other (length s) was.token i (λ e. n (was.kind ∙ e)) in
        onward (rw plain (or-true (eqb i 0)))

    pub run-first : i ≡ 0 → run_from s i ≡ run_from s f.end
    run-first z = onward (rw (eq-eqb i 0 z))

pub run_end : (s : List ℕ) (i : ℕ) → length s ≤ i → run_from s i ≡ true
unfolding run_from
run_end s i h = ap is_got (from_end s i (eqb i 0) h)

pub run-said : (s : List ℕ) (b : Bool) → b ≡ run_from s 0 → (b ≡ true) ↔ RunOfTokens s
unfolding run_from
run-said s b e = (λ t. (run_is s).0 (sym e ∙ t), λ run. e ∙ (run_is s).1 run)

-- by the token there
pub ruleset runs = (run-none, run-past, run-within, run-late, run-next, run-first, run_end, run-said)
