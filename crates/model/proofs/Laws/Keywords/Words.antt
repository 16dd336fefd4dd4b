-- The test `begins` says what `Begins` says, and what begins a keyword has only beginnings that do.
use mathlib.Core.Path.{◌≡◌, refl, sym, ◌∙◌, ap, ap₂}
use mathlib.Core.Bool.{true}
use mathlib.Core.List.{[], ◌∷◌, ◌++◌, append_assoc}
use Rattle.text.specs.Names.{Name, same_name}
use Rattle.notation.specs.Sets.{FolderSet}
use Rattle.notation.specs.Form.{paths_of}
use Rattle.text.specs.Lists.{any}
use Rattle.text.proofs.Laws.Bytes.SameName.{same_name-is}
use Rattle.model.specs.Words.{Symbol, document, name, Word, keywords, Begins, same_symbol, starts_with, begins}
use Rattle.text.proofs.Laws.Tests.{both, both_true, clash}
use Rattle.text.proofs.Laws.Lists.{any-is, is_any}

pub same-name : (a b : Name) → same_name a b ≡ true → a ≡ b
same-name a b = (same_name-is a b).0

pub name-same : (a : Name) → same_name a a ≡ true
name-same a = (same_name-is a a).1 refl

pub same-symbol : (s t : Symbol) → same_symbol s t ≡ true → s ≡ t
same-symbol document document h = refl
same-symbol document (name b) h = clash h refl
same-symbol (name a) document h = clash h refl
same-symbol (name a) (name b) h = ap name (same-name a b h)

pub symbol-same : (s : Symbol) → same_symbol s s ≡ true
symbol-same document = refl
symbol-same (name a) = name-same a

starts_is : (k w : Word) → starts_with k w ≡ true → (rest : Word) × (w ++ rest ≡ k)
unfolding starts_with
starts_is k [] h = (k, refl)
starts_is [] (s ∷ w) h = clash h refl
starts_is (t ∷ k) (s ∷ w) h =
    let b = both (same_symbol t s) (starts_with k w) h in
    let r = starts_is k w b.1 in
    (r.0, ap₂ ◌∷◌ (sym (same-symbol t s b.0)) r.1)

is-starts : (w rest : Word) → starts_with (w ++ rest) w ≡ true
unfolding starts_with
is-starts [] rest = refl
is-starts (s ∷ w) rest = both_true (symbol-same s) (is-starts w rest)

pub begins-is : (set : FolderSet) (w : Word) → begins set w ≡ true → Begins set w
unfolding begins
begins-is set w h =
    let p = any-is (λ p. any (λ k. starts_with k w) (keywords p)) (paths_of set) h in
    let k = any-is (λ k. starts_with k w) (keywords p.0) p.2 in
    let r = starts_is k.0 w k.2 in
    record { path = p.0; of_set = p.1; keyword = k.0; of_path = k.1; rest = r.0; joined = r.1 }

pub is-begins : (set : FolderSet) (w : Word) → Begins set w → begins set w ≡ true
unfolding begins
is-begins set w b =
    is_any (λ p. any (λ k. starts_with k w) (keywords p)) (paths_of set) b.of_set
    (is_any (λ k. starts_with k w) (keywords b.path) b.of_path (ap (λ (k : Word). starts_with k w) (sym b.joined) ∙ is-starts w b.rest))

-- a beginning of what begins a keyword begins it too
pub begins-shorter : (set : FolderSet) (w v : Word) → begins set (w ++ v) ≡ true → begins set w ≡ true
begins-shorter set w v h =
    let b = begins-is set (w ++ v) h in
    is-begins set w (record {
      path = b.path;
      of_set = b.of_set;
      keyword = b.keyword;
      of_path = b.of_path;
      rest = v ++ b.rest;
      joined = sym (append_assoc w v b.rest) ∙ b.joined;
    })
