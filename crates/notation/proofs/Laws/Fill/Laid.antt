-- Parts of a buffer, one after the other, each of its own size: some bytes, and zeros behind them. What is stored behind the bytes of
-- a part is more bytes of that part.
use Prim.Native.Nat.{ℕ, zero, suc, ◌+◌, ◌-◌, ◌≤◌}
use native.Mathlib.Omega.{arith}
use mathlib.Core.Path.{◌≡◌, ap, ◌∙◌}
use mathlib.Core.List.{List, [], ◌∷◌, ◌++◌}
use lib.ListN.{length}
use lib.Seq.{sets}
use Rattle.text.specs.Bytes.{padded}
use Rattle.notation.proofs.Laws.Fill.Padded.{sets-past, sets-padded, length-padded}

pub record Part : Type 0 where
  pub size : ℕ
  pub bytes : List ℕ

abbrev pub part : ℕ → List ℕ → Part
part n l = record { size = n; bytes = l }

-- the parts, and what follows them
abbrev pub laid : List Part → List ℕ → List ℕ
laid [] rest = rest
laid (p ∷ ps) rest = padded p.size p.bytes ++ laid ps rest

-- part k with more bytes
abbrev pub longer : ℕ → List ℕ → List Part → List Part
longer k vs [] = []
longer zero vs (p ∷ ps) = part p.size (p.bytes ++ vs) ∷ ps
longer (suc k) vs (p ∷ ps) = p ∷ longer k vs ps

-- the place behind the bytes of part k, with room for more
abbrev pub Behind : ℕ → List Part → List ℕ → ℕ → Type 0
Behind k [] vs at = ⊥
Behind zero (p ∷ ps) vs at = (at ≡ length p.bytes) × (length p.bytes + length vs ≤ p.size)
Behind (suc k) (p ∷ ps) vs at = (length p.bytes ≤ p.size) × (p.size ≤ at) × Behind k ps vs (at - p.size)

pub stored : (k : ℕ) (ps : List Part) (vs rest : List ℕ) (at : ℕ) → Behind k ps vs at → sets (laid ps rest) at vs ≡ laid (longer k vs ps) rest
stored k [] vs rest at h = absurd h
stored zero (p ∷ ps) vs rest at h = rw h.0 (sets-padded p.size p.bytes vs (laid ps rest) h.1)
stored (suc k) (p ∷ ps) vs rest at h =
    let front = padded p.size p.bytes in
    let i = at - p.size in
    let e : at ≡ length front + i = omega (arith, length-padded p.size p.bytes h.0) in
    ap (λ j. sets (front ++ laid ps rest) j vs) e ∙ sets-past front (laid ps rest) i vs ∙ ap (λ r. front ++ r) (stored k ps vs rest i h.2)
