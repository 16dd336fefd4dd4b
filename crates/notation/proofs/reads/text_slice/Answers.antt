-- `reads::text_slice`: a part of the text's room, if it lies within.
use Rattle.std.proofs.Common.{◌≡◌, ◌+◌, ◌≤◌, ◌<◌, ◌^◌, ◌-◌, min, List, ℕ, [], length, take, drop, Option, Some, None, length-take, length-drop, ap, ◌∙◌, refl, arith}
use Rattle.std.specs.List.{PartBy}
use Rattle.std.proofs.lemmas.List.{drop-take, take-take, drop-drop}
use Rattle.std.specs.Option.{unwrap_or}
use Rattle.std.specs.Borrow.{Bor}
use Rattle.std.proofs.lemmas.Grind.{common_steps}
use borrow.Author.Tests.{le-leb, lt-leb}
use Rattle.notation.specs.Limits.{max_set_bytes}
use Rattle.notation.specs.Reads.{text_slice}
use Rattle.notation.specs.Layout.{set_size, text_at}
use Rattle.notation.proofs.reads.text_slice.Goals as goal

pub returns-then-part-lt-SET_SIZE : goal.returns-then-part-lt-SET_SIZE
unfolding text_slice set_size
returns-then-part-lt-SET_SIZE c = grind (arith, common_steps)

-- what `get` of the room answers
part_of : (part : List ℕ) (at size to : ℕ) (r : Option (Bor (List ℕ))) (none : Bor (List ℕ)) → set_size ≤ length part → none.now ≡ []
    → to ≡ min (at + size) (2 ^ 64 - 1) → PartBy (λ (x : Bor (List ℕ)). x.now) (take max_set_bytes (drop text_at part)) at to r → (unwrap_or r none).now ≡ text_slice part at size
unfolding text_slice set_size max_set_bytes text_at
part_of part at size to None none h e t p =
    let far : max_set_bytes < at + size = omega (arith, p.0, length-take max_set_bytes (drop text_at part), length-drop text_at part) in
    rw (le-leb set_size (length part) h, lt-leb (at + size) max_set_bytes far) e
part_of part at size to (Some x) none h e t p =
    let s = p.0 in
    let within : at + size ≤ max_set_bytes = omega (arith, s.0, s.1, length-take max_set_bytes (drop text_at part)) in
    let rest : max_set_bytes ≡ at + (max_set_bytes - at) = omega arith in
    let less : size ≤ max_set_bytes - at = omega arith in
    let count : to - at ≡ size = omega arith in
    rw (le-leb set_size (length part) h, le-leb (at + size) max_set_bytes within)
    (s.2 ∙ rw (count, ap (λ n. drop at (take n (drop text_at part))) rest, drop-take at (max_set_bytes - at) (drop text_at part), take-take size (max_set_bytes - at) (drop at (drop text_at part)) less, drop-drop at text_at part))

pub returns : goal.returns
unfolding max_set_bytes text_at set_size
returns c = rw c.unwrap_or.ensures (part_of c.args.part.now c.args.at c.args.size c.saturating_add.result c.get.result _ c.if-part-lt-SET_SIZE.false refl c.saturating_add.ensures c.get.ensures.lookup)
