use Rattle.std.proofs.Common.{ℕ, ◌/◌, ◌%◌, ◌||◌, ◌&&◌, ◌≡◌, get_or, eqb, ap, ◌∙◌, arith}
use Rattle.notation.specs.Limits.{max_paths, max_steps}
use Rattle.stored.specs.Automaton.{mask_size, links_at, link_size}
use Rattle.stored.specs.Bits.{bit_of, bit_at}
use Rattle.stored.proofs.Laws.Bytes.BitRows.{bits-joined}
use Rattle.machine.proofs.automaton.Automaton.flag_label.Goals as goal

pub returns : goal.returns
unfolding links_at link_size mask_size max_paths max_steps
returns c =
    let out = c.args.out.now in
    let w = c.link.result in
    let small : w / 256 % 256 ≡ w / 256 = omega (arith, c.link.ensures.bound) in
    let low : get_or c.to_le_bytes.result 0 0 ≡ w % 256 = rw c.to_le_bytes.ensures in
    let high : c.from.result ≡ w / 256 = c.from.ensures ∙ (ap (λ bytes. get_or bytes 1 0) c.to_le_bytes.ensures ∙ small) in
    λ i. rw (low, high) (bits-joined out (w / 256) (w % 256) (omega (arith, c.link.ensures.bound)) i)
    ∙ ap (λ (n : ℕ). bit_at out i || (eqb (n / 256) (i / 8) && bit_of (n % 256) (i % 8))) c.link.ensures.value
