-- `listing::check`: a short buffer, what is lent, and the length of the listing.
use native.Mathlib.Omega.{arith}
use mathlib.Core.Path.{sym, ◌∙◌}
use borrow.Author.Tests.{le-leb, lt-leb}
use Rattle.notation.specs.Limits.{max_set_bytes}
use Rattle.text.proofs.Laws.Numbers.{some_number}
use Rattle.text.proofs.Laws.Results.{handed_number}
use Rattle.filing.specs.Limits.{max_moves_line, listing_size}
use Rattle.filing.proofs.Laws.Listing.Written.{out-short, lent-refused, length-says}
use Rattle.filing.proofs.listing.check.Goals as goal

pub returns-then-out-lt-LISTING_SIZE : goal.returns-then-out-lt-LISTING_SIZE
unfolding listing_size max_set_bytes max_moves_line
returns-then-out-lt-LISTING_SIZE c = let a = c.args in sym (out-short a.a.now a.run.now a.c a.out.now (omega arith))

pub returns-in_err-refusal : goal.returns-in_err-refusal
unfolding listing_size max_set_bytes max_moves_line
returns-in_err-refusal c = let a = c.args in
    let e = c.in_err-refusal.ensures in
    handed_number _ _ _ c.from_residual.ensures.1 (e ∙ sym (lent-refused a.a.now a.run.now a.c a.out.now (omega (arith, c.if-out-lt-LISTING_SIZE.false)) (λ z. some_number _ (e ∙ z))))

pub returns-then-length-out : goal.returns-then-length-out
unfolding listing_size max_set_bytes max_moves_line
returns-then-length-out c = let a = c.args in
    let z = sym (c.in_ok-refusal.ensures) in
    sym (length-says a.a.now a.run.now a.c a.out.now (omega (arith, c.if-out-lt-LISTING_SIZE.false)) z (omega arith) (rw c.default-length.ensures at c.put_listing.ensures) ∙ rw (lt-leb _ _ c.if-length-out.true))

pub returns : goal.returns
unfolding listing_size max_set_bytes max_moves_line
returns c = let a = c.args in
    let z = sym (c.in_ok-refusal.ensures) in
    sym (length-says a.a.now a.run.now a.c a.out.now (omega (arith, c.if-out-lt-LISTING_SIZE.false)) z (omega arith) (rw c.default-length.ensures at c.put_listing.ensures) ∙ rw (le-leb _ _ c.if-length-out.false))
