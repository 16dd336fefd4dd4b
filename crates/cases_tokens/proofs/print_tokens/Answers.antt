-- `print_tokens`: each token ends past its offset, within the bytes.
use native.Mathlib.Omega.{arith}
use mathlib.Core.Path.{sym, ◌∙◌}
use Rattle.reports.proofs.Laws.Read.Next.{token-next}
use Rattle.reports.proofs.Laws.Read.RunAt.{was_read}
use Rattle.cases_tokens.proofs.print_tokens.Goals as goal

pub loop-token-smaller : goal.loop-token-smaller
loop-token-smaller g c =
    let s = c.args.bytes.now in
    let at = c.loop-token.at in
    let was = was_read s at c.in-Some.token (sym c.token_at.ensures ∙ c.in-Some.is) in
    let next = token-next s at was.token was.rest was.read in
    omega (arith, next.1, next.2, was.end)
