use Prim.Native.Nat.{◌+◌}
use mathlib.Core.Path.{sym, ◌∙◌}
use Rattle.reports.proofs.Laws.Read.Comments.{comment-off, comment-to}
use Rattle.reports.proofs.Laws.Read.Words.{told}
use Rattle.reports.proofs.tokens.comment.Goals as goal

pub returns-then-not-starts_with : goal.returns-then-not-starts_with
returns-then-not-starts_with c = sym (comment-off c.args.s.now c.args.at (told c.args.s.now _ (c.args.at + 2) c.starts_with.ensures.value c.if-not-starts_with.true))

pub returns : goal.returns
returns c =
    let opens = told c.args.s.now _ (c.args.at + 2) c.starts_with.ensures.value c.if-not-starts_with.false in
    sym (comment-to c.args.s.now c.args.at opens _ (sym c.contents_end.ensures ∙ c.in_ok-end.was))
