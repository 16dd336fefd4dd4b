use Rattle.std.proofs.Common.{◌≡◌, ◌+◌, ◌++◌, ℕ, List, drop, replicate, ap, ap₂, ◌∙◌, rules}
use lib.Seq.{sets, length-take-le}
use Rattle.text.specs.Bytes.{le16}
use Rattle.stored.specs.Automaton.{start_at}
use Rattle.stored.specs.Run.{rows_at, row_size, state_in, row_at, run_size}
use Rattle.stored.proofs.Laws.Shapes.Given.{started}
use Rattle.machine.proofs.run.start.start_on.Goals as goal

pub returns : goal.returns
unfolding rows_at row_size state_in start_at run_size
returns c =
    let R = c.args.run.now in
    let zeros : c.fill.new.self ≡ replicate run_size 0 = c.fill.ensures.after (search rules) ∙ ap (λ (n : ℕ). replicate n 0) (length-take-le run_size R c.requires) in
    c.put_word.ensures
    ∙ ap₂ (λ (l : List ℕ) (n : ℕ). sets (l ++ drop run_size R) (row_at 0 + state_in) (le16 n)) zeros c.word_at.ensures.0
    ∙ started c.args.a.now R
