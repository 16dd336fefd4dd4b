-- `lines::put_head`: the word, the spaces, the page's number, and the line's end.
use mathlib.Core.List.{append_assoc}
use Rattle.text.specs.Output.{a_piece}
use Rattle.text.proofs.Laws.Output.{one, and_then, same_bytes}
use Rattle.sheets.specs.Sheet.{filed_word, head_line}
use Rattle.sheets.proofs.lines.put_head.Goals as goal

pub returns : goal.returns
unfolding head_line filed_word
returns g c =
    same_bytes (a_piece c.put.ensures (a_piece c.put_spaces.ensures (and_then c.put_right.ensures (one c.put-2.ensures))))
    (simp append_assoc)
