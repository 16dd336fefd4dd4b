-- `lines::put_row`: number, two spaces, path, and the line's end.
use mathlib.Core.List.{append_assoc}
use Rattle.text.specs.Output.{a_piece}
use Rattle.text.proofs.Laws.Output.{one, and_then, same_bytes}
use Rattle.sheets.specs.Sheet.{spaces, body_line}
use Rattle.sheets.proofs.lines.put_row.Goals as goal

pub returns : goal.returns
unfolding body_line spaces
returns g c =
    same_bytes (and_then c.put_folder.ensures (a_piece c.put.ensures (and_then c.put_path.ensures (one c.put-2.ensures))))
    (simp append_assoc)
