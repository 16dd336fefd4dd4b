-- `take::Reading::folder`: its word, its number, its line.
use Rattle.notation.specs.Print.{folder_word}
use Rattle.notation.specs.Code.Reader.{read_folder}
use Rattle.notation.proofs.Laws.Taking.Readings.{kept-both}
use Rattle.notation.proofs.Laws.Taking.Folders.{number-unread, folder-takes}
use Rattle.notation.proofs.take.Reading.folder.Goals as goal

pub returns-in_err-word : goal.returns-in_err-word
unfolding read_folder folder_word
returns-in_err-word c = rw c.from_residual.ensures (record { kept = c.in_err-word.ensures.kept; came = rw c.in_err-word.ensures.came })

pub returns-in_err-number : goal.returns-in_err-number
unfolding folder_word
returns-in_err-number c =
    let w = c.in_ok-word.ensures in
    let n = c.in_err-number.ensures in
    rw c.from_residual-in_err-number.ensures (record { kept = kept-both w.kept n.kept; came = number-unread _ _ _ w.came n })

pub returns : goal.returns
unfolding folder_word
returns c =
    let w = c.in_ok-word.ensures in
    let n = c.in_ok-number.ensures in
    folder-takes _ _ _ w.came _ _ n.came (kept-both w.kept n.kept) c.line.ensures
