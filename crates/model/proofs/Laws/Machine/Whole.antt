-- All that demand 3 says of the machine holds after every list of calls from a fresh one.
use mathlib.Core.Path.{subst}
use mathlib.Core.List.{List}
use Rattle.text.specs.Names.{Name}
use Rattle.notation.specs.Sets.{FolderSet}
use Rattle.model.specs.Calls.{Call, run}
use Rattle.model.specs.History.{opens_of, SameAnswers}
use Rattle.model.specs.Whole.{Whole}
use Rattle.model.proofs.Laws.Machine.Sound.{run-balance}
use Rattle.model.proofs.Laws.Machine.History.{run-opens-counted, run-closes-counted, run-names-counted}
use Rattle.model.proofs.Laws.Machine.Matches.{run-matched}
use Rattle.model.proofs.Laws.Machine.Answers.{run-current-prefix, run-active, replay}
use Rattle.model.proofs.Laws.Machine.MovesCounted.{run-moves-counted}
use Rattle.model.proofs.Laws.Machine.Childless.{run-moves-childless}
use Rattle.model.proofs.Laws.Machine.Folders.{folder-matched}

pub whole : (set : FolderSet) (calls : List Call) → Whole set calls (run set calls)
whole set calls = record {
  paths = run-matched set calls;
  folders = folder-matched set (run set calls);
  names = run-names-counted set calls;
  steps = run-active set calls;
  prefix = run-current-prefix set calls;
  replayed = subst (λ (names : List Name). SameAnswers set (run set calls) (run set (opens_of names))) (run-names-counted set calls) (replay set calls);
  balance = run-balance set calls;
  opens = run-opens-counted set calls;
  closes = run-closes-counted set calls;
  moves_counted = run-moves-counted set calls;
  moves = run-moves-childless set calls;
}
