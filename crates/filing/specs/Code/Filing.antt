-- Filing a report, computed: its conditions tested, its tokens as the reader finds them (laws tie it to what filing gives).
use Rattle.std.specs.Prelude.{ℕ, Bool, true, false, not, List, [], ◌∷◌, ◌++◌, ltb, length}
use Rattle.text.specs.Lists.{every}
use Rattle.text.specs.declared.refusals.Refusal.TheVariants.{TooLarge, InvalidByte, SyntaxError, RepeatedAttribute}
use Rattle.notation.specs.Sets.{FolderSet}
use Rattle.text.specs.Order.{Condition, gives, first}
use Rattle.model.specs.Calls.{State, fresh}
use Rattle.documents.specs.Tokens.{Token, listed}
use Rattle.documents.specs.Repeats.{repeats_in}
use Rattle.text.specs.Read.{Read, fail, got}
use Rattle.documents.specs.Reading.{read_report}
use Rattle.documents.specs.Limits.{max_report_bytes}
use Rattle.filing.specs.Filing.{Outcome, and_then, unless, Machine, file_tokens, shared_machine}

abbrev pub is_no_run : Read (List Token) → Bool
is_no_run fail = true
is_no_run (got ts r) = false

abbrev pub tokens_in : Read (List Token) → List Token
tokens_in fail = []
tokens_in (got ts r) = ts

abbrev pub report_tests : List ℕ → List Condition
report_tests report =
    gives (ltb max_report_bytes (length report)) TooLarge
    ∷ gives (not (every listed report)) InvalidByte
    ∷ gives (is_no_run (read_report report)) SyntaxError
    ∷ gives (repeats_in (tokens_in (read_report report))) RepeatedAttribute
    ∷ []

unfoldable pub file_report : {S : Type 0} → Machine S → S → List Condition → List ℕ → Outcome S
file_report k s before report = and_then (unless (first (before ++ report_tests report)) s) (λ t. file_tokens k t (tokens_in (read_report report)))

-- with the shared machine of a set
abbrev pub file_with : FolderSet → List ℕ → Outcome State
file_with set report = file_report (shared_machine set) (fresh set) [] report
