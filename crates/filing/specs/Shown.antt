-- What a program prints of a set's text and a report, whatever it shows of a filed one; and what the call that does the whole job promises,
-- from the bytes of a set and a report to the bytes that are printed. Whether a report is filed or refused is the machine's word (Filing).
use Rattle.std.specs.Prelude.{Result, Ok, Err, ℕ, ◌≤◌, ◌≡◌, Bool, true, false, ◌||◌, List, [], ◌∷◌, ◌++◌, ltb, length, drop}
use Rattle.notation.specs.Sets.{FolderSet}
use Rattle.text.specs.declared.refusals.Refusal.{Refusal}
use Rattle.text.specs.declared.refusals.Refusal.TheVariants.{ShortBuffer}
use Rattle.text.specs.Refusals.{number_of}
use Rattle.text.specs.Answers.{refused, value, number_said, says}
use Rattle.text.specs.Order.{gives, AnswersBy}
use Rattle.text.specs.Written.{TextWritten}
use Rattle.notation.specs.Accepted.{Accepted}
use Rattle.notation.specs.Judged.{RefusedText, Verdict, Judged}
use Rattle.model.specs.Calls.{State}
use Rattle.stored.specs.Run.{run_size}
use Rattle.stored.specs.Build.{Built, built_into}
use Rattle.stored.specs.RunCalls.{too_short, no_counters}
use Rattle.stored.specs.declared.counters.Counters.{Counters}
use Rattle.filing.specs.Filing.{Refused, FiledWith}
use Rattle.filing.specs.ReportRefusals.{Files}
use Rattle.filing.specs.Listing.{refused_line}
use Rattle.filing.specs.Limits.{max_refused_line}

-- For s report bytes: these bytes are shown of the report, filed with the set
module _ (For : FolderSet → List ℕ → List ℕ → Type 0) where
  -- of any report: the refusal's number alone, or what is shown of a filed one
  pub data ShownOf (s : FolderSet) (report : List ℕ) : List ℕ → Type 0 where
    its_number : (r : Refusal) → Refused s report r → ShownOf s report (refused_line (number_of r))
    its_text : {bytes : List ℕ} (m : State) → FiledWith s report m → For s report bytes → ShownOf s report bytes

  -- of any text: the number of the set's refusal, or what the report brings with the set
  pub data ShownText (text report : List ℕ) : List ℕ → Type 0 where
    of_refused_set : {r : Refusal} → RefusedText text r → ShownText text report (refused_line (number_of r))
    of_set : {s : FolderSet} {bytes : List ℕ} → Accepted text s → ShownOf s report bytes → ShownText text report bytes

-- automaton, run or printed bytes have less room than their size
unfoldable pub too_small : ℕ → List ℕ → List ℕ → List ℕ → Bool
too_small size a run out = too_short a run || ltb (length out) size

-- this text is printed: it is no longer than the size, its length is answered, it stands first, and bytes past it stay
pub record PrintsText (size : ℕ) (text before : List ℕ) (answer : Result ℕ Refusal) (after : List ℕ) : Type 0 where
  pub fits : length text ≤ size
  pub answers : says answer ≡ value (length text)
  pub leaves : after ≡ text ++ drop (length text) before

-- what is answered and left, of any text, report and buffers
pub record PrintsBy (size : ℕ) (For : FolderSet → List ℕ → List ℕ → Type 0) (text report a run out : List ℕ) (answer : Result ℕ Refusal)
    (a' run' out' : List ℕ) : Type 0 where
  -- a short buffer: 1, and nothing is changed
  pub short : too_small size a run out ≡ true → (says answer ≡ refused (number_of ShortBuffer)) × ((a' ≡ a) × ((run' ≡ run) × (out' ≡ out)))
  -- else what text and report bring is printed
  pub printed : too_small size a run out ≡ false → (bytes : List ℕ) → ShownText For text report bytes → PrintsText size bytes out answer out'
  -- the automaton is left as a build leaves it
  pub built : too_small size a run out ≡ false → (v : Verdict) → Judged text v → a' ≡ built_into v a
  -- the run stays where the text is refused, and is else as filing the report leaves it
  pub kept : too_small size a run out ≡ false → (r : Refusal) → RefusedText text r → run' ≡ run
  pub filed : too_small size a run out ≡ false → (s : FolderSet) → Accepted text s → (n : ℕ) × (c' : Counters) × Files a' run no_counters report n run' c'

-- with any number but 0 this is so
abbrev pub IfRefused : ℕ → Type 0 → Type 0
IfRefused number left = (number ≡ 0 → ⊥) → left

-- a program's call answers 1 exactly where a buffer is short, that of the printed bytes being below this size, and then changes nothing
abbrev pub RefusesShort : ℕ → List ℕ → List ℕ → List ℕ → Result ℕ Refusal → List ℕ → List ℕ → List ℕ → Type 0
RefusesShort size a run out answer a' run' out' =
    AnswersBy (gives (too_small size a run out) ShortBuffer ∷ []) (says answer)
    × IfRefused (number_said (says answer)) ((a' ≡ a) × ((run' ≡ run) × (out' ≡ out)))

-- a set is built and a report filed with it: the counters, or the set's refusal, or the report's
pub data FilesText (text report a run : List ℕ) : Result Counters Refusal → List ℕ → List ℕ → Type 0 where
  set_refused : {r : Refusal} {a' : List ℕ} → Built text a (number_of r) a' → FilesText text report a run (Err r) a' run
  report_refused : {r : Refusal} {a' run' : List ℕ} (c' : Counters) → Built text a 0 a' → Files a' run no_counters report (number_of r) run' c' → FilesText text report a run (Err r) a' run'
  report_filed : {a' run' : List ℕ} {c' : Counters} → Built text a 0 a' → Files a' run no_counters report 0 run' c' → FilesText text report a run (Ok c') a' run'

module _ (shows : List ℕ → List ℕ → Counters → List ℕ → Result ℕ Refusal → List ℕ → Type 0) where
  -- what was filed is shown, or the line of a refusal written
  abbrev pub ShownAs : Result Counters Refusal → List ℕ → List ℕ → List ℕ → Result ℕ Refusal → List ℕ → Type 0
  ShownAs (Ok c) a run before answer after = shows a run c before answer after
  ShownAs (Err r) a run before answer after = TextWritten [] (refused_line (number_of r)) before answer after

  -- the whole job, by what a show of what filing left answers and leaves
  pub record PrintsWith (size : ℕ) (text report a run out : List ℕ) (answer : Result ℕ Refusal) (a' run' out' : List ℕ) : Type 0 where
    pub short : too_small size a run out ≡ true → (answer ≡ Err ShortBuffer) × ((a' ≡ a) × ((run' ≡ run) × (out' ≡ out)))
    pub done : too_small size a run out ≡ false → (filed : Result Counters Refusal) × FilesText text report a run filed a' run' × ShownAs filed a' run' out answer out'

-- of a filed report one text only is shown
abbrev pub Unique : (FolderSet → List ℕ → List ℕ → Type 0) → Type 0
Unique For = (s : FolderSet) (report x y : List ℕ) → For s report x → For s report y → x ≡ y

-- what is shown of what filing left, by this size, these bytes for a set and a report, and this contract
pub record Faithful (size : ℕ) (For : FolderSet → List ℕ → List ℕ → Type 0) (shows : List ℕ → List ℕ → Counters → List ℕ → Result ℕ Refusal → List ℕ → Type 0) : Type 0 where
  -- the line of a refusal has room
  pub line : max_refused_line ≤ size
  -- of a filed report one text only is shown
  pub once : Unique For
  -- and of a report filed with the automaton that a build left it is printed
  pub filed : (text before a : List ℕ) (s : FolderSet) → Accepted text s → Built text before 0 a
      → (report run : List ℕ) → run_size ≤ length run → (c : Counters) (run' : List ℕ) (c' : Counters) → Files a run c report 0 run' c'
      → (out : List ℕ) → size ≤ length out → (answer : Result ℕ Refusal) (out' : List ℕ) → shows a run' c' out answer out'
      → (bytes : List ℕ) × For s report bytes × PrintsText size bytes out answer out'
