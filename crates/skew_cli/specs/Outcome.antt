-- What a run must give: for words and files, which bytes are written and which status is answered.
use Rattle.std.specs.Prelude.{◌≡◌, ◌⊎◌, ◌++◌, ℕ, Bool, true, List, [], ◌∷◌, codes, IsSome, MatchOption}
use Rattle.std.specs.Option.{option_map_or}
use Rattle.mt_port.specs.Port.{Files, Openings, Rose, file_of}
use Rattle.mt_port.specs.Whole.{WrotePrefix}
use Rattle.skew_answers.specs.declared.status.Status.{Status}
use Rattle.skew_answers.specs.declared.status.Status.TheVariants as status
use Rattle.skew_answers.specs.Statuses.{IsAnswer}
use Rattle.skew_answers.specs.Texts.{line}
use Rattle.skew_words.specs.Words.{Audit, Check, Command, Demo, Json, Order, Replay, Span, Times, Tolerance, Trim, Word, command_of}
use Rattle.skew_commands.specs.Openings.{OpensAtMost, OpensInTurn, OpensLogInTurn}
use Rattle.skew_commands.specs.Possible.{OfSomeFile, OfSomeQuestion, OfSomeThird}
use Rattle.skew_commands.specs.Refusals.{IsRefusalOf}
use Rattle.skew_commands.specs.Reads.{Agree, HoldsQuestion, HoldsThree, NoThird}
use Rattle.skew_commands.specs.TimesOutcome.{TimesOutcome}
use Rattle.skew_commands.specs.ReplayOutcome.{ReplayOutcome}
use Rattle.skew_commands.specs.OrderOutcome.{OrderOutcome}
use Rattle.skew_best.specs.ToleranceOutcome.{ToleranceOutcome}
use Rattle.skew_best.specs.SpanOutcome.{SpanOutcome}
use Rattle.skew_cli.specs.CheckOutcome.{CheckOutcome}
use Rattle.skew_cli.specs.AuditOutcome.{AuditOutcome}
use Rattle.skew_cli.specs.DemoOutcome.{DemoOutcome}
use Rattle.skew_cli.specs.JsonOutcome.{JsonOutcome}
use Rattle.skew_cli.specs.TrimOutcome.{TrimOutcome}

-- one line, with its status
abbrev pub Says : List ℕ → Status → List ℕ → Status → Type 0
Says text due out s = (out ≡ line text) × (s ≡ due)

-- what is due for a command: its outcome where files are held, what it can give of some files under some names, whether the
-- files that it comes to read are held, the files that it names in the order of their turns, and which tests each turn comes after
pub record Due : Type 1 where
  pub outcome : Files → List ℕ → Status → Type 0
  pub possible : List ℕ → Status → Type 0
  pub holds : Files → Type 0
  pub named : List Word
  pub in_turn : Files → Openings → Openings → Type 0

-- a command of one file or of none has no file after another
abbrev pub HasNoTurns : Files → Openings → Openings → Type 0
HasNoTurns files before now = Unit {0}

-- what is due of a command that reads no file
abbrev pub due_of_nothing : (List ℕ → Status → Type 0) → Due
due_of_nothing Given = record { outcome = λ files. Given; possible = Given; holds = λ files. Unit {0}; named = []; in_turn = HasNoTurns }

-- of one that reads one file
abbrev pub due_of_file : (Files → Word → List ℕ → Status → Type 0) → Word → Due
due_of_file Given name = record { outcome = λ files. Given files name; possible = OfSomeFile Given; holds = λ files. IsSome (file_of files name); named = name ∷ []; in_turn = HasNoTurns }

-- of one that reads a formula and a log
abbrev pub due_of_question : (Files → Word → Word → List ℕ → Status → Type 0) → Word → Word → Due
due_of_question Given formula log = record {
  outcome = λ files. Given files formula log;
  possible = OfSomeQuestion Given;
  holds = λ files. HoldsQuestion files formula log NoThird;
  named = formula ∷ log ∷ [];
  in_turn = λ files. OpensLogInTurn files formula;
}

-- of one that reads a third file after these
abbrev pub due_of_third : (Files → Word → Word → Word → List ℕ → Status → Type 0) → Word → Word → Word → Due
due_of_third Given formula log third = record {
  outcome = λ files. Given files formula log third;
  possible = OfSomeThird Given;
  holds = λ files. HoldsThree files formula log third;
  named = formula ∷ log ∷ third ∷ [];
  in_turn = λ files. OpensInTurn files formula log;
}

-- what is due for each command
abbrev pub due_for : Command → Due
due_for (Times log) = due_of_file TimesOutcome log
due_for (Replay formula log times) = due_of_third ReplayOutcome formula log times
due_for (Order log) = due_of_file OrderOutcome log
due_for (Check conflicts formula log) = due_of_question (λ files. CheckOutcome files conflicts) formula log
due_for (Audit conflicts formula log report) = due_of_third (λ files. AuditOutcome files conflicts) formula log report
due_for (Trim name) = due_of_file TrimOutcome name
due_for (Json name) = due_of_file JsonOutcome name
due_for (Tolerance conflicts value max formula log) = due_of_question (λ files. ToleranceOutcome files conflicts value max) formula log
due_for (Span conflicts value from to formula log) = due_of_question (λ files. SpanOutcome files conflicts value from to) formula log
due_for (Demo seed) = due_of_nothing (DemoOutcome seed)

-- what a command gives, where the files that it comes to read are held
abbrev pub CommandOutcome : Command → Files → List ℕ → Status → Type 0
CommandOutcome command = (due_for command).outcome

-- bytes and a status that a command gives of some files, under some names
abbrev pub IsPossibleOf : Command → List ℕ → Status → Type 0
IsPossibleOf command = (due_for command).possible

-- the files that a command comes to read are held
abbrev pub HoldsFiles : Files → Command → Type 0
HoldsFiles files command = (due_for command).holds files

-- the files that a command names, in the order of their turns
abbrev pub files_named : Command → List Word
files_named command = (due_for command).named

-- each file that a command opens comes after the tests of those before it
abbrev pub OpensFilesInTurn : Files → Command → Openings → Openings → Type 0
OpensFilesInTurn files command = (due_for command).in_turn files

-- what words give: the command's outcome, and a refusal where they are no command
abbrev pub Outcome : List Word → Files → List ℕ → Status → Type 0
Outcome words files out s = MatchOption (command_of words) (Says (codes "refused words") status.Words out s) (λ command. CommandOutcome command files out s)

-- bytes and a status that words can give: of their command, and the refusal where they are no command
abbrev pub IsPossible : List Word → List ℕ → Status → Type 0
IsPossible words out s = MatchOption (command_of words) (Says (codes "refused words") status.Words out s) (λ command. IsPossibleOf command out s)

-- the status is that of what words can give, with some bytes
abbrev pub HasPossible : List Word → Status → Type 0
HasPossible words s = (out : List ℕ) × IsPossible words out s

-- the status is that of what words give, with some bytes
abbrev pub HasOutcome : List Word → Files → Status → Type 0
HasOutcome words files s = (out : List ℕ) × Outcome words files out s

-- the files that the command of words comes to read are held
abbrev pub HoldsNamed : List Word → Files → Type 0
HoldsNamed words files = MatchOption (command_of words) (Unit {0}) (HoldsFiles files)

-- at most the files that the command of words names are opened, in their order, and none where they are no command
abbrev pub OpensNamed : List Word → Openings → Openings → Type 0
OpensNamed words before now = OpensAtMost (option_map_or files_named (command_of words) []) before now

-- each file that the command of words opens comes after the tests of those before it
abbrev pub OpensNamedInTurn : List Word → Files → Openings → Openings → Type 0
OpensNamedInTurn words files before now = MatchOption (command_of words) (Unit {0}) (λ command. OpensFilesInTurn files command before now)

-- how a call ended that is to write what is due: an answer wrote it, and where writing failed, the beginning of it was written
pub record Ends (Due : List ℕ → Status → Type 0) (old now : List ℕ) (s : Status) : Type 0 where
  pub answer : IsAnswer s → (written : List ℕ) × (now ≡ old ++ written) × Due written s
  pub cut : s ≡ status.WriteFailed → (due : List ℕ) × (t : Status) × Due due t × WrotePrefix old now due

-- the same for words, where the sink tells its bytes, whatever files agree with those that are held
abbrev pub EndsFor : {K : Type 0} → List Word → Files → (K → Bool) → (K → List ℕ) → K → K → Status → Type 0
EndsFor words held tells bytes old now s = tells old ≡ true → (files : Files) → Agree held files → Ends (Outcome words files) (bytes old) (bytes now) s

-- the status is that of what words give, whatever files agree with those that are held
abbrev pub HasOutcomeFor : List Word → Files → Status → Type 0
HasOutcomeFor words held s = (files : Files) → Agree held files → HasOutcome words files s

-- the one line of a refusal of this status was written
abbrev pub AddsRefusal : Status → List ℕ → List ℕ → Type 0
AddsRefusal s old now = (text : List ℕ) × IsRefusalOf s text × (now ≡ old ++ text)

-- where no read fails from here on, and the files are told and those that are read are held, no failed read is answered
abbrev pub NeverReadFailed : Type 0 → Bool → Type 0 → Status → Type 0
NeverReadFailed Steady tells Held s = Steady → tells ≡ true → Held → s ≡ status.ReadFailed → ⊥

-- where a shelf tells its files, they are opened so from one state of it to another
abbrev pub WhereTold : {S : Type 0} → (S → Bool) → (S → Files) → (S → Openings) → S → S → (Files → Openings → Openings → Type 0) → Type 0
WhereTold tells files openings old now Opened = tells old ≡ true → Opened (files old) (openings old) (openings now)

-- where a shelf tells its files and holds those that the command of words comes to read, no write failed, and no read could fail or
-- none did, an answer is there, or memory ran out
abbrev pub Completes : {S K : Type 0} → List Word → (S → Bool) → (S → Files) → (S → Type 0) → (S → ℕ) → S → S → (K → ℕ) → K → K → Status → Type 0
Completes words tells files Steady reads shelf shelf_now writes sink sink_now s =
    tells shelf ≡ true → HoldsNamed words (files shelf) → ¬ Rose (writes sink) (writes sink_now) → Steady shelf ⊎ ¬ Rose (reads shelf) (reads shelf_now)
    → (s ≡ status.NoMemory) ⊎ IsAnswer s
