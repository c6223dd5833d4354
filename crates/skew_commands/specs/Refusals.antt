-- The refusals of what a command's files hold: their lines and statuses.
use Rattle.std.specs.Prelude.{◌≡◌, ℕ, List, [], ◌++◌, codes, Option, Some, None}
use Rattle.std.specs.Fmt.{decimal}
use Rattle.log_read.specs.Faults.{number_of, record_of}
use Rattle.mtl_parse.specs.Faults.{byte_of, number_of as formula_number_of}
use Rattle.skew_answers.specs.declared.status.Status.{Status}
use Rattle.skew_answers.specs.declared.status.Status.TheVariants as status
use Rattle.skew_answers.specs.Texts.{line}
use Rattle.skew_commands.specs.declared.refusal.Named.{Named}
use Rattle.skew_commands.specs.declared.refusal.Named.TheVariants as named
use Rattle.skew_commands.specs.declared.refusal.ReportPart.{ReportPart}
use Rattle.skew_commands.specs.declared.refusal.ReportPart.TheVariants as part
use Rattle.skew_commands.specs.declared.refusal.Refusal.{Refusal}
use Rattle.skew_commands.specs.declared.refusal.Refusal.TheVariants as refusal

-- a file, as a refusal names it
abbrev pub word_of : Named → List ℕ
word_of named.Formula = codes "formula"
word_of named.Log = codes "log"
word_of named.Times = codes "times"
word_of named.Report = codes "report"
word_of named.Json = codes "json"

-- a part of a report, as a refusal names it
abbrev pub part_word : ReportPart → List ℕ
part_word part.Events = codes "events"
part_word part.Inconsistent = codes "inconsistent"
part_word part.OnTrue = codes "true"
part_word part.OnFalse = codes "false"

-- where a log has a fault: at a record, unless it is of none
abbrev pub record_text : Option ℕ → List ℕ
record_text None = []
record_text (Some place) = codes " at record " ++ decimal place

-- where a formula has a fault: at a byte
abbrev pub byte_text : Option ℕ → List ℕ
byte_text None = []
byte_text (Some byte) = codes " at byte " ++ decimal byte

-- the line of a refusal
abbrev pub text_of : Refusal → List ℕ
text_of (refusal.Length file) = codes "refused length " ++ word_of file
text_of (refusal.Formula fault) = codes "refused formula " ++ decimal (formula_number_of fault) ++ byte_text (byte_of fault)
text_of (refusal.UnknownHost byte) = codes "refused formula 8 at byte " ++ decimal byte
text_of (refusal.Log fault) = codes "refused log " ++ decimal (number_of fault) ++ record_text (record_of fault)
text_of refusal.JsonSyntax = codes "refused json 1"
text_of refusal.JsonShape = codes "refused json 2"
text_of refusal.Nodes = codes "refused nodes above 512"
text_of (refusal.Event event) = codes "refused event " ++ decimal event
text_of (refusal.TimesNumber number) = codes "refused times 1 at line " ++ decimal number
text_of (refusal.TimesCount number) = codes "refused times 2 at line " ++ decimal number
text_of (refusal.Size n) = codes "refused size " ++ decimal n
text_of (refusal.Report number) = codes "refused report at line " ++ decimal number
text_of (refusal.Part p number) = codes "refused " ++ part_word p ++ codes " at line " ++ decimal number

-- the status of a refusal
abbrev pub status_of : Refusal → Status
status_of (refusal.Length file) = status.TooLarge
status_of (refusal.Formula fault) = status.FormulaRefused
status_of (refusal.UnknownHost byte) = status.FormulaRefused
status_of (refusal.Log fault) = status.LogRefused
status_of refusal.JsonSyntax = status.LogRefused
status_of refusal.JsonShape = status.LogRefused
status_of refusal.Nodes = status.TooLarge
status_of (refusal.Event event) = status.EventRefused
status_of (refusal.TimesNumber number) = status.TimesRefused
status_of (refusal.TimesCount number) = status.TimesRefused
status_of (refusal.Size n) = status.TooLarge
status_of (refusal.Report number) = status.Rejected
status_of (refusal.Part p number) = status.Rejected

-- the bytes are the one line of some refusal of this status
abbrev pub IsRefusalOf : Status → List ℕ → Type 0
IsRefusalOf s out = (r : Refusal) × (status_of r ≡ s) × (out ≡ line (text_of r))

-- the bytes and the status of a refusal: its one line
abbrev pub Refuses : Refusal → List ℕ → Status → Type 0
Refuses r out s = (out ≡ line (text_of r)) × (s ≡ status_of r)
