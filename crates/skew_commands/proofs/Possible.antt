-- Files made of bytes that were read, which no shelf tells.
use Rattle.std.proofs.Common.{◌≡◌, refl, ℕ, ◌+◌, ◌<◌, ◌≤◌, List, [], ◌∷◌, length, replicate, None, Some, Ok, Err, arith}
use Rattle.std.specs.Prelude.{Result}
use Rattle.std.proofs.lemmas.List.{length-replicate}
use Rattle.mt_model.specs.Form.{Form}
use Rattle.mt_model.specs.Log.{Logged}
use Rattle.mt_model.specs.State.{unknown_host}
use Rattle.mt_port.specs.Port.{Files, file_of}
use Rattle.mt_port.specs.Whole.{IsLonger}
use Rattle.log_read.specs.LogOf.{log_of}
use Rattle.formula_arena.specs.Nodes.{nodes_of}
use Rattle.formula_arena.specs.declared.arena.TheConstants.{MAX_NODES}
use Rattle.mtl_parse.specs.FormulaOf.{FormulaOf}
use Rattle.skew_answers.specs.declared.status.Status.{Status}
use Rattle.skew_answers.specs.Texts.{line}
use Rattle.skew_words.specs.Words.{Word}
use Rattle.skew_commands.specs.declared.limits.TheConstants.{FORMULA_LIMIT, LOG_LIMIT}
use Rattle.skew_commands.specs.declared.refusal.Named.{Named}
use Rattle.skew_commands.specs.declared.refusal.Named.TheVariants as named
use Rattle.skew_commands.specs.declared.refusal.Refusal.TheVariants as refusal
use Rattle.skew_commands.specs.declared.reply.Reply.{Reply}
use Rattle.skew_commands.specs.declared.reply.Stop.{Stop}
use Rattle.skew_commands.specs.declared.reply.Stop.TheVariants as stop
use Rattle.skew_commands.specs.Refusals.{status_of, text_of}
use Rattle.skew_commands.specs.Reads.{IsQuestion}
use Rattle.skew_commands.specs.Possible.{OfSomeFile, OfSomeQuestion, OfSomeThird}
use Rattle.skew_commands.specs.Untold.{AreRead, GivesForSome, RefusesSomeQuestion}
use Rattle.skew_commands.specs.Stops.{Gives, HasReason, NamesHost, NoAnswer, TellsFormulaFault, TellsLogFault}
use Rattle.skew_commands.specs.Tests.{OnFile, OnFormula, OnHosts, OnLog, OnNodes, OnQuestion}
use Rattle.skew_commands.proofs.Questions.{question-given, question-stopped}
use Rattle.skew_commands.proofs.Steps.{At, file-read, file-refused, gives-weaker, hosts-known, hosts-refused, log-read, log-stopped, nodes-refused, question-formula_faulty, question-log_faulty, question-log_long, reason-weaker, third-answered, third-given}

-- bytes above a limit
pub longer : (limit : ℕ) → (bytes : List ℕ) × (limit < length bytes)
longer limit = (replicate (limit + 1) 0, omega (arith, length-replicate {A = ℕ} (limit + 1) 0))

-- one file
abbrev pub only : List ℕ → Files
only file = ([], file) ∷ []

-- a formula's text, a log's file and a third one, each under a name of its own
abbrev pub formula_name : Word
formula_name = 1 ∷ []

abbrev pub log_name : Word
log_name = 2 ∷ []

abbrev pub third_name : Word
third_name = 3 ∷ []

abbrev pub three : List ℕ → List ℕ → List ℕ → Files
three text file third = (formula_name, text) ∷ (log_name, file) ∷ (third_name, third) ∷ []

only-held : (file : List ℕ) → file_of (only file) [] ≡ Some file
only-held file = refl

module _ (text file third : List ℕ) where
  formula-held : file_of (three text file third) formula_name ≡ Some text
  formula-held = refl

  log-held : file_of (three text file third) log_name ≡ Some file
  log-held = refl

  pub third-held : file_of (three text file third) third_name ≡ Some third
  third-held = refl

-- a file that is too long, whatever is told of the one that was read
module _ (files : Files) (name : Word) (limit : ℕ) (named : Named) (next : List ℕ → List ℕ → Status → Type 0) (bytes : List ℕ) where
  pub length-refused : file_of files name ≡ Some bytes → limit < length bytes → (s : Stop) → HasReason s (λ r. r ≡ refusal.Length named) → HasReason s (At (OnFile files name limit named next))
  length-refused held above s =
      let long : IsLonger (file_of files name) limit = rw held above in
      reason-weaker s (λ r. r ≡ refusal.Length named) (At (OnFile files name limit named next)) (λ r is. file-refused files name limit named next r (is, long))

-- what stops a command before it reads a third file
module _ (limit : ℕ) (named : Named) (text : List ℕ) (f : Form) (log : Logged) (next : List ℕ → List ℕ → Status → Type 0) where
  abbrev pub on-third : Files → Word → List ℕ → Status → Type 0
  on-third files name = OnHosts text f log (OnNodes f (OnFile files name limit named next))

  pub third-unread : (s : Stop) → HasReason s (NamesHost text (unknown_host log f)) → GivesForSome on-third (Err s)
  third-unread s h = record {
    bytes = [];
    given = λ files name is. reason-weaker s (NamesHost text (unknown_host log f)) (At (on-third files name)) (hosts-refused text f log (OnNodes f (OnFile files name limit named next))) h;
  }

  pub third-uncounted : unknown_host log f ≡ None → (s : Stop) → HasReason s (λ r. (r ≡ refusal.Nodes) × (MAX_NODES < length (nodes_of f))) → GivesForSome on-third (Err s)
  third-uncounted known s h = record {
    bytes = [];
    given = λ files name is.
        reason-weaker s (λ r. (r ≡ refusal.Nodes) × (MAX_NODES < length (nodes_of f))) (At (on-third files name))
        (λ r why. hosts-known text f log (OnNodes f (OnFile files name limit named next)) (line (text_of r)) (status_of r) known (nodes-refused f (OnFile files name limit named next) r why)) h;
  }

  module _ (known : unknown_host log f ≡ None) (few : length (nodes_of f) ≤ MAX_NODES) where
    pub third-long : (s : Stop) → HasReason s (λ r. r ≡ refusal.Length named) → GivesForSome on-third (Err s)
    third-long s h =
        let long = longer limit in
        record { bytes = long.0; given = λ files name is. third-answered files name limit named text f log next known few (Err s) (length-refused files name limit named next long.0 is long.1 s h) }

    pub third-read : (file : List ℕ) (result : Result Reply Stop) → length file ≤ limit → Gives (next file) result → GivesForSome on-third result
    third-read file result within h = record { bytes = file; given = λ files name is. third-given files name limit named text f log next known few file result is within h }

-- what `times` and `order` give of a log's file
module _ (next : Logged → List ℕ → Status → Type 0) where
  abbrev pub OnSomeLog : List ℕ → Status → Type 0
  OnSomeLog = OfSomeFile (λ files log. OnFile files log LOG_LIMIT named.Log (λ file. OnLog file next))

  some-log : (files : Files) (log : Word) (s : Stop) → HasReason s (At (OnFile files log LOG_LIMIT named.Log (λ file. OnLog file next))) → HasReason s (At OnSomeLog)
  some-log files log s = reason-weaker s (At (OnFile files log LOG_LIMIT named.Log (λ file. OnLog file next))) (At OnSomeLog) (λ r h. record { files = files; name = log; due = h })

  pub some-log-long : (s : Stop) → HasReason s (λ r. r ≡ refusal.Length named.Log) → HasReason s (At OnSomeLog)
  some-log-long s h =
      let long = longer LOG_LIMIT in
      some-log (only long.0) [] s (length-refused (only long.0) [] LOG_LIMIT named.Log (λ file. OnLog file next) long.0 (only-held long.0) long.1 s h)

  pub some-log-faulty : (file : List ℕ) (s : Stop) → length file ≤ LOG_LIMIT → HasReason s (TellsLogFault (log_of file)) → HasReason s (At OnSomeLog)
  some-log-faulty file s within h = some-log (only file) [] s (log-stopped (only file) [] next file s (only-held file) within h)

  pub some-log-read : (file : List ℕ) (log : Logged) (out : List ℕ) (s : Status) → length file ≤ LOG_LIMIT → log_of file ≡ Ok log → next log out s → OnSomeLog out s
  some-log-read file log out s within is h =
      record { files = only file; name = []; due = file-read (only file) [] LOG_LIMIT named.Log (λ file. OnLog file next) file out s (only-held file) within (log-read file next log out s is h) }

-- what stops the reading of some formula and log
some-question : (text file : List ℕ) (s : Stop) → HasReason s (At (OnQuestion (three text file []) formula_name log_name NoAnswer)) → HasReason s RefusesSomeQuestion
some-question text file s =
    reason-weaker s (At (OnQuestion (three text file []) formula_name log_name NoAnswer)) RefusesSomeQuestion
    (λ r h. record { files = three text file []; formula = formula_name; log = log_name; due = h })

pub some-formula-long : (s : Stop) → HasReason s (λ r. r ≡ refusal.Length named.Formula) → HasReason s RefusesSomeQuestion
some-formula-long s h =
    let long = longer FORMULA_LIMIT in
    let files = three long.0 [] [] in
    some-question long.0 [] s
    (length-refused files formula_name FORMULA_LIMIT named.Formula
    (λ text. OnFormula text (λ f. OnFile files log_name LOG_LIMIT named.Log (λ file. OnLog file (NoAnswer text f)))) long.0
    (formula-held long.0 [] []) long.1 s h)

module _ (text : List ℕ) (within : length text ≤ FORMULA_LIMIT) where
  pub some-formula-faulty : (s : Stop) → HasReason s (TellsFormulaFault text) → HasReason s RefusesSomeQuestion
  some-formula-faulty s h = some-question text [] s (question-formula_faulty (three text [] []) formula_name log_name NoAnswer text (formula-held text [] []) within s h)

  module _ (f : Form) (reads : FormulaOf text (Ok f)) where
    pub some-log_file-long : (s : Stop) → HasReason s (λ r. r ≡ refusal.Length named.Log) → HasReason s RefusesSomeQuestion
    some-log_file-long s h =
        let long = longer LOG_LIMIT in
        let above : IsLonger (file_of (three text long.0 []) log_name) LOG_LIMIT = long.1 in
        some-question text long.0 s
        (question-log_long (three text long.0 []) formula_name log_name NoAnswer text (formula-held text long.0 []) within f reads s
        (reason-weaker s (λ r. r ≡ refusal.Length named.Log) (λ r. (r ≡ refusal.Length named.Log) × IsLonger (file_of (three text long.0 []) log_name) LOG_LIMIT) (λ r is. (is, above)) h))

    pub some-log_file-faulty : (file : List ℕ) (s : Stop) → length file ≤ LOG_LIMIT → HasReason s (TellsLogFault (log_of file)) → HasReason s RefusesSomeQuestion
    some-log_file-faulty file s fits h =
        some-question text file s
        (question-log_faulty (three text file []) formula_name log_name NoAnswer text (formula-held text file []) within f reads file s (log-held text file []) fits h)

-- what comes after a formula and a log that were refused is never asked
pub question-refused : (next : Files → List ℕ → Form → Logged → List ℕ → Status → Type 0) (s : Stop) → HasReason s RefusesSomeQuestion
    → HasReason s (At (OfSomeQuestion (λ files formula log. OnQuestion files formula log (next files))))
question-refused next s =
    reason-weaker s RefusesSomeQuestion (At (OfSomeQuestion (λ files formula log. OnQuestion files formula log (next files))))
    (λ r h. record { files = h.files; formula = h.formula; log = h.log; due = question-stopped h.files h.formula h.log (next h.files) (stop.Refused r) h.due })

pub third-refused : (next : Files → Word → List ℕ → Form → Logged → List ℕ → Status → Type 0) (s : Stop) → HasReason s RefusesSomeQuestion
    → HasReason s (At (OfSomeThird (λ files formula log third. OnQuestion files formula log (next files third))))
third-refused next s =
    reason-weaker s RefusesSomeQuestion (At (OfSomeThird (λ files formula log third. OnQuestion files formula log (next files third))))
    (λ r h. record { files = h.files; formula = h.formula; log = h.log; third = []; due = question-stopped h.files h.formula h.log (next h.files []) (stop.Refused r) h.due })

-- what is given for a formula and a log that were read
module _ (text : List ℕ) (f : Form) (l : Logged) (read : AreRead text f l) (result : Result Reply Stop) where
  are-question : (third : List ℕ) → IsQuestion (three text read.file third) formula_name log_name text f l
  are-question third = record {
    text_held = formula-held text read.file third;
    text_within = read.text_within;
    formula_read = read.formula_read;
    file = read.file;
    file_held = log-held text read.file third;
    file_within = read.file_within;
    log_read = read.log_read;
  }

  pub some-question-given : (next : List ℕ → Form → Logged → List ℕ → Status → Type 0) → Gives (next text f l) result
      → Gives (OfSomeQuestion (λ files formula log. OnQuestion files formula log next)) result
  some-question-given next h =
      let files = three text read.file [] in
      gives-weaker result (OnQuestion files formula_name log_name next) (OfSomeQuestion (λ files formula log. OnQuestion files formula log next))
      (λ out s due. record { files = files; formula = formula_name; log = log_name; due = due })
      (question-given files formula_name log_name next text f l result (are-question []) h)

  pub some-third-given : (next : Files → Word → List ℕ → Form → Logged → List ℕ → Status → Type 0)
      → GivesForSome (λ files third. next files third text f l) result
      → Gives (OfSomeThird (λ files formula log third. OnQuestion files formula log (next files third))) result
  some-third-given next h =
      let files = three text read.file h.bytes in
      gives-weaker result (OnQuestion files formula_name log_name (next files third_name)) (OfSomeThird (λ files formula log third. OnQuestion files formula log (next files third)))
      (λ out s due. record { files = files; formula = formula_name; log = log_name; third = third_name; due = due })
      (question-given files formula_name log_name (next files third_name) text f l result (are-question h.bytes) (h.given files third_name (third-held text read.file h.bytes)))
