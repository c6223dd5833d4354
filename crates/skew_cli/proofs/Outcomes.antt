-- From what was due to what words and files give.
use Rattle.std.proofs.Common.{◌≡◌, ◌∙◌, ◌++◌, ◌⊎◌, ap, sym, refl, inl, inr, Bool, List, ℕ, Some, None, codes, subst}
use Rattle.mt_port.specs.Port.{Files}
use Rattle.skew_answers.specs.declared.status.Status.{Status}
use Rattle.skew_answers.specs.declared.status.Status.TheVariants as status
use Rattle.skew_answers.specs.Statuses.{IsAnswer, IsRefusal}
use Rattle.skew_answers.specs.Texts.{line}
use Rattle.skew_words.specs.Words.{Audit, Check, Command, Demo, Json, Order, Replay, Span, Times, Tolerance, Trim, Word, command_of}
use Rattle.skew_commands.specs.declared.limits.TheConstants.{LOG_LIMIT, TIMES_LIMIT}
use Rattle.skew_commands.specs.declared.refusal.Named.TheVariants as named
use Rattle.skew_commands.specs.Reads.{Agree}
use Rattle.skew_commands.specs.Refusals.{IsRefusalOf}
use Rattle.skew_commands.specs.OrderOutcome.{OrderOfLog, OrderOutcome}
use Rattle.skew_commands.specs.ReplayOutcome.{ReplayOfLog, ReplayOfTimes, ReplayOutcome}
use Rattle.skew_commands.specs.Tests.{OnLog, OnTimes}
use Rattle.skew_commands.specs.TimesOutcome.{TimesOfLog, TimesOutcome}
use Rattle.skew_commands.proofs.Questions.{same-file, same-question, same-third}
use Rattle.skew_cli.specs.declared.limits.TheConstants.{JSON_LIMIT, REPORT_LIMIT}
use Rattle.skew_cli.specs.AuditOutcome.{AuditOfLog, AuditOfReport, AuditOutcome}
use Rattle.skew_cli.specs.CheckOutcome.{CheckOfLog, CheckOutcome}
use Rattle.skew_cli.specs.Outcome.{CommandOutcome, Ends, HasOutcome, HasPossible, IsPossible, IsPossibleOf, Outcome}
use Rattle.skew_cli.specs.JsonOutcome.{Converted, JsonOutcome, OnJson}
use Rattle.skew_best.specs.SizeTests.{OnSize}
use Rattle.skew_best.specs.ToleranceOutcome.{ToleranceOfLog, ToleranceOutcome}
use Rattle.skew_best.specs.SpanOutcome.{SpanOfLog, SpanOutcome}
use Rattle.skew_cli.specs.ReportTests.{OnReport}
use Rattle.skew_cli.specs.TrimOutcome.{TrimOfReport, TrimOutcome}

-- what is due may be said in a weaker way
pub Ends-weaker : (D E : List ℕ → Status → Type 0) (old now : List ℕ) (s : Status) → ((b : List ℕ) (t : Status) → D b t → E b t) → Ends D old now s → Ends E old now s
Ends-weaker D E old now s weaker ends = record {
  answer = λ is. let a = ends.answer is in (a.0, a.1, weaker a.0 s a.2);
  cut = λ is. let k = ends.cut is in (k.0, k.1, weaker k.0 k.1 k.2, k.3);
}

module _ (held files : Files) (agree : Agree held files) (out : List ℕ) (s : Status) where
  same-times : (log : Word) → TimesOutcome held log out s → TimesOutcome files log out s
  same-times log = same-file held files agree out s log LOG_LIMIT named.Log (λ file. OnLog file TimesOfLog) (λ file. OnLog file TimesOfLog) (λ file h. h)

  same-order : (log : Word) → OrderOutcome held log out s → OrderOutcome files log out s
  same-order log = same-file held files agree out s log LOG_LIMIT named.Log (λ file. OnLog file OrderOfLog) (λ file. OnLog file OrderOfLog) (λ file h. h)

  same-replay : (formula log times : Word) → ReplayOutcome held formula log times out s → ReplayOutcome files formula log times out s
  same-replay formula log times =
      same-question held files agree out s formula log (ReplayOfLog held times) (ReplayOfLog files times)
      (same-third held files agree out s times TIMES_LIMIT named.Times (λ f l file. OnTimes file l (ReplayOfTimes l f)))

  same-check : (conflicts : ℕ) (formula log : Word) → CheckOutcome held conflicts formula log out s → CheckOutcome files conflicts formula log out s
  same-check conflicts formula log = same-question held files agree out s formula log (CheckOfLog conflicts) (CheckOfLog conflicts) (λ text f l h. h)

  same-tolerance : (conflicts : ℕ) (value : Bool) (max : ℕ) (formula log : Word) → ToleranceOutcome held conflicts value max formula log out s
      → ToleranceOutcome files conflicts value max formula log out s
  same-tolerance conflicts value max formula log = same-question held files agree out s formula log (ToleranceOfLog conflicts value max) (ToleranceOfLog conflicts value max) (λ text f l h. h)

  same-span : (conflicts : ℕ) (value : Bool) (from to : ℕ) (formula log : Word) → SpanOutcome held conflicts value from to formula log out s
      → SpanOutcome files conflicts value from to formula log out s
  same-span conflicts value from to formula log = same-question held files agree out s formula log (SpanOfLog conflicts value from to) (SpanOfLog conflicts value from to) (λ text f l h. h)

  same-audit : (conflicts : ℕ) (formula log report : Word) → AuditOutcome held conflicts formula log report out s → AuditOutcome files conflicts formula log report out s
  same-audit conflicts formula log report =
      same-question held files agree out s formula log (AuditOfLog held conflicts report) (AuditOfLog files conflicts report)
      (same-third held files agree out s report REPORT_LIMIT named.Report (λ f l bytes. OnReport bytes (λ r. OnSize f l (AuditOfReport conflicts f l r))))

  same-trim : (name : Word) → TrimOutcome held name out s → TrimOutcome files name out s
  same-trim name = same-file held files agree out s name REPORT_LIMIT named.Report (λ bytes. OnReport bytes TrimOfReport) (λ bytes. OnReport bytes TrimOfReport) (λ bytes h. h)

  same-json : (name : Word) → JsonOutcome held name out s → JsonOutcome files name out s
  same-json name = same-file held files agree out s name JSON_LIMIT named.Json (λ file. OnJson file Converted) (λ file. OnJson file Converted) (λ file h. h)

  same-command : (c : Command) → CommandOutcome c held out s → CommandOutcome c files out s
  same-command (Times log) = same-times log
  same-command (Replay formula log times) = same-replay formula log times
  same-command (Order log) = same-order log
  same-command (Check conflicts formula log) = same-check conflicts formula log
  same-command (Audit conflicts formula log report) = same-audit conflicts formula log report
  same-command (Trim name) = same-trim name
  same-command (Json name) = same-json name
  same-command (Tolerance conflicts value max formula log) = same-tolerance conflicts value max formula log
  same-command (Span conflicts value from to formula log) = same-span conflicts value from to formula log
  same-command (Demo seed) = λ h. h

-- the outcome of a command, for files that agree with those that are held
pub Outcome-command : (words : List Word) (c : Command) (held files : Files) (out : List ℕ) (s : Status) → command_of words ≡ Some c → Agree held files
    → CommandOutcome c held out s → Outcome words files out s
Outcome-command words c held files out s is agree h = rw is (same-command held files agree out s c h)

-- an answer has the status that was due with it, since it isn't one of a failed write
pub due-status : (due s : Status) → (s ≡ due) ⊎ (s ≡ status.WriteFailed) → IsAnswer s → s ≡ due
due-status due s (inl is) answer = is
due-status due s (inr is) answer = absurd (subst IsAnswer is answer)

pub HasOutcome-answer : (words : List Word) (files : Files) (out : List ℕ) (due s : Status) → (s ≡ due) ⊎ (s ≡ status.WriteFailed) → IsAnswer s → Outcome words files out due → HasOutcome words files s
HasOutcome-answer words files out due s ended answer outcome = rw (due-status due s ended answer) (out, outcome)

-- the same of what can be given
pub IsPossible-command : (words : List Word) (c : Command) (out : List ℕ) (s : Status) → command_of words ≡ Some c → IsPossibleOf c out s → IsPossible words out s
IsPossible-command words c out s is h = rw is h

pub HasPossible-answer : (words : List Word) (out : List ℕ) (due s : Status) → (s ≡ due) ⊎ (s ≡ status.WriteFailed) → IsAnswer s → IsPossible words out due → HasPossible words s
HasPossible-answer words out due s ended answer possible = rw (due-status due s ended answer) (out, possible)

-- the outcome of words that are no command
pub Outcome-words : (words : List Word) (files : Files) → command_of words ≡ None → Outcome words files (line (codes "refused words")) status.Words
Outcome-words words files none = rw none (refl, refl)

pub IsPossible-words : (words : List Word) → command_of words ≡ None → IsPossible words (line (codes "refused words")) status.Words
IsPossible-words words none = rw none (refl, refl)

-- what is refused is written, since writing did not fail
pub refused-written : (text old now : List ℕ) (due s : Status) → (s ≡ due) ⊎ (s ≡ status.WriteFailed) → Ends (λ b t. (b ≡ text) × (t ≡ due)) old now s
    → IsAnswer due → (IsRefusal due → IsRefusalOf due text) → IsRefusal s
    → (line : List ℕ) × IsRefusalOf s line × (now ≡ old ++ line)
refused-written text old now due s (inl is) ends answer told refused =
    let a = ends.answer (subst IsAnswer (sym is) answer) in
    (text, subst (λ z. IsRefusalOf z text) (sym is) (told (subst IsRefusal is refused)), a.1 ∙ ap (λ w. old ++ w) a.2.0)
refused-written text old now due s (inr is) ends answer told refused = absurd (subst IsRefusal is refused)
