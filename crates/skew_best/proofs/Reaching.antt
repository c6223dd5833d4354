-- What a command has read where it answers no refusal.
use Rattle.std.proofs.Common.{◌≡◌, subst, refl, ℕ, ◌≤◌, Bool, true, false, List, length, Option, Some, None, Ok, Err, inl, inr, arith}
use Rattle.std.specs.Prelude.{IsSomeAnd, MatchOption, MatchResult, Result, nat_lt}
use Rattle.std.specs.Bool.{MatchBool}
use Rattle.std.proofs.lemmas.Bool.Decides.{nat_tests}
use Rattle.mt_model.specs.Form.{Form}
use Rattle.mt_model.specs.Log.{Logged}
use Rattle.mt_model.specs.State.{unknown_host}
use Rattle.mt_port.specs.Port.{Files, file_of}
use Rattle.log_read.specs.declared.fault.LogFault.{LogFault}
use Rattle.log_read.specs.LogOf.{log_of}
use Rattle.formula_arena.specs.Nodes.{nodes_of}
use Rattle.formula_arena.specs.declared.arena.TheConstants.{MAX_NODES}
use Rattle.question.specs.Size.{IsSmall}
use Rattle.mtl_parse.specs.declared.fault.FormulaFault.{FormulaFault}
use Rattle.mtl_parse.specs.FormulaOf.{FormulaOf}
use Rattle.mtl_parse.specs.Places.{host_byte}
use Rattle.skew_answers.specs.declared.status.Status.{Status}
use Rattle.skew_answers.specs.Statuses.{IsVerdict}
use Rattle.skew_words.specs.Words.{Word}
use Rattle.skew_commands.specs.declared.limits.TheConstants.{FORMULA_LIMIT, LOG_LIMIT}
use Rattle.skew_commands.specs.declared.refusal.Named.{Named}
use Rattle.skew_commands.specs.declared.refusal.Named.TheVariants as named
use Rattle.skew_commands.specs.declared.refusal.Refusal.{Refusal}
use Rattle.skew_commands.specs.declared.refusal.Refusal.TheVariants as refusal
use Rattle.skew_commands.specs.Reads.{IsQuestion}
use Rattle.skew_commands.specs.Refusals.{Refuses, status_of}
use Rattle.skew_commands.specs.Tests.{OnFile, OnFormula, OnHosts, OnLog, OnNodes, OnQuestion}
use Rattle.skew_best.specs.SizeTests.{OnSize}

-- the status of a refusal is no verdict
refusal-no_verdict : (r : Refusal) → IsVerdict (status_of r) → ⊥
refusal-no_verdict (refusal.Length n) v = v
refusal-no_verdict (refusal.Formula fault) v = v
refusal-no_verdict (refusal.UnknownHost byte) v = v
refusal-no_verdict (refusal.Log fault) v = v
refusal-no_verdict refusal.Nodes v = v
refusal-no_verdict (refusal.Event event) v = v
refusal-no_verdict (refusal.TimesNumber number) v = v
refusal-no_verdict (refusal.TimesCount number) v = v
refusal-no_verdict refusal.JsonSyntax v = v
refusal-no_verdict refusal.JsonShape v = v
refusal-no_verdict (refusal.Size n) v = v
refusal-no_verdict (refusal.Report number) v = v
refusal-no_verdict (refusal.Part p number) v = v

pub refuses-no_verdict : (r : Refusal) (out : List ℕ) (s : Status) → IsVerdict s → Refuses r out s → ⊥
refuses-no_verdict r out s verdict h = refusal-no_verdict r (subst IsVerdict h.1 verdict)

-- a file that was read within its limit, and what came of it
pub record ReachesFile (files : Files) (name : Word) (limit : ℕ) (Next : List ℕ → Type 0) : Type 0 where
  pub file : List ℕ
  pub held : file_of files name ≡ Some file
  pub within : length file ≤ limit
  pub next : Next file

-- a formula and a log that were read, and what came of them
pub record ReachesQuestion (files : Files) (formula log : Word) (Next : List ℕ → Form → Logged → Type 0) : Type 0 where
  pub text : List ℕ
  pub form : Form
  pub logged : Logged
  pub question : IsQuestion files formula log text form logged
  pub next : Next text form logged

module _ (out : List ℕ) (s : Status) (verdict : IsVerdict s) where
  not-refused : {P : Type 0} (r : Refusal) → Refuses r out s → P
  not-refused r h = absurd (refuses-no_verdict r out s verdict h)

  pub reach-file : (files : Files) (name : Word) (limit : ℕ) (n : Named) (next : List ℕ → List ℕ → Status → Type 0) → OnFile files name limit n next out s
      → ReachesFile files name limit (λ file. next file out s)
  reach-file files name limit n next h = go (file_of files name) refl h
    where
      held-file : (file : List ℕ) → file_of files name ≡ Some file → (longer : Bool) → nat_lt limit (length file) ≡ longer
          → MatchBool longer (Refuses (refusal.Length n) out s) (next file out s) → ReachesFile files name limit (λ file. next file out s)
      held-file file is true longer h = not-refused (refusal.Length n) h
      held-file file is false longer h = record { file = file; held = is; within = grind (arith, nat_tests, longer); next = h }

      go : (found : Option (List ℕ)) → file_of files name ≡ found
          → IsSomeAnd found (λ file. MatchBool (nat_lt limit (length file)) (Refuses (refusal.Length n) out s) (next file out s))
          → ReachesFile files name limit (λ file. next file out s)
      go None is h = absurd h
      go (Some file) is h = held-file file is (nat_lt limit (length file)) refl h

  pub reach-formula : (text : List ℕ) (next : Form → List ℕ → Status → Type 0) → OnFormula text next out s → (f : Form) × FormulaOf text (Ok f) × next f out s
  reach-formula text next h = go h.0 h.1 h.2
    where
      go : (reading : Result Form FormulaFault) → FormulaOf text reading
          → MatchResult reading (λ f. next f out s) (λ fault. Refuses (refusal.Formula fault) out s) → (f : Form) × FormulaOf text (Ok f) × next f out s
      go (Ok f) is h = (f, is, h)
      go (Err fault) is h = not-refused (refusal.Formula fault) h

  pub reach-log : (file : List ℕ) (next : Logged → List ℕ → Status → Type 0) → OnLog file next out s → (log : Logged) × (log_of file ≡ Ok log) × next log out s
  reach-log file next h = go (log_of file) refl h
    where
      go : (reading : Result Logged LogFault) → log_of file ≡ reading → MatchResult reading (λ log. next log out s) (λ fault. Refuses (refusal.Log fault) out s)
          → (log : Logged) × (log_of file ≡ Ok log) × next log out s
      go (Ok log) is h = (log, is, h)
      go (Err fault) is h = not-refused (refusal.Log fault) h

  pub reach-question : (files : Files) (formula log : Word) (next : List ℕ → Form → Logged → List ℕ → Status → Type 0) → OnQuestion files formula log next out s
      → ReachesQuestion files formula log (λ text f l. next text f l out s)
  reach-question files formula log next h =
      let text = reach-file files formula FORMULA_LIMIT named.Formula (λ text. OnFormula text (λ f. OnFile files log LOG_LIMIT named.Log (λ file. OnLog file (next text f)))) h in
      let f = reach-formula text.file (λ f. OnFile files log LOG_LIMIT named.Log (λ file. OnLog file (next text.file f))) text.next in
      let file = reach-file files log LOG_LIMIT named.Log (λ file. OnLog file (next text.file f.0)) f.2 in
      let l = reach-log file.file (next text.file f.0) file.next in
      record {
        text = text.file;
        form = f.0;
        logged = l.0;
        question = record { text_held = text.held; text_within = text.within; formula_read = f.1; file = file.file; file_held = file.held; file_within = file.within; log_read = l.1 };
        next = l.2;
      }

  pub reach-hosts : (text : List ℕ) (f : Form) (log : Logged) (next : List ℕ → Status → Type 0) → OnHosts text f log next out s → (unknown_host log f ≡ None) × next out s
  reach-hosts text f log next h = go (unknown_host log f) refl h
    where
      named-host : {P : Type 0} (byte : Option ℕ) → IsSomeAnd byte (λ byte. Refuses (refusal.UnknownHost byte) out s) → P
      named-host None h = absurd h
      named-host (Some byte) h = not-refused (refusal.UnknownHost byte) h

      go : (number : Option ℕ) → unknown_host log f ≡ number
          → MatchOption number (next out s) (λ number. IsSomeAnd (host_byte text number) (λ byte. Refuses (refusal.UnknownHost byte) out s))
          → (unknown_host log f ≡ None) × next out s
      go None is h = (is, h)
      go (Some number) is h = named-host (host_byte text number) h

  pub reach-nodes : (f : Form) (next : List ℕ → Status → Type 0) → OnNodes f next out s → (length (nodes_of f) ≤ MAX_NODES) × next out s
  reach-nodes f next h = go (nat_lt MAX_NODES (length (nodes_of f))) refl h
    where
      go : (more : Bool) → nat_lt MAX_NODES (length (nodes_of f)) ≡ more → MatchBool more (Refuses refusal.Nodes out s) (next out s) → (length (nodes_of f) ≤ MAX_NODES) × next out s
      go true is h = not-refused refusal.Nodes h
      go false is h = (grind (arith, nat_tests, is), h)

  pub reach-size : (f : Form) (log : Logged) (next : List ℕ → Status → Type 0) → OnSize f log next out s → IsSmall log (nodes_of f) × next out s
  reach-size f log next (inl h) = let (n, large, refused) = h in not-refused (refusal.Size n) refused
  reach-size f log next (inr h) = h
