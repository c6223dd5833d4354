-- What is asked of an answer where the tests before it are known to pass.
use Rattle.std.proofs.Common.{◌≡◌, subst, ℕ, ◌<◌, ◌≤◌, true, false, List, length, Some, None, Ok, inl, inr, arith}
use Rattle.std.specs.Prelude.{MatchResult, nat_lt}
use Rattle.std.proofs.lemmas.Bool.Decides.{nat_tests}
use Rattle.mt_model.specs.Form.{Form}
use Rattle.mt_model.specs.Log.{Logged}
use Rattle.mt_model.specs.State.{unknown_host}
use Rattle.mt_port.specs.Port.{Files, file_of}
use Rattle.log_read.specs.LogOf.{log_of}
use Rattle.formula_arena.specs.Nodes.{nodes_of}
use Rattle.formula_arena.specs.declared.arena.TheConstants.{MAX_NODES}
use Rattle.question.specs.Size.{IsSmall}
use Rattle.mtl_parse.specs.FormulaOf.{FormulaOf}
use Rattle.mtl_parse.specs.Laws.{TextsAreUnambiguous}
use Rattle.skew_answers.specs.declared.status.Status.{Status}
use Rattle.skew_words.specs.Words.{Word}
use Rattle.skew_commands.specs.declared.limits.TheConstants.{FORMULA_LIMIT, LOG_LIMIT}
use Rattle.skew_commands.specs.declared.refusal.Named.{Named}
use Rattle.skew_commands.specs.declared.refusal.Named.TheVariants as named
use Rattle.skew_commands.specs.declared.refusal.Refusal.TheVariants as refusal
use Rattle.skew_commands.specs.Reads.{IsQuestion}
use Rattle.skew_commands.specs.Refusals.{Refuses}
use Rattle.skew_commands.specs.Tests.{OnFile, OnFormula, OnHosts, OnLog, OnNodes, OnQuestion}
use Rattle.skew_best.specs.SizeTests.{OnSize}

module _ (out : List ℕ) (s : Status) where
  pub pass-file : (files : Files) (name : Word) (limit : ℕ) (n : Named) (next : List ℕ → List ℕ → Status → Type 0) (file : List ℕ)
      → file_of files name ≡ Some file → length file ≤ limit → OnFile files name limit n next out s → next file out s
  pass-file files name limit n next file is within h = let less : nat_lt limit (length file) ≡ false = grind (arith, nat_tests) in rw (is, less) at h

  pub too-long : (files : Files) (name : Word) (limit : ℕ) (n : Named) (next : List ℕ → List ℕ → Status → Type 0) (file : List ℕ)
      → file_of files name ≡ Some file → limit < length file → OnFile files name limit n next out s → Refuses (refusal.Length n) out s
  too-long files name limit n next file is longer h = let more : nat_lt limit (length file) ≡ true = grind (arith, nat_tests) in rw (is, more) at h

  pub pass-formula : TextsAreUnambiguous → (text : List ℕ) (next : Form → List ℕ → Status → Type 0) (f : Form) → FormulaOf text (Ok f) → OnFormula text next out s → next f out s
  pass-formula unambiguous text next f is h = subst (λ reading. MatchResult reading (λ f. next f out s) (λ fault. Refuses (refusal.Formula fault) out s)) (unambiguous text h.0 (Ok f) h.1 is) h.2

  pub pass-log : (file : List ℕ) (next : Logged → List ℕ → Status → Type 0) (log : Logged) → log_of file ≡ Ok log → OnLog file next out s → next log out s
  pass-log file next log is h = rw is at h

  pub pass-question : TextsAreUnambiguous
      → (files : Files) (formula log : Word) (next : List ℕ → Form → Logged → List ℕ → Status → Type 0) (text : List ℕ) (f : Form) (l : Logged)
      → IsQuestion files formula log text f l → OnQuestion files formula log next out s → next text f l out s
  pass-question unambiguous files formula log next text f l q h =
      let on_text =
      pass-file files formula FORMULA_LIMIT named.Formula
      (λ text. OnFormula text (λ f. OnFile files log LOG_LIMIT named.Log (λ file. OnLog file (next text f)))) text q.text_held q.text_within h in
      let on_formula = pass-formula unambiguous text (λ f. OnFile files log LOG_LIMIT named.Log (λ file. OnLog file (next text f))) f q.formula_read on_text in
      let on_file = pass-file files log LOG_LIMIT named.Log (λ file. OnLog file (next text f)) q.file q.file_held q.file_within on_formula in
      pass-log q.file (next text f) l q.log_read on_file

  pub pass-hosts : (text : List ℕ) (f : Form) (log : Logged) (next : List ℕ → Status → Type 0) → unknown_host log f ≡ None → OnHosts text f log next out s → next out s
  pass-hosts text f log next none h = rw none at h

  pub pass-nodes : (f : Form) (next : List ℕ → Status → Type 0) → length (nodes_of f) ≤ MAX_NODES → OnNodes f next out s → next out s
  pass-nodes f next few h = let less : nat_lt MAX_NODES (length (nodes_of f)) ≡ false = grind (arith, nat_tests) in rw less at h

  pub pass-size : (f : Form) (log : Logged) (next : List ℕ → Status → Type 0) → IsSmall log (nodes_of f) → OnSize f log next out s → next out s
  pass-size f log next small (inl h) = let (n, is, refused) = h in let low = small n is.size in let high = is.large in absurd (omega (arith, low, high))
  pass-size f log next small (inr h) = h.1
