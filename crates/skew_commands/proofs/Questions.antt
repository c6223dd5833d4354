-- What is asked of a formula and a log, and of a file after them, for files that agree with those that are held.
use Rattle.std.proofs.Common.{◌≡◌, refl, List, ℕ, Bool, true, false, Option, Some, None, Ok, Err}
use Rattle.std.specs.Prelude.{IsSome, IsSomeAnd, MatchOption, MatchResult, Result, length, nat_lt}
use Rattle.std.specs.Bool.{MatchBool}
use Rattle.mt_model.specs.Form.{Form}
use Rattle.mt_model.specs.Log.{Logged}
use Rattle.mt_model.specs.State.{unknown_host}
use Rattle.mt_port.specs.Port.{Files, file_of}
use Rattle.log_read.specs.LogOf.{log_of}
use Rattle.formula_arena.specs.Nodes.{nodes_of}
use Rattle.formula_arena.specs.declared.arena.TheConstants.{MAX_NODES}
use Rattle.mtl_parse.specs.Places.{host_byte}
use Rattle.skew_answers.specs.declared.status.Status.{Status}
use Rattle.skew_answers.specs.Texts.{line}
use Rattle.skew_words.specs.Words.{Word}
use Rattle.skew_commands.specs.declared.limits.TheConstants.{FORMULA_LIMIT, LOG_LIMIT}
use Rattle.skew_commands.specs.declared.refusal.Named.{Named}
use Rattle.skew_commands.specs.declared.refusal.Named.TheVariants as named
use Rattle.skew_commands.specs.declared.refusal.Refusal.TheVariants as refusal
use Rattle.skew_commands.specs.declared.reply.Reply.{Reply}
use Rattle.skew_commands.specs.declared.reply.Stop.{Stop}
use Rattle.skew_commands.specs.Refusals.{Refuses, status_of, text_of}
use Rattle.skew_commands.specs.Reads.{Agree, IsQuestion}
use Rattle.skew_commands.specs.Stops.{Gives, HasReason, NoAnswer}
use Rattle.skew_commands.specs.Tests.{OnFile, OnFormula, OnHosts, OnLog, OnNodes, OnQuestion}
use Rattle.skew_commands.proofs.Steps.{At, gives-weaker, question-read, reason-weaker}

more-none : {X : Type 0} (o : Option X) (P Q : Type 0) (R : X → Type 0) → (P → Q) → MatchOption o P R → MatchOption o Q R
more-none None P Q R more h = more h
more-none (Some x) P Q R more h = h

more-result : {X F : Type 0} (r : Result X F) (P Q : X → Type 0) (R : F → Type 0) → ((x : X) → P x → Q x) → MatchResult r P R → MatchResult r Q R
more-result (Ok x) P Q R more h = more x h
more-result (Err f) P Q R more h = h

more-bool : (b : Bool) (P Q R : Type 0) → (Q → R) → MatchBool b P Q → MatchBool b P R
more-bool true P Q R more h = h
more-bool false P Q R more h = more h

module _ (held files : Files) (agree : Agree held files) (out : List ℕ) (s : Status) where
  -- a file that is held is the same among the others
  pub same-file : (name : Word) (limit : ℕ) (n : Named) (next next' : List ℕ → List ℕ → Status → Type 0)
      → ((bytes : List ℕ) → next bytes out s → next' bytes out s) → OnFile held name limit n next out s → OnFile files name limit n next' out s
  same-file name limit n next next' more h = go (file_of held name) (file_of files name) (agree name) h
    where
      go : (a b : Option (List ℕ)) → (IsSome a → b ≡ a)
          → IsSomeAnd a (λ file. MatchBool (nat_lt limit (length file)) (Refuses (refusal.Length n) out s) (next file out s))
          → IsSomeAnd b (λ file. MatchBool (nat_lt limit (length file)) (Refuses (refusal.Length n) out s) (next' file out s))
      go None b same h = absurd h
      go (Some file) b same h = rw (same refl) (more-bool (nat_lt limit (length file)) _ _ _ (more file) h)

  -- a question that is held is the same among the others
  pub same-question : (formula log : Word) (next next' : List ℕ → Form → Logged → List ℕ → Status → Type 0)
      → ((text : List ℕ) (f : Form) (l : Logged) → next text f l out s → next' text f l out s) → OnQuestion held formula log next out s
      → OnQuestion files formula log next' out s
  same-question formula log next next' more =
      same-file formula FORMULA_LIMIT named.Formula (λ text. OnFormula text (λ f. OnFile held log LOG_LIMIT named.Log (λ file. OnLog file (next text f))))
      (λ text. OnFormula text (λ f. OnFile files log LOG_LIMIT named.Log (λ file. OnLog file (next' text f))))
      (λ text h. (
        h.0,
        h.1,
        more-result h.0 (λ f. OnFile held log LOG_LIMIT named.Log (λ file. OnLog file (next text f)) out s)
            (λ f. OnFile files log LOG_LIMIT named.Log (λ file. OnLog file (next' text f)) out s) (λ fault. Refuses (refusal.Formula fault) out s)
            (λ f. same-file log LOG_LIMIT named.Log (λ file. OnLog file (next text f)) (λ file. OnLog file (next' text f))
            (λ file. more-result (log_of file) (λ l. next text f l out s) (λ l. next' text f l out s) (λ fault. Refuses (refusal.Log fault) out s) (more text f))) h.2,
      ))

  -- a third file that is held is the same among the others
  pub same-third : (third : Word) (limit : ℕ) (n : Named) (next : Form → Logged → List ℕ → List ℕ → Status → Type 0) (text : List ℕ) (f : Form) (l : Logged)
      → OnHosts text f l (OnNodes f (OnFile held third limit n (next f l))) out s → OnHosts text f l (OnNodes f (OnFile files third limit n (next f l))) out s
  same-third third limit n next text f l =
      let due = λ (among : Files). OnFile among third limit n (next f l) in
      more-none (unknown_host l f) (OnNodes f (due held) out s) (OnNodes f (due files) out s)
      (λ number. IsSomeAnd (host_byte text number) (λ byte. Refuses (refusal.UnknownHost byte) out s))
      (more-bool (nat_lt MAX_NODES (length (nodes_of f))) (Refuses refusal.Nodes out s) (due held out s) (due files out s)
      (same-file third limit n (next f l) (next f l) (λ file h. h)))

module _ (files : Files) (formula log : Word) (next : List ℕ → Form → Logged → List ℕ → Status → Type 0) where
  -- what stops the reading of a formula and a log, whatever comes after them
  pub question-stopped : (s : Stop) → HasReason s (At (OnQuestion files formula log NoAnswer)) → HasReason s (At (OnQuestion files formula log next))
  question-stopped s =
      reason-weaker s (At (OnQuestion files formula log NoAnswer)) (At (OnQuestion files formula log next))
      (λ r. same-question files files (λ name is. refl) (line (text_of r)) (status_of r) formula log NoAnswer next (λ text f l h. absurd h))

  -- what is given for a formula and a log, once they were read
  pub question-given : (text : List ℕ) (f : Form) (l : Logged) (result : Result Reply Stop) → IsQuestion files formula log text f l
      → Gives (next text f l) result → Gives (OnQuestion files formula log next) result
  question-given text f l result q = gives-weaker result (next text f l) (OnQuestion files formula log next) (λ out s. question-read files formula log next text f l out s q)
