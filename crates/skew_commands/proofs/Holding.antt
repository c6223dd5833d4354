-- Which files are held, after those that were read.
use Rattle.std.proofs.Common.{◌≡◌, ◌≤◌, ℕ, List, length, Option, Some, None, Ok, refl}
use Rattle.std.specs.Prelude.{IsSome, IsSomeAnd}
use Rattle.mt_model.specs.Form.{Form}
use Rattle.mt_model.specs.Log.{Logged}
use Rattle.mt_port.specs.Port.{Files, file_of}
use Rattle.log_read.specs.LogOf.{log_of}
use Rattle.mtl_parse.specs.FormulaOf.{FormulaOf}
use Rattle.skew_words.specs.Words.{Word}
use Rattle.skew_commands.specs.declared.limits.TheConstants.{FORMULA_LIMIT, LOG_LIMIT}
use Rattle.skew_commands.specs.Reads.{HoldsLog, HoldsQuestion, IsQuestion, NoThird}

some-more : {X : Type 0} (o : Option X) (P Q : X → Type 0) → ((x : X) → P x → Q x) → IsSomeAnd o P → IsSomeAnd o Q
some-more None P Q more h = h
some-more (Some x) P Q more h = more x h

some-only : {X : Type 0} (o : Option X) (P : X → Type 0) → IsSomeAnd o P → IsSome o
some-only None P h = absurd h
some-only (Some x) P h = refl

module _ (files : Files) (formula log : Word) (Next : Form → Logged → Type 0) where
  -- the formula and the log are held, whatever comes after them
  pub question-held : HoldsQuestion files formula log Next → HoldsQuestion files formula log NoThird
  question-held =
      some-more (file_of files formula) (λ text. (f : Form) → length text ≤ FORMULA_LIMIT → FormulaOf text (Ok f) → HoldsLog files log Next f)
      (λ text. (f : Form) → length text ≤ FORMULA_LIMIT → FormulaOf text (Ok f) → HoldsLog files log NoThird f)
      (λ text h f within reads. some-more (file_of files log) (λ file. (l : Logged) → length file ≤ LOG_LIMIT → log_of file ≡ Ok l → Next f l)
      (λ file. (l : Logged) → length file ≤ LOG_LIMIT → log_of file ≡ Ok l → NoThird f l) (λ file k l fits is. tt) (h f within reads))

  -- what comes after a formula and a log that were read
  pub next-held : (text : List ℕ) (f : Form) (l : Logged) → IsQuestion files formula log text f l → HoldsQuestion files formula log Next → Next f l
  next-held text f l q h =
      let on_text : (f : Form) → length text ≤ FORMULA_LIMIT → FormulaOf text (Ok f) → HoldsLog files log Next f = rw q.text_held at h in
      let on_file : (l : Logged) → length q.file ≤ LOG_LIMIT → log_of q.file ≡ Ok l → Next f l = rw q.file_held at (on_text f q.text_within q.formula_read) in
      on_file l q.file_within q.log_read

  -- and the log, once the formula is read
  pub log-held : (text : List ℕ) (f : Form) → file_of files formula ≡ Some text → length text ≤ FORMULA_LIMIT → FormulaOf text (Ok f)
      → HoldsQuestion files formula log Next → IsSome (file_of files log)
  log-held text f is within reads h =
      let on_text : (f : Form) → length text ≤ FORMULA_LIMIT → FormulaOf text (Ok f) → HoldsLog files log Next f = rw is at h in
      some-only (file_of files log) (λ file. (l : Logged) → length file ≤ LOG_LIMIT → log_of file ≡ Ok l → Next f l) (on_text f within reads)
