-- Which files a command of a formula and a log comes to read: each after the one before it, where no test refused that one.
use Rattle.std.specs.Prelude.{◌≡◌, ◌≤◌, ℕ, List, length, None, Some, Ok, IsSome, IsSomeAnd}
use Rattle.mt_model.specs.Form.{Form, form_of}
use Rattle.mt_model.specs.Log.{Logged}
use Rattle.mt_model.specs.State.{unknown_host}
use Rattle.mt_port.specs.Port.{Files, file_of}
use Rattle.formula_arena.specs.Nodes.{nodes_of}
use Rattle.formula_arena.specs.declared.arena.TheConstants.{MAX_NODES}
use Rattle.log_read.specs.LogOf.{log_of}
use Rattle.mtl_parse.specs.FormulaOf.{FormulaOf}
use Rattle.skew_words.specs.Words.{Word}
use Rattle.skew_commands.specs.declared.formula_and_log.Question.{Question}
use Rattle.skew_commands.specs.declared.limits.TheConstants.{FORMULA_LIMIT, LOG_LIMIT}

-- a third file is held, if the formula's hosts are in the log and its nodes are few
abbrev pub HoldsThird : Files → Word → Form → Logged → Type 0
HoldsThird files third f log = unknown_host log f ≡ None → length (nodes_of f) ≤ MAX_NODES → IsSome (file_of files third)

-- no file comes after the log
abbrev pub NoThird : Form → Logged → Type 0
NoThird f log = Unit {0}

-- the log is held, and if it has no fault then what comes after it
abbrev pub HoldsLog : Files → Word → (Form → Logged → Type 0) → Form → Type 0
HoldsLog files log Next f = IsSomeAnd (file_of files log) (λ file. (l : Logged) → length file ≤ LOG_LIMIT → log_of file ≡ Ok l → Next f l)

-- the formula is held, and if it has no fault then what comes after it
abbrev pub HoldsQuestion : Files → Word → Word → (Form → Logged → Type 0) → Type 0
HoldsQuestion files formula log Next = IsSomeAnd (file_of files formula) (λ text. (f : Form) → length text ≤ FORMULA_LIMIT → FormulaOf text (Ok f) → HoldsLog files log Next f)

-- the formula and the log are held, and a third file after them
abbrev pub HoldsThree : Files → Word → Word → Word → Type 0
HoldsThree files formula log third = HoldsQuestion files formula log (HoldsThird files third)

-- a third file is held after a question that was read
abbrev pub HoldsAfter : Question → Files → Word → Type 0
HoldsAfter q files third = HoldsThird files third (form_of q.formula) q.log

-- a formula and a log were read from files within their limits
pub record IsQuestion (files : Files) (formula log : Word) (text : List ℕ) (f : Form) (l : Logged) : Type 0 where
  pub text_held : file_of files formula ≡ Some text
  pub text_within : length text ≤ FORMULA_LIMIT
  pub formula_read : FormulaOf text (Ok f)
  pub file : List ℕ
  pub file_held : file_of files log ≡ Some file
  pub file_within : length file ≤ LOG_LIMIT
  pub log_read : log_of file ≡ Ok l

-- a question was read from the files of a formula and a log
abbrev pub IsRead : Files → Word → Word → Question → Type 0
IsRead files formula log q = IsQuestion files formula log q.text.items (form_of q.formula) q.log

-- other files that agree with those that are held
abbrev pub Agree : Files → Files → Type 0
Agree held files = (name : Word) → IsSome (file_of held name) → file_of files name ≡ file_of held name
