-- Which files a command opens, as far as a shelf tells its openings, and after which tests.
use Rattle.std.specs.Prelude.{◌≡◌, ◌⊎◌, ◌≤◌, ℕ, List, [], ◌∷◌, length, take, None, Some, Ok}
use Rattle.mt_model.specs.Form.{Form}
use Rattle.mt_model.specs.Log.{Logged}
use Rattle.mt_model.specs.State.{unknown_host}
use Rattle.mt_port.specs.Port.{Files, Openings, Opens, file_of}
use Rattle.formula_arena.specs.Nodes.{nodes_of}
use Rattle.formula_arena.specs.declared.arena.TheConstants.{MAX_NODES}
use Rattle.mtl_parse.specs.FormulaOf.{FormulaOf}
use Rattle.skew_words.specs.Words.{Word}
use Rattle.skew_commands.specs.declared.limits.TheConstants.{FORMULA_LIMIT}
use Rattle.skew_commands.specs.Reads.{IsQuestion}

-- the first few of these are opened, in this order and each once, or all or none of them, and nothing else
abbrev pub OpensAtMost : List Word → Openings → Openings → Type 0
OpensAtMost names before now = (count : ℕ) × Opens (take count names) before now

-- more than these are opened only where tests were passed
abbrev pub OpensMoreOnly : List Word → Type 0 → Openings → Openings → Type 0
OpensMoreOnly names Passed before now = OpensAtMost names before now ⊎ Passed

-- the tests before the log: the formula's file is held, within its limit, and its text is a formula
pub record PassesFormula (files : Files) (formula : Word) : Type 0 where
  pub text : List ℕ
  pub held : file_of files formula ≡ Some text
  pub within : length text ≤ FORMULA_LIMIT
  pub f : Form
  pub reads : FormulaOf text (Ok f)

-- the log's file is opened only where the tests before it were passed
abbrev pub OpensLogInTurn : Files → Word → Openings → Openings → Type 0
OpensLogInTurn files formula = OpensMoreOnly (formula ∷ []) (PassesFormula files formula)

-- the tests between the log and a third file: the formula's hosts are in the log, and its nodes are few
abbrev pub PassesHosts : Form → Logged → Type 0
PassesHosts f l = (unknown_host l f ≡ None) × (length (nodes_of f) ≤ MAX_NODES)

-- all tests before a third file
pub record PassesQuestion (files : Files) (formula log : Word) : Type 0 where
  pub text : List ℕ
  pub f : Form
  pub l : Logged
  pub read : IsQuestion files formula log text f l
  pub hosts : PassesHosts f l

-- more than a formula's file, and more than this and a log's after it, are opened only where the tests before were passed
pub record OpensInTurn (files : Files) (formula log : Word) (before now : Openings) : Type 0 where
  pub second : OpensLogInTurn files formula before now
  pub third : OpensMoreOnly (formula ∷ log ∷ []) (PassesQuestion files formula log) before now
