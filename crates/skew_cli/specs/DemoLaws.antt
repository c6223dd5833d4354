-- What the summaries of `demo` say of the values that its formula can have.
use Rattle.std.specs.Prelude.{◌≡◌, ℕ, List, Bool, IsTrue}
use Rattle.question.specs.Faults.{IsJudged}
use Rattle.cdcl_core.specs.Spent.{CanBeSpent}
use Rattle.skew_words.specs.declared.limits.TheConstants.{DEFAULT_CONFLICTS}
use Rattle.skew_answers.specs.declared.status.Status.{Status}
use Rattle.skew_answers.specs.declared.status.Status.TheVariants as status
use Rattle.demo_log.specs.DemoFormula.{demo_formula}
use Rattle.demo_log.specs.DemoLog.{log_of_seed}
use Rattle.skew_cli.specs.DemoOutcome.{DemoOutcome}
use Rattle.skew_cli.specs.Laws.{HasExactWitnesses, IsStatusOfValues, leaves_unknown}

-- no test refuses the formula of the demo for a seed: its hosts are in the log, and its nodes and the size are within their limits
abbrev pub DemosAreJudged : Type 0
DemosAreJudged = (seed : ℕ) → IsJudged (log_of_seed seed) demo_formula

-- the witnesses and the status of the report that a summary is of are those of the values that the formula can have; it can have one, so that the status isn't Inconsistent
pub record IsExactDemo (seed : ℕ) (out : List ℕ) (s : Status) : Type 0 where
  pub demo : DemoOutcome seed out s
  pub consistent : s ≡ status.Inconsistent → ⊥
  pub witnesses : HasExactWitnesses (log_of_seed seed) demo_formula demo.report
  pub status : IsStatusOfValues (log_of_seed seed) demo_formula demo.report s

-- `demo` answers which values the formula can have, and nothing else
abbrev pub DemosAreExact : Type 0
DemosAreExact = (seed : ℕ) (out : List ℕ) (s : Status) → DemoOutcome seed out s → IsExactDemo seed out s

-- what `demo` leaves unknown, the rules of its log and formula and the value allow to be left unknown after its conflicts
abbrev pub DemoUnknownIsBounded : Type 0
DemoUnknownIsBounded =
    (seed : ℕ) (out : List ℕ) (s : Status) (demo : DemoOutcome seed out s) (v : Bool) → IsTrue (leaves_unknown demo.report v) → CanBeSpent (log_of_seed seed) demo_formula v DEFAULT_CONFLICTS
