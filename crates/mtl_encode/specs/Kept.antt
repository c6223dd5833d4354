-- The rules of a problem.
use Rattle.std.specs.Prelude.{◌⊎◌, Bool, false, List}
use Rattle.mt_model.specs.Form.{Form}
use Rattle.mt_model.specs.Log.{Logged}
use Rattle.skew_bounds.specs.Tight.{IsConsistent, IsInconsistent}
use Rattle.axiom_rules.specs.declared.rule.Rule.{Rule}
use Rattle.axiom_rules.specs.Sought.{sought_of}
use Rattle.mtl_encode.specs.Listing.{ListsRules}
use Rattle.question.specs.Extremes.{AreExtremes, Extremes}
use Rattle.mtl_encode.specs.Needless.{is_needless}

-- some timing is admissible, and each rule that has a clause and isn't needless by the least and the greatest differences of the log's events
pub record AreNeeded (log : Logged) (f : Form) (v : Bool) (rules : List Rule) : Type 0 where
  pub consistent : IsConsistent log
  pub extremes : Extremes
  pub are : AreExtremes log extremes
  pub lists : ListsRules (sought_of log f v) (is_needless extremes (sought_of log f v)) rules

-- no timing is admissible, and each rule that has a clause
pub record AreAll (log : Logged) (f : Form) (v : Bool) (rules : List Rule) : Type 0 where
  pub inconsistent : IsInconsistent log
  pub lists : ListsRules (sought_of log f v) (λ rule. false) rules

-- the rules that are kept for a log, a formula and a value, once each, in whatever order: where no timing is admissible, nothing is left out
abbrev pub Kept : Logged → Form → Bool → List Rule → Type 0
Kept log f v rules = AreNeeded log f v rules ⊎ AreAll log f v rules
