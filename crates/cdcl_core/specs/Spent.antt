-- Which budgets can be spent.
use Rattle.std.specs.Prelude.{ℕ, ◌<◌, ◌^◌, Bool, List, length, Contains}
use Rattle.mt_model.specs.Form.{Form}
use Rattle.mt_model.specs.Log.{Logged}
use Rattle.axiom_rules.specs.declared.literal.Atom.{Atom}
use Rattle.axiom_rules.specs.declared.rule.Rule.{Rule}
use Rattle.axiom_rules.specs.Occurs.{OccursInRules}
use Rattle.axiom_rules.specs.Sought.{sought_of}
use Rattle.mtl_encode.specs.Kept.{Kept}
use Rattle.proof_log.specs.FreshLaws.{IsRefutedByRules}

-- the budget is below three to the power of the number of atoms that stand in clauses of rules, and unit propagation over
-- the clauses of the rules that are kept, with nothing assumed, doesn't reach a false one
pub record CanBeSpent (log : Logged) (f : Form) (v : Bool) (budget : ℕ) : Type 0 where
  pub bounded : (atoms : List Atom) → ((a : Atom) → OccursInRules (sought_of log f v) a → Contains atoms a) → budget < 3 ^ length atoms
  pub not_refuted : (rules : List Rule) → Kept log f v rules → IsRefutedByRules (sought_of log f v) rules → ⊥
