-- Where an atom stands in what the rules write.
use Rattle.std.specs.Prelude.{◌≡◌, List, Any, Ok}
use Rattle.axiom_rules.specs.declared.literal.Atom.{Atom}
use Rattle.axiom_rules.specs.declared.literal.Literal.{Literal}
use Rattle.axiom_rules.specs.declared.rule.Rule.{Rule}
use Rattle.axiom_rules.specs.Clauses.{clause_of}
use Rattle.axiom_rules.specs.Sought.{Sought}

-- the atom stands in the clause of some rule
pub record OccursInRules (s : Sought) (a : Atom) : Type 0 where
  pub rule : Rule
  pub clause : List Literal
  pub is_clause : clause_of s rule ≡ Ok clause
  pub stands : Any (λ l. l.atom ≡ a) clause
