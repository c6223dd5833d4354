-- Which rules a problem has.
use Rattle.std.specs.Prelude.{◌≡◌, ◌≢◌, Bool, false, List, Ok, All, AllPairs, Contains}
use Rattle.axiom_rules.specs.declared.literal.Literal.{Literal}
use Rattle.axiom_rules.specs.declared.rule.Rule.{Rule}
use Rattle.axiom_rules.specs.Clauses.{clause_of}
use Rattle.axiom_rules.specs.Sought.{Sought}

-- the rule has a clause
abbrev pub HasClause : Sought → Rule → Type 0
HasClause s rule = (c : List Literal) × (clause_of s rule ≡ Ok c)

-- the rule has a clause, and isn't left out
abbrev pub IsKept : Sought → (Rule → Bool) → Rule → Type 0
IsKept s out rule = HasClause s rule × (out rule ≡ false)

-- the list has each such rule once, and no others
pub record ListsRules (s : Sought) (out : Rule → Bool) (rules : List Rule) : Type 0 where
  pub only : All (IsKept s out) rules
  pub once : AllPairs (λ q r. q ≢ r) rules
  pub every : (rule : Rule) (c : List Literal) → clause_of s rule ≡ Ok c → out rule ≡ false → Contains rules rule
