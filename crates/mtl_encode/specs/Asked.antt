-- Instances of rules, each once.
use Rattle.std.specs.Prelude.{◌≡◌, ◌≢◌, ◌^◌, ◌≤◌, length, map, AllPairs}
use Rattle.axiom_rules.specs.declared.rule.Rule.{Rule}
use Rattle.axiom_rules.specs.Sought.{Sought}
use Rattle.mtl_encode.specs.declared.clauses.Clauses.{Clauses}
use Rattle.mtl_encode.specs.declared.held.Held.{Held}
use Rattle.mtl_encode.specs.declared.held.Instance.{Instance}
use Rattle.mtl_encode.specs.Growth.{AreClauses}

-- the instance of a rule, as it is looked up
abbrev pub instance_of : Rule → Instance
instance_of rule = record { number = rule.number; args = rule.args }

-- the clauses are those of rules, each once, and aren't too many
pub record AreAsked (s : Sought) (listed : Clauses) : Type 0 where
  pub clauses : AreClauses s listed
  pub once : AllPairs (λ q r. q ≢ r) listed.rules
  pub few_rules : length listed.rules ≤ 2 ^ 29
  pub few_atoms : length listed.atoms ≤ 2 ^ 29

-- and the rules are those that are looked up
pub record IsHeld (s : Sought) (held : Held) : Type 0 where
  pub are : AreAsked s held.clauses
  pub instances : held.instances.keys ≡ map instance_of held.clauses.rules
