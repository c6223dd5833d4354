-- A rule that has a clause is spelled.
use Rattle.std.proofs.Common.{◌≡◌, List, Ok}
use Rattle.std.proofs.lemmas.List.Elements.{All-take}
use Rattle.axiom_rules.specs.declared.literal.Literal.{Literal}
use Rattle.axiom_rules.specs.declared.rule.Rule.{Rule}
use Rattle.axiom_rules.specs.Clauses.{argument_count, clause_of}
use Rattle.axiom_rules.specs.Sought.{Sought}
use Rattle.axiom_rules.proofs.UnusedArguments.{unused-zero}
use Rattle.proof_log.specs.Spelled.{IsNumber, IsSpelledRule}
use Rattle.cdcl_core.specs.Recording.{IsRuleInRange}

pub rule-spelled : (s : Sought) (rule : Rule) (c : List Literal) → clause_of s rule ≡ Ok c → IsRuleInRange rule → IsSpelledRule rule
rule-spelled s rule c is range = record {
  number = range.number;
  four = range.four;
  used = All-take IsNumber (argument_count rule.number) rule.args range.each;
  unused = unused-zero s rule c is;
}
