use Rattle.std.proofs.Common.{◌≡◌, drop}
use Rattle.axiom_rules.specs.Clauses.{are_there}
use Rattle.axiom_rules.proofs.rules.Rules.are_there.Given as goal

abbrev pub invariant-loop-i : goal.invariant-loop-i
invariant-loop-i l = are_there l.self (drop l.i l.arguments) (drop l.i l.args) ≡ are_there l.self l.arguments l.args
