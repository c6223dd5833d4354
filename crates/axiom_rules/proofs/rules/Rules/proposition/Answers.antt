use Rattle.std.proofs.Common.{◌≡◌, Some, rules}
use Rattle.axiom_rules.specs.NodeShapes.{proposition_in, shape_at}
use Rattle.axiom_rules.proofs.ChangeCases.{proposition-rows}
use Rattle.axiom_rules.proofs.rules.Rules.proposition.Goals as goal

pub returns-in-Some-Prop-clause-rising : goal.returns-in-Some-Prop-clause-rising
returns-in-Some-Prop-clause-rising c =
    let found : proposition_in (shape_at c.args.self.now c.args.k) ≡ Some c.in-Some-Prop.rows = search rules in
    (proposition-rows c.args.self.now c.args.k c.in-Some-Prop.rows found).rising
