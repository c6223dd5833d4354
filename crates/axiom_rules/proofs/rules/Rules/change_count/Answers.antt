use Rattle.std.proofs.Common.{◌≡◌, ap, subst, Some, arith, rules}
use Rattle.mt_model.specs.Log.{IsLog}
use Rattle.axiom_rules.specs.NodeShapes.{proposition_in, shape_at}
use Rattle.axiom_rules.specs.Sought.{Sought}
use Rattle.axiom_rules.proofs.ChangeCases.{proposition-rows}
use Rattle.axiom_rules.proofs.rules.Rules.change_count.Goals as goal

pub overflow_cast-result : goal.overflow_cast-result
overflow_cast-result c =
    let same : c.self.inside.log ≡ c.args.self.now.log = ap (λ (s : Sought). s.log) c.self.view_is in
    let valid : IsLog c.args.self.now.log = subst IsLog same c.log_is_valid.ensures.valid in
    let found : proposition_in (shape_at c.args.self.now c.args.k) ≡ Some c.in-Some-Prop.rows = search rules in
    omega (arith, (proposition-rows c.args.self.now c.args.k c.in-Some-Prop.rows found).few_changes, c.len.ensures.count, valid.few_rows)
