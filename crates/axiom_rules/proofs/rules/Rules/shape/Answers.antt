use Rattle.std.proofs.Common.{subst, ap, ◌∙◌}
use Rattle.std.specs.Prelude.{slice_get}
use Rattle.axiom_rules.proofs.Lookups.{got-item}
use Rattle.axiom_rules.specs.Shapes.{AreShapes}
use Rattle.axiom_rules.proofs.ShapeLemmas.{shape-read}
use Rattle.axiom_rules.proofs.rules.Rules.shape.Goals as goal

pub returns : goal.returns
returns c =
    let are = subst (λ s. AreShapes s.log s.trees (c.self.inside).shapes.items) c.self.view_is c.self.invariant in
    shape-read c.args.self.now (c.self.inside).shapes.items are c.args.k _
    (got-item (c.deref.result).now c.args.k c.get.result (c.get.ensures.lookup.0, c.get.ensures.lookup.1) ∙ ap (λ xs. slice_get xs c.args.k) c.deref.ensures.value)
