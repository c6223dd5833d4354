use Rattle.std.proofs.Common.{◌≡◌, ◌∙◌, refl}
use Rattle.axiom_rules.specs.Sought.{Sought}
use Rattle.axiom_rules.specs.Shapes.{trees_of}
use Rattle.axiom_rules.proofs.ShapeLemmas.{sought-formula, trees-told}
use Rattle.axiom_rules.proofs.rules.Rules.new.Goals as goal

pub invariant_of-result : goal.invariant_of-result
invariant_of-result c = rw (c.in_ok-copy.ensures.same, trees-told c.args.log.now c.args.arena.now (c.in_ok-shapes.field-0).items c.in_ok-shapes.ensures) c.in_ok-shapes.ensures

-- what it is of, as its copies tell it
abbrev told : goal.In_ok-shapes → Sought
told c = record { log = c.in_ok-copy.field-0; trees = trees_of (c.in_ok-shapes.field-0).items; root = c.args.root; value = c.args.value }

abbrev given : goal.In_ok-shapes → Sought
given c = record { log = c.args.log.now; trees = c.args.arena.now; root = c.args.root; value = c.args.value }

same : (c : goal.In_ok-shapes) → told c ≡ given c
same c = rw (c.in_ok-copy.ensures.same, trees-told c.args.log.now c.args.arena.now (c.in_ok-shapes.field-0).items c.in_ok-shapes.ensures) refl

pub returns : goal.returns
returns c = record {
  rules = same c;
  formula = λ f nodes last. same c ∙ sought-formula (given c) f nodes last;
}
