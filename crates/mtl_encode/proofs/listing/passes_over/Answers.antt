use Rattle.std.proofs.Common.{◌≡◌, refl, Bool, true, false, Option, Some, None}
use Rattle.std.specs.Prelude.{is_some, not}
use Rattle.axiom_rules.specs.NodeShapes.{reach_in, shape_at}
use Rattle.mtl_encode.proofs.listing.passes_over.Goals as goal

is-none : {X : Type 0} (o : Option X) (b : Bool) → b ≡ is_some o → not b ≡ true → o ≡ None
is-none None b is fails = refl
is-none (Some x) b is fails = absurd (let false-is : false ≡ true = rw is at fails in cc)

pub returns-then-is_of_reach-clause-no_reach : goal.returns-then-is_of_reach-clause-no_reach
returns-then-is_of_reach-clause-no_reach c = λ told. is-none (reach_in (shape_at c.args.rules.now c.args.node)) c.is_reach.result c.is_reach.ensures.reach told
