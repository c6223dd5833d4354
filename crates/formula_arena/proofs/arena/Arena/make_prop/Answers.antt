use Rattle.formula_arena.proofs.Walked.{made}
use Rattle.formula_arena.proofs.arena.Arena.make_prop.Goals as goal

pub returns : goal.returns
returns c = made _ _ c.add_prop.ensures c.in_ok-id.was c.requires c.in_ok-let_wait.ensures.ok
