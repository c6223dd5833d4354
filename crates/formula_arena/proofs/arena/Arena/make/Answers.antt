use Rattle.formula_arena.proofs.Walked.{made}
use Rattle.formula_arena.proofs.arena.Arena.make.Goals as goal

pub returns : goal.returns
returns c = made _ _ c.add.ensures c.in_ok-id.was c.requires.held c.in_ok-let_wait.ensures.ok
