use Rattle.std.proofs.Common.{arith}
use Rattle.formula_arena.proofs.Tables.{few-entries, few-nodes}
use Rattle.formula_arena.proofs.arena.Arena.props.Goals as goal

pub overflow_cast-result : goal.overflow_cast-result
overflow_cast-result c =
    omega (arith, c.len.ensures.len, few-entries c.self.inside.props.entries c.self.inside.nodes.keys c.self.invariant, few-nodes c.self.inside.props.entries c.self.inside.nodes.keys c.self.invariant)
