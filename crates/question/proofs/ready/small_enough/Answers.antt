use Rattle.std.proofs.Common.{arith}
use Rattle.formula_arena.specs.Nodes.{nodes_of}
use Rattle.question.proofs.ready.small_enough.Goals as goal

-- the size that was found is the only one
pub returns-then-size-le-MAX_SIZE-clause-judged : goal.returns-then-size-le-MAX_SIZE-clause-judged
returns-then-size-le-MAX_SIZE-clause-judged c = record {
  nodes = c.question_is_asked.ensures.few;
  small = λ n is.
      let found = rw (c.log-2.ensures.log, c.arena.ensures.nodes, c.nodes.ensures.form) at c.size_of-size.ensures.size in
      let same = c.sizes_are_unique.ensures.unique c.args.question.now.log (nodes_of c.args.question.now.form) n c.size_of-size.result is found in
      omega (arith, same);
}
