use Rattle.std.proofs.Common.{◌≡◌, take}
use Rattle.std.specs.Prelude.{All}
use Rattle.difference_graph.specs.Graphs.{HasSameLimits}
use Rattle.cdcl_core.specs.Recording.{IsSettled, cite_at}
use Rattle.cdcl_core.specs.Settling.{HasSettled}
use Rattle.cdcl_core.proofs.settling.settle_all.Given as goal

abbrev pub invariant-loop-clause : goal.invariant-loop-clause
invariant-loop-clause l = record {
  limits : HasSameLimits l.fn.ground l.ground;
  edges : l.ground.edges ≡ l.fn.ground.edges;
  settled : HasSettled l.theory.atoms l.theory.bounds l.fn.ground.edges l.fn.derived l.derived;
  done : All (λ c. IsSettled (cite_at l.derived.cites c)) (take l.clause-index l.clauses);
  none : All IsSettled l.fn.derived.cites → l.derived ≡ l.fn.derived;
}
