use Rattle.std.proofs.Common.{◌≡◌, ◌∙◌, arith, ap, refl, sym, ℕ, ◌+◌, ◌<◌, List, length, take, pos}
use Rattle.std.proofs.lemmas.List.{length-take-le, take_all, take_more}
use Rattle.std.proofs.lemmas.List.Elements.{All-take}
use Rattle.neg_cycle.specs.declared.system.Edge.{Edge}
use Rattle.neg_cycle.specs.Systems.{Meets}
use Rattle.difference_graph.specs.Graphs.{HasSolution}
use Rattle.cdcl_core.proofs.difference.graph_of.Goals as goal

-- the first edges of those that have a solution have one
front_solvable : (nodes : ℕ) (edges : List Edge) (n : ℕ) → HasSolution nodes edges → HasSolution nodes (take n edges)
front_solvable nodes edges n some = record {
  numbers = some.numbers;
  potential = record { count = some.potential.count; meets = All-take (Meets some.numbers) n edges some.potential.meets };
}

pub unreachable-requires : goal.unreachable-requires
unreachable-requires c =
    let edges = c.args.edges.now in
    let i = c.loop-edge.edge-index in
    let within : i < length edges = c.loop-edge-test.true in
    let more = take_more edges i (record { from = 0; to = 0; bound = pos 0 }) within in
    c.in-Cycle.ensures.refused.0 refl (rw (c.loop-edge.invariant.nodes, c.loop-edge.invariant.held, ← more) (front_solvable c.args.nodes edges (i + 1) c.requires.solvable))

pub loop-edge-init : goal.loop-edge-init
loop-edge-init c =
    let new = c.in_ok-graph.ensures in
    record { nodes = new.nodes ∙ ap length c.deref.ensures.value ∙ c.in_ok-numbers.ensures.count; capacity = new.capacity; held = new.none }

pub push-requires : goal.push-requires
push-requires c =
    let loop = c.loop-edge.invariant in
    let i = c.loop-edge.edge-index in
    let within : i < length c.args.edges.now = c.loop-edge-test.true in
    let held : length c.loop-edge.graph.edges ≡ i = ap length loop.held ∙ length-take-le i c.args.edges.now (omega (arith, within)) in
    record {
      edge = rw loop.nodes (c.requires.system.each i _ within);
      room = let capacity = loop.capacity in omega (arith, held, capacity, within);
    }

pub loop-edge-preserved : goal.loop-edge-preserved
loop-edge-preserved c =
    let loop = c.loop-edge.invariant in
    let i = c.loop-edge.edge-index in
    let within : i < length c.args.edges.now = c.loop-edge-test.true in
    let kept = c.in-Kept.ensures in
    record {
      nodes = kept.limits.nodes ∙ loop.nodes;
      capacity = kept.limits.capacity ∙ loop.capacity;
      held = kept.added ∙ rw loop.held (sym (take_more c.args.edges.now i (record { from = 0; to = 0; bound = pos 0 }) within));
    }

pub returns : goal.returns
returns c =
    let loop = c.loop-edge.invariant in
    record { nodes = loop.nodes; capacity = loop.capacity; edges = loop.held ∙ take_all c.loop-edge.edge-index c.args.edges.now c.loop-edge-test.false }
