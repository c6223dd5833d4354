-- What the links and the graph ask for, and what is there before the first conflict.
use Rattle.std.proofs.Common.{◌∙◌, ap, refl, length, arith}
use Rattle.neg_cycle.specs.declared.system.TheConstants.{MAX_NODES}
use Rattle.axiom_rules.specs.Sought.{sought_of}
use Rattle.cdcl_core.proofs.ProblemAtoms.{edges-room, edges-room-one, orders-more}
use Rattle.cdcl_core.proofs.Starts.{posed_orders, run_begun}
use Rattle.cdcl_core.proofs.start.Start.new.Goals as goal

pub links_of-requires : goal.links_of-requires
links_of-requires c =
    let p = c.args.problem.now in
    let posed = c.requires.posed in
    record {
      orders = orders-more p.nodes MAX_NODES p.atoms posed.fits.system.few_nodes (posed_orders c.cores_are_cores.ensures c.nodes_are_subtrees.ensures p posed);
    }

pub graph_of-requires-clause-some : goal.graph_of-requires-clause-some
graph_of-requires-clause-some c =
    let nodes = c.requires.posed.fits.nodes in
    omega (arith, nodes)

pub graph_of-requires-clause-system : goal.graph_of-requires-clause-system
graph_of-requires-clause-system c = rw c.as_slice.ensures.items c.requires.posed.fits.system

pub graph_of-requires-clause-room : goal.graph_of-requires-clause-room
graph_of-requires-clause-room c =
    let posed = c.requires.posed in
    let room = edges-room (sought_of posed.log posed.form posed.value) c.args.problem.now posed.valid posed.fits in
    rw (c.as_slice.ensures.items, c.len-vars.ensures.atoms) room

pub graph_of-requires-2-clause-room : goal.graph_of-requires-2-clause-room
graph_of-requires-2-clause-room c =
    let posed = c.requires.posed in
    rw c.as_slice-2.ensures.items (edges-room-one (sought_of posed.log posed.form posed.value) c.args.problem.now posed.valid posed.fits)

pub graph_of-requires-clause-solvable : goal.graph_of-requires-clause-solvable
graph_of-requires-clause-solvable c = rw c.as_slice.ensures.items c.requires.posed.solvable

pub returns : goal.returns
returns c =
    let p = c.args.problem.now in
    let vars = c.in_ok-trail.ensures.vars in
    let atoms = c.len-vars.ensures.atoms in
    record {
      links = c.in_ok-links.ensures.links;
      all_links = c.in_ok-links.ensures.all;
      vars = rw (vars, atoms) refl;
      nodes = c.in_ok-graph.ensures.nodes;
      room = let room = c.in_ok-graph.ensures.capacity in omega (arith, rw (c.as_slice.ensures.items, atoms) at room);
      ground =
          let made = c.in_ok-bounds.ensures in
          let taken = c.in_ok-ground.ensures in
          let items = c.as_slice-2.ensures.items in
          record {
            nodes = taken.nodes ∙ made.nodes;
            edges = taken.edges ∙ made.edges ∙ items;
            room = let capacity = made.capacity in let whole = taken.capacity in let same = ap length items in omega (arith, capacity, whole, same);
          };
      run = run_begun c.cores_are_cores.ensures c.nodes_are_subtrees.ensures p c.requires.posed c.new_trail_is_in_step.ensures.law
          c.in_ok-links.links c.in_ok-trail.trail c.in_ok-graph.graph c.in_ok-links.ensures.links (rw (vars, atoms) refl)
          c.in_ok-trail.ensures.none c.in_ok-trail.ensures.level c.in_ok-trail.ensures.unwatched c.trails_are_in_order.ensures.trail
          c.in_ok-graph.ensures.nodes (rw c.in_ok-graph.ensures.edges c.as_slice.ensures.items);
    }
