use Rattle.skew_bounds.proofs.BoundCounts.{all-have}
use Rattle.skew_bounds.proofs.system.system_of.Goals as goal

pub edges_of-requires : goal.edges_of-requires
edges_of-requires c = rw (c.as_slice.ensures.items, c.in_ok-bounds.ensures.list) (all-have c.args.log.now c.log_is_valid.ensures.valid)

pub returns : goal.returns
returns c = record {
  system = record {
    bounds = c.in_ok-bounds.ensures.list;
    edges = rw (c.as_slice.ensures.items) at c.in_ok-edges.ensures.edges;
    within = c.in_ok-edges.ensures.within;
    readings = c.in_ok-readings.ensures.readings;
  };
}
