use Rattle.std.proofs.Common.{arith}
use Rattle.skew_bounds.proofs.Settled.{system-of}
use Rattle.mtl_encode.proofs.encoding.joined.Goals as goal

pub returns-clause-fits : goal.returns-clause-fits
returns-clause-fits c =
    let s = c.args.sought.now in
    let clauses = c.requires.clauses in
    let system = c.requires.system in
    let nodes = rw c.log-2.ensures.log at c.node_count.ensures.count in
    record {
      count = clauses.count;
      clauses = clauses.clauses;
      atoms = clauses.atoms;
      bounds = system.bounds;
      edges = system.edges;
      nodes = nodes;
      system = rw nodes (system-of s.log c.args.system.bounds c.args.system.edges (rw c.log.ensures.log at c.log_is_valid.ensures.valid) system.bounds system.edges system.within);
      few_clauses = omega (arith, c.requires.few_rules, clauses.count);
      few_atoms = c.requires.few_atoms;
    }
