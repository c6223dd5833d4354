use Rattle.std.proofs.Common.{length}
use Rattle.propagate.specs.declared.linked_clauses.LinkedClauses.{LinkedClauses}
use Rattle.propagate.proofs.ClosedLemmas.{closed_grown, settled_closed}
use Rattle.propagate.proofs.FallLemmas.{all_highest, none_last}
use Rattle.propagate.proofs.ReachLemmas.{on_err, told, told_clause, told_edges, told_grown, told_lacks, told_memory, told_not_quiet, told_reasons, told_step, told_theory, told_watched, stop_rewound, unless_quiet}
use Rattle.propagate.proofs.trail.Trail.propagate.Goals as goal

pub returns-in-Ok-clause-closed_at : goal.returns-in-Ok-clause-closed_at
returns-in-Ok-clause-closed_at c = settled_closed c.settle.new.self c.args.db.now c.in-Ok.ensures.reached.work.trail c.in-Ok.ensures.settled

pub returns-in-Ok-clause-highest : goal.returns-in-Ok-clause-highest
returns-in-Ok-clause-highest c =
    let n = length c.args.self.now.watching.watches in
    let progress = c.in-Ok.ensures.reached in
    all_highest c.settle.new.self c.args.db.now n progress.work.trail progress.work.watched c.in-Ok.ensures.propagated (progress.last n (none_last c.args.self.now c.args.db.now))

pub returns-in-Err : goal.returns-in-Err
returns-in-Err c =
    let t = c.args.self.now in
    let s = c.rewind.new.self in
    let clauses : LinkedClauses = record { db = c.args.db; links = c.args.links } in
    let g = c.args.graph.now in
    let h = c.settle.new.graph in
    let r = c.told.result in
    let stopped = stop_rewound c.settle.new.self s clauses t g h c.rewind.ensures.trail c.rewind.ensures.fewer c.rewind.ensures.after c.in-Err.stop c.in-Err.ensures.reached in
    let is = told clauses t g s h r c.in-Err.stop c.told.ensures.told c.told.ensures.memory stopped in
    let grown = told_grown clauses t g s h r is in
    record {
      reasons = told_reasons clauses t g s h r is;
      watched = told_watched clauses t g s h r is;
      grown = grown;
      edges = told_edges clauses t g s h r is;
      quiet = told_not_quiet clauses t g s h r _ is;
      clause_conflict = told_clause clauses t g s h r is;
      theory_conflict = told_theory clauses t g s h r is;
      in_step = told_step clauses t g s h r is;
      lacks_last = told_lacks clauses t g s h r is;
      memory = told_memory clauses t g s h r is;
      closed = λ closed. closed_grown t s clauses.db.now grown closed;
      closed_at = told_not_quiet clauses t g s h r _ is;
      every = told_not_quiet clauses t g s h r _ is;
      highest = told_not_quiet clauses t g s h r _ is;
      propagated = told_not_quiet clauses t g s h r _ is;
      unpropagated = unless_quiet r _ c.rewind.ensures.unpropagated;
      unpropagated_at_want = on_err r _ c.rewind.ensures.unpropagated;
    }
