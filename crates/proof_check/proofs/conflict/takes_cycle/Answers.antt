use Rattle.std.proofs.Common.{length, sym}
use Rattle.std.specs.List.{flat_map}
use Rattle.mt_model.specs.Walks.{edge_of}
use Rattle.proof_log.specs.LinesText.{step_words}
use Rattle.proof_check.proofs.WalkLemmas.{conflict_none, conflict_some}
use Rattle.proof_check.proofs.conflict.takes_cycle.Goals as goal

pub returns-then-not-is_negative_cycle-clause-conflict : goal.returns-then-not-is_negative_cycle-clause-conflict
returns-then-not-is_negative_cycle-clause-conflict c = λ steps spelled is.
    let first = c.read_count-count.ensures.number (length steps) (flat_map step_words steps) spelled.count is in
    let found = rw c.in-Some.is at (c.in_ok-walk.ensures.walked steps spelled (sym first.0) first.1) in
    conflict_none c.args.rules.now.log steps c.is_negative_cycle.result (c.is_negative_cycle.ensures (edge_of c.args.rules.now.log) steps found.0) c.if-not-is_negative_cycle.true

pub returns-clause-conflict : goal.returns-clause-conflict
returns-clause-conflict c = λ steps spelled is.
    let first = c.read_count-count.ensures.number (length steps) (flat_map step_words steps) spelled.count is in
    let found = rw c.in-Some.is at (c.in_ok-walk.ensures.walked steps spelled (sym first.0) first.1) in
    conflict_some c.args.rules.now.log steps c.is_negative_cycle.result (c.is_negative_cycle.ensures (edge_of c.args.rules.now.log) steps found.0) c.if-not-is_negative_cycle.false
