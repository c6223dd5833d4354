use Rattle.std.proofs.Common.{◌≡◌, length, map}
use Rattle.std.specs.Prelude.{All, true}
use Rattle.happened_before.specs.Causes.{causes_of_rows}
use Rattle.happened_before.specs.Order.{IsOrderOf}
use Rattle.happened_before.specs.Progress.{AreClocks}
use Rattle.happened_before.proofs.BuildLemmas.{causes-few, causes-hosts, causes-whole, is-cycle, is-cyclic, is-order, covers-hosts}
use Rattle.happened_before.proofs.order.Order.build.Goals as goal
use Rattle.happened_before.proofs.order.Order.build.Goals.{In-None}

pub finish_all-requires-clause-whole : goal.finish_all-requires-clause-whole
finish_all-requires-clause-whole c = rw (c.deref-2.ensures.value, c.in_ok-table.ensures) (causes-whole c.args.log.now c.previous_row_is_last.ensures)

pub finish_all-requires-clause-count : goal.finish_all-requires-clause-count
finish_all-requires-clause-count c = rw (c.deref.ensures.value, c.deref-2.ensures.value, c.in_ok-hosts.ensures, c.in_ok-table.ensures) (causes-hosts c.args.log.now)

pub finish_all-requires-clause-few : goal.finish_all-requires-clause-few
finish_all-requires-clause-few c = rw (c.deref-2.ensures.value, c.in_ok-table.ensures) (causes-few c.args.log.now c.hosts.ensures.valid)

pub cycle-requires-clause-few : goal.cycle-requires-clause-few
cycle-requires-clause-few c = rw (c.deref-in-Some.ensures.value, c.in_ok-table.ensures) (causes-few c.args.log.now c.hosts.ensures.valid)

pub cycle-requires-clause-whole : goal.cycle-requires-clause-whole
cycle-requires-clause-whole c = rw (c.deref-in-Some.ensures.value, c.in_ok-table.ensures) (causes-whole c.args.log.now c.previous_row_is_last.ensures)

-- the clocks are those of the log's rows, and all are finished
made : (c : In-None)
    → AreClocks (length c.args.log.now.hosts) (map (λ r. r.host) c.args.log.now.rows) (causes_of_rows c.args.log.now) c.in_ok-progress.progress.finished.items c.in_ok-progress.progress.clocks.items
made c = rw (c.hosts.ensures.same, c.deref.ensures.value, c.in_ok-hosts.ensures, c.deref-2.ensures.value, c.in_ok-table.ensures) at c.in_ok-progress.ensures.progress

all : (c : In-None) → All (λ f. f ≡ true) c.in_ok-progress.progress.finished.items
all c = rw c.deref-3.ensures.value at c.in-None.ensures.none

pub invariant_of-result : goal.invariant_of-result
invariant_of-result c =
    let p = c.in_ok-progress.progress in
    rw c.in_ok-hosts.ensures (covers-hosts c.args.log.now c.previous_row_is_last.ensures c.hosts.ensures.valid p.finished.items p.clocks.items (all c) (made c))

order : (c : In-None) → IsOrderOf c.args.log.now (record { hosts = c.in_ok-hosts.hosts.items; clocks = c.in_ok-progress.progress.clocks.items })
order c =
    let p = c.in_ok-progress.progress in
    rw c.in_ok-hosts.ensures (is-order c.args.log.now c.previous_row_is_last.ensures c.hosts.ensures.valid p.finished.items p.clocks.items (all c) (made c))

pub returns-in-None-clause-order : goal.returns-in-None-clause-order
returns-in-None-clause-order c = order (goal.at.returns-in-None-clause-order c).In-None

pub returns-in-None-clause-acyclic : goal.returns-in-None-clause-acyclic
returns-in-None-clause-acyclic c = (order (goal.at.returns-in-None-clause-acyclic c).In-None).acyclic

pub returns-in_ok-cycle-in-Some-clause-cycle : goal.returns-in_ok-cycle-in-Some-clause-cycle
returns-in_ok-cycle-in-Some-clause-cycle c =
    let causal = rw (c.deref-in-Some.ensures.value, c.in_ok-table.ensures) at c.in_ok-cycle-in-Some.ensures.cycle in
    is-cycle c.args.log.now c.in_ok-cycle-in-Some.field-0 causal

pub returns-in_ok-cycle-in-Some-clause-cyclic : goal.returns-in_ok-cycle-in-Some-clause-cyclic
returns-in_ok-cycle-in-Some-clause-cyclic c =
    let causal = rw (c.deref-in-Some.ensures.value, c.in_ok-table.ensures) at c.in_ok-cycle-in-Some.ensures.cycle in
    is-cyclic c.args.log.now c.in_ok-cycle-in-Some.field-0 (is-cycle c.args.log.now c.in_ok-cycle-in-Some.field-0 causal)
