use Rattle.std.proofs.Common.{arith}
use Rattle.std.proofs.lemmas.Result.{err_from_is_err_and}
use Rattle.serde_json.specs.View.{items_view, view}
use Rattle.json_log.specs.Entries.{host_records}
use Rattle.json_log.specs.JsonLogOf.{records_in}
use Rattle.json_log.proofs.Adding.{all-added, none-left, nothing-added, one-more, stops-whole}
use Rattle.json_log.proofs.records.add_hosts.Goals as goal

pub loop-host-init : goal.loop-host-init
loop-host-init c = nothing-added host_records c.args.hosts.now c.args.records.now

pub returns-in_err-add_host : goal.returns-in_err-add_host
returns-in_err-add_host c =
    let p = err_from_is_err_and c.from_residual.result c.from_residual.ensures.1 in
    let none = none-left host_records c.args.hosts.now c.loop-host.host-index c.host-item.result c.loop-host-test.true c.host-item.is c.args.records.now c.loop-host.records c.loop-host.invariant in
    rw (p.1, p.2) (stops-whole (host_records (view c.host-item.result)) (records_in host_records (items_view c.args.hosts.now)) c.in_err-add_host.field-0.0 none c.in_err-add_host.ensures)

pub loop-host-preserved : goal.loop-host-preserved
loop-host-preserved c =
    let added = c.in_ok-add_host.ensures in
    one-more host_records c.args.hosts.now c.loop-host.host-index c.host-item.result c.loop-host-test.true c.host-item.is c.args.records.now c.loop-host.records
    c.loop-host.invariant added.0 c.add_host.new.records added.1 added.2

pub returns : goal.returns
returns c = all-added host_records c.args.hosts.now c.loop-host.host-index c.args.records.now c.loop-host.records (omega (arith, c.loop-host-test.false)) c.loop-host.invariant
