use Rattle.log_read.specs.LogText.{host_fields}
use Rattle.log_read.proofs.PushedLines.{pushed-line}
use Rattle.log_read.proofs.writer.push_hosts.Goals as goal

pub loop-host-preserved : goal.loop-host-preserved
loop-host-preserved c =
    pushed-line host_fields c.args.hosts.now c.loop-host.host-index c.host-item.result c.args.text.now.items c.loop-host.text.items c.push_host.new.text.items
    c.loop-host-test.true c.host-item.is c.loop-host.invariant c.in_ok-push_host.ensures
