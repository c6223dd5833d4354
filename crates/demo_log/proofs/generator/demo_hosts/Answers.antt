use Rattle.demo_log.specs.DemoLog.{demo_host}
use Rattle.demo_log.proofs.SeedLogs.{made-more}
use Rattle.demo_log.proofs.generator.demo_hosts.Goals as goal

pub loop-place-preserved : goal.loop-place-preserved
loop-place-preserved c = made-more demo_host c.loop-place.place c.loop-place.hosts c.push.new.self c.in_ok-demo_host.field-0 c.loop-place.invariant c.in_ok-demo_host.ensures c.in_ok-push.ensures.ok
