use Rattle.std.proofs.Common.{◌≡◌, map}
use Rattle.std.specs.List.{range_with_len}
use Rattle.demo_log.specs.DemoLog.{demo_host}
use Rattle.demo_log.proofs.generator.demo_hosts.Given as goal

abbrev pub invariant-loop-place : goal.invariant-loop-place
invariant-loop-place l = l.hosts ≡ map demo_host (range_with_len 0 l.place)
