use Rattle.std.proofs.Common.{◌≡◌, take}
use Rattle.mt_model.proofs.log.copy_hosts.Given as goal

abbrev pub invariant-loop-host : goal.invariant-loop-host
invariant-loop-host l = l.list ≡ take l.host-index l.hosts
