use Rattle.std.proofs.Common.{◌≡◌, ◌++◌, drop, map, take}
use Rattle.mt_model.specs.Log.{widened_host}
use Rattle.mt_model.proofs.widening.widen_hosts.Given as goal

abbrev pub invariant-loop-host : goal.invariant-loop-host
invariant-loop-host l = l.hosts ≡ map (widened_host l.s) (take l.host-index l.initial.hosts) ++ drop l.host-index l.initial.hosts
