use Rattle.json_log.specs.Entries.{host_records}
use Rattle.json_log.proofs.Adding.{IsAddedUpTo}
use Rattle.json_log.proofs.records.add_hosts.Given as goal

abbrev pub invariant-loop-host : goal.invariant-loop-host
invariant-loop-host l = IsAddedUpTo host_records l.hosts l.host-index l.fn.records l.records
