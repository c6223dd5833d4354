use Rattle.std.proofs.Common.{◌≡◌, ◌++◌, map, take}
use Rattle.std.specs.List.{flat_map}
use Rattle.log_read.specs.LogText.{host_fields, line_of}
use Rattle.log_read.proofs.writer.push_hosts.Given as goal

abbrev pub invariant-loop-host : goal.invariant-loop-host
invariant-loop-host l = l.text.items ≡ l.fn.text.items ++ flat_map line_of (map host_fields (take l.host-index l.hosts))
