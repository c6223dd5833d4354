use Rattle.std.proofs.Common.{◌≡◌, true}
use Rattle.text_table.proofs.devices.reads.Given as goal

abbrev pub invariant-reads : goal.invariant-reads
invariant-reads l = l.shelf.is_open ≡ true
