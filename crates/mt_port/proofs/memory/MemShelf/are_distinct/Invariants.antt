use Rattle.std.proofs.Common.{◌↔◌, drop}
use Rattle.mt_port.specs.Memory.{AreDistinct, named}
use Rattle.mt_port.proofs.memory.MemShelf.are_distinct.Given as goal

abbrev pub invariant-loop-i : goal.invariant-loop-i
invariant-loop-i l = AreDistinct (named l.files) ↔ AreDistinct (named (drop l.i l.files))
