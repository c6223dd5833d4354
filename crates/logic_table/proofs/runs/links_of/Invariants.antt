use Rattle.std.proofs.Common.{◌≡◌, length}
use Rattle.propagate.specs.Steps.{IsLinked}
use Rattle.logic_table.proofs.runs.links_of.Given as goal

abbrev pub invariant-loop-linked : goal.invariant-loop-linked
invariant-loop-linked l = record { linked : IsLinked l.trail l.links l.graph; count : length l.links ≡ l.vars }
