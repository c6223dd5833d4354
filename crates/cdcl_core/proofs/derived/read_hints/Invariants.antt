use Rattle.std.proofs.Common.{◌≡◌, map, take}
use Rattle.cdcl_core.specs.Recording.{cite_at}
use Rattle.cdcl_core.proofs.derived.read_hints.Given as goal

abbrev pub invariant-loop-clause : goal.invariant-loop-clause
invariant-loop-clause l = l.hints ≡ map (cite_at l.cites) (take l.clause-index l.refs)
