use Rattle.std.proofs.Common.{◌-◌}
use Rattle.least_skew.specs.Brackets.{IsBracket}
use Rattle.least_skew.proofs.finding.search_least.Given as goal

abbrev pub invariant-loop-bracket : goal.invariant-loop-bracket
invariant-loop-bracket l = IsBracket l.aim l.max l.bracket

abbrev pub decreases-loop-bracket : goal.decreases-loop-bracket
decreases-loop-bracket l = l.bracket.high - l.bracket.low
