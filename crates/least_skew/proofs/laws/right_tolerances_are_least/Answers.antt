use Rattle.least_skew.proofs.Telling.{right-least}
use Rattle.least_skew.proofs.laws.right_tolerances_are_least.Goals as goal

pub returns : goal.returns
returns c = record {
  least = right-least c.refuted_is_no_value.ensures c.spent_is_bounded.ensures c.refuted_by_rules_is_not_spent.ensures c.conflict_excludes_timings.ensures;
}
