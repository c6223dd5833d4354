use Rattle.verdict_span.proofs.Telling.{right-greatest}
use Rattle.verdict_span.proofs.laws.right_spans_are_greatest.Goals as goal

pub returns : goal.returns
returns c = record {
  greatest = right-greatest c.refuted_is_no_value.ensures c.spent_is_bounded.ensures c.refuted_by_rules_is_not_spent.ensures c.conflict_excludes_timings.ensures;
}
