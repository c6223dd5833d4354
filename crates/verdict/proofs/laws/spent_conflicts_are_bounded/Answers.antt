use Rattle.std.proofs.Common.{arith}
use Rattle.cdcl_core.proofs.KeptLists.{kept_refuted}
use Rattle.verdict.proofs.laws.spent_conflicts_are_bounded.Goals as goal

pub returns : goal.returns
returns c = record {
  bounded = λ log f v conflicts lines spent some. record {
    bounded = λ atoms all. c.spent_is_bounded.ensures.by_rules log f v spent.rules conflicts lines atoms spent.spends all;
    not_refuted = λ rules kept refuted.
        let none = c.refuted_by_rules_is_not_spent.ensures.none_spent log f v spent.rules conflicts lines (kept_refuted log f v rules spent.rules kept spent.kept refuted) spent.spends in
        omega (arith, none, some);
  };
}
