-- What the table says of each rule that has a clause.
use Rattle.std.specs.Prelude.{slice_index_or}
use Rattle.axiom_rules.specs.Laws.{RulesAreWithinTable}
use Rattle.axiom_rules.proofs.OnceLemmas.{among-at}
use Rattle.axiom_rules.proofs.RowCases.{written-by}
use Rattle.axiom_rules.proofs.RulesMade.{few-literals, orders-of-rows}
use Rattle.axiom_rules.proofs.UnusedArguments.{number-low, unused-zero}

pub rules-within : RulesAreWithinTable
rules-within s rule c is = record {
  number = let w = written-by s rule c is in number-low rule.number w.row w.at;
  unused = unused-zero s rule c is;
  few = few-literals s rule c is;
  orders = λ j d low. orders-of-rows s rule c (slice_index_or c j d) is (among-at c j d low);
}
