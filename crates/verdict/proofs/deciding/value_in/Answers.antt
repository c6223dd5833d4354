use Rattle.skew_bounds.proofs.Near.{times-near}
use Rattle.verdict.proofs.deciding.value_in.Goals as goal

pub truth_by-requires : goal.truth_by-requires
truth_by-requires c = record {
  count = c.requires.admissible.count;
  range = times-near c.args.question.now.log (rw c.log.ensures.log at c.log_is_valid.ensures.valid) c.args.times.now c.requires.admissible;
}
