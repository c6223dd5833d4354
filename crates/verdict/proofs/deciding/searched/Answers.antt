use Rattle.verdict.proofs.Searching.{refuted_right, refuted_spelled, spent_right, spent_spelled, timing_right, timing_spelled}
use Rattle.verdict.proofs.deciding.searched.Goals as goal

pub returns-in-Timing : goal.returns-in-Timing
returns-in-Timing c =
    let found = rw c.in-Timing.is at c.in_ok-times.ensures.found in
    record {
      right = timing_right c.args.question.log c.args.question.form c.args.budget c.args.value (rw c.log.ensures.log at c.log_is_valid.ensures.valid) c.in-Timing.times found;
      spelled = timing_spelled c.args.question.log c.args.question.form c.args.budget c.args.value (rw c.log.ensures.log at c.log_is_valid.ensures.valid) c.in-Timing.times found;
      few = tt;
    }

pub returns-in-Refuted : goal.returns-in-Refuted
returns-in-Refuted c =
    let found = rw c.in-Refuted.is at c.in_ok-times.ensures.found in
    record {
      right = refuted_right c.args.question.log c.args.question.form c.args.budget c.args.value (rw c.log.ensures.log at c.log_is_valid.ensures.valid) c.in-Refuted.lines c.get.ensures.most found;
      spelled = refuted_spelled c.args.question.log c.args.question.form c.args.budget c.args.value (rw c.log.ensures.log at c.log_is_valid.ensures.valid) c.in-Refuted.lines c.get.ensures.most found;
      few = found.few;
    }

pub returns-in-Spent : goal.returns-in-Spent
returns-in-Spent c =
    let found = rw c.in-Spent.is at c.in_ok-times.ensures.found in
    record {
      right = spent_right c.args.question.log c.args.question.form c.args.budget c.args.value (rw c.log.ensures.log at c.log_is_valid.ensures.valid) c.in-Spent.lines c.get.ensures.most found;
      spelled = spent_spelled c.args.question.log c.args.question.form c.args.budget c.args.value (rw c.log.ensures.log at c.log_is_valid.ensures.valid) c.in-Spent.lines c.get.ensures.most found;
      few = found.few;
    }
