use Rattle.std.proofs.Common.{refl, sym, false}
use Rattle.std.proofs.Math.Bool.{beq}
use Rattle.verdict.proofs.Witnesses.{by_truth, not_admitted}
use Rattle.verdict.proofs.outlined.is_witness.Goals as goal

pub returns-in_ok-truth_by : goal.returns-in_ok-truth_by
returns-in_ok-truth_by c =
    let found = c.in_ok-truth_by.field-0 in
    record {
      witness = by_truth c.args.question.now.log c.args.question.now.form c.args.value c.args.times.now c.admits.result (rw c.log.ensures.log at c.admits.ensures)
          (beq found c.args.value) found c.in_ok-truth_by.ensures.value c.if-admits.true refl;
    }

pub returns-else-admits : goal.returns-else-admits
returns-else-admits
    c = record { witness = not_admitted c.args.question.now.log c.args.question.now.form c.args.value c.args.times.now c.admits.result (rw c.log.ensures.log at c.admits.ensures) false c.if-admits.false (sym c.if-admits.false) }
