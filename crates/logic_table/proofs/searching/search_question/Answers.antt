use Rattle.question.proofs.TightExtremes.{tight-consistent}
use Rattle.cdcl_core.proofs.Posing.{posed}
use Rattle.logic_table.proofs.searching.search_question.Goals as goal

pub ordered-requires : goal.ordered-requires
ordered-requires c =
    let log = c.args.question.log in
    let valid = rw c.log.ensures.log at c.log_is_valid.ensures.valid in
    let consistent = tight-consistent log c.args.tight.now c.requires.tight valid.some_rows in
    record {
      posed =
          posed c.bounds_are_admissible.ensures log c.args.question.form c.args.asked.value c.in_ok-encoded.encoded consistent.timing valid
          (rw c.formula.ensures.form at c.tree.ensures.valid) consistent.admissible c.in_ok-encoded.ensures.fits;
    }
