-- What the search of a part asks for, and what is found.
use Rattle.std.proofs.Common.{◌∙◌}
use Rattle.question.proofs.TightExtremes.{tight-consistent}
use Rattle.cdcl_core.proofs.PartModels.{part-admissible, part-nodes}
use Rattle.cdcl_core.proofs.Posing.{posed}
use Rattle.cdcl_core.proofs.ValueCases.{refuted_found}
use Rattle.cdcl_core.proofs.part.search_within.Goals as goal

pub search_by-requires-clause-posed : goal.search_by-requires-clause-posed
search_by-requires-clause-posed c =
    let log = c.args.question.log in
    let valid = rw c.log.ensures.log at c.log_is_valid.ensures.valid in
    let consistent = tight-consistent log c.args.tight.now c.requires.tight valid.some_rows in
    posed c.bounds_are_admissible.ensures log c.args.question.form c.args.value c.in_ok-problem.field-0.problem consistent.timing
    valid (rw c.formula.ensures.form at c.tree.ensures.valid) consistent.admissible c.in_ok-problem.ensures.fits

pub replayed-requires-clause-some : goal.replayed-requires-clause-some
replayed-requires-clause-some c =
    let log = c.args.question.log in
    let valid = rw c.log.ensures.log at c.log_is_valid.ensures.valid in
    let answer = rw (c.in-Some-Model.is, c.in-Some-Model.field-0-is) at c.in_ok-potentials.ensures.answer in
    let fits = c.in_ok-problem.ensures.fits in
    let model = answer.found_is log c.args.question.form c.args.value valid fits in
    rw (c.in_ok-again-in-Some-Model.ensures.log ∙ c.log-log.ensures.log, c.as_slice.ensures.items)
    (part-nodes log c.args.question.form c.args.value c.in_ok-problem.field-0.problem _ c.in-Some-Model.potentials valid fits model)

pub replayed-requires-clause-admissible : goal.replayed-requires-clause-admissible
replayed-requires-clause-admissible c =
    let log = c.args.question.log in
    let valid = rw c.log.ensures.log at c.log_is_valid.ensures.valid in
    let answer = rw (c.in-Some-Model.is, c.in-Some-Model.field-0-is) at c.in_ok-potentials.ensures.answer in
    let fits = c.in_ok-problem.ensures.fits in
    let model = answer.found_is log c.args.question.form c.args.value valid fits in
    rw (c.in_ok-again-in-Some-Model.ensures.log ∙ c.log-log.ensures.log, c.as_slice.ensures.items)
    (part-admissible log c.args.question.form c.args.value c.in_ok-problem.field-0.problem _ c.in-Some-Model.potentials valid fits model c.bounds_are_admissible.ensures)

pub returns-in-Some-Refuted : goal.returns-in-Some-Refuted
returns-in-Some-Refuted c =
    let log = c.args.question.log in
    let valid = rw c.log.ensures.log at c.log_is_valid.ensures.valid in
    let answer = rw (c.in-Some-Refuted.is, c.in-Some-Refuted.field-0-is) at c.in_ok-potentials.ensures.answer in
    let is = rw c.get.ensures.conflicts at (answer.found_is log c.args.question.form c.args.value valid c.in_ok-problem.ensures.fits) in
    record { found = refuted_found log c.args.question.form c.args.value c.args.budget c.in-Some-Refuted.lines is.0 is.1 is.2 }
