-- What reading times asks for, and what is found.
use Rattle.std.proofs.Common.{arith, length}
use Rattle.question.proofs.TightExtremes.{tight-consistent}
use Rattle.skew_bounds.specs.RowTimes.{times_of}
use Rattle.skew_bounds.proofs.Near.{times-near}
use Rattle.cdcl_core.proofs.ValueCases.{model_found, refuted_found, spent_found}
use Rattle.cdcl_core.proofs.value.search_whole.Goals as goal

pub times_of-requires : goal.times_of-requires
times_of-requires c =
    let log = c.args.question.log in
    let valid = rw c.log.ensures.log at c.log_is_valid.ensures.valid in
    let found = c.in_ok-found.ensures.found in
    let model = rw c.in-Model.is at found.found_is in
    let exact = found.exact c.in-Model.values c.in-Model.potentials model in
    rw (rw c.log-2.ensures.log at c.rows-rows.ensures.same, c.as_slice.ensures.items) (record {
      some = let count = model.numbers_count in let nodes = found.fits.nodes in omega (arith, count, nodes);
      near = times-near log valid (times_of (length log.rows) c.in-Model.potentials) exact.admissible;
    })

pub returns-in-Model : goal.returns-in-Model
returns-in-Model c =
    let log = c.args.question.log in
    let f = c.args.question.form in
    let found = c.in_ok-found.ensures.found in
    let exact = found.exact c.in-Model.values c.in-Model.potentials (rw c.in-Model.is at found.found_is) in
    let same = rw (rw c.log-2.ensures.log at c.rows-rows.ensures.same, c.as_slice.ensures.items) at c.in_ok-times_of-in-Model.ensures.times in
    record { found = model_found log f c.args.value c.args.budget c.in-Model.potentials c.in_ok-times_of-in-Model.field-0 same exact.admissible exact.value }

pub returns-in-Refuted : goal.returns-in-Refuted
returns-in-Refuted c =
    let found = rw c.in-Refuted.is at c.in_ok-found.ensures.found.found_is in
    record { found = refuted_found c.args.question.log c.args.question.form c.args.value c.args.budget c.in-Refuted.lines found.0 found.1 found.2 }

pub returns : goal.returns
returns c =
    let log = c.args.question.log in
    let valid = rw c.log.ensures.log at c.log_is_valid.ensures.valid in
    let made = c.in_ok-found.ensures.found in
    let found = rw c.in-Spent.is at made.found_is in
    let consistent = tight-consistent log c.args.tight.now c.requires.tight valid.some_rows in
    record { found = spent_found log c.args.question.form c.args.value c.args.budget c.in-Spent.lines consistent made.problem.rules made.kept found.0 found.1 }
