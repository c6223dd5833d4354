use Rattle.std.proofs.Common.{List}
use Rattle.std.proofs.lemmas.Result.{err_from_is_err_and}
use Rattle.proof_log.specs.declared.line.Line.{Line}
use Rattle.proof_log.specs.LinesOf.{IsTextOf}
use Rattle.skew_commands.specs.Stops.{HasReason}
use Rattle.skew_cli.specs.TrimOutcome.{CanTrimSection, TellsSection}
use Rattle.skew_cli.proofs.TrimmedTexts.{of-refuted, other-can, other-left, refuted-left, unrefuted}
use Rattle.skew_cli.proofs.trim.trimmed_section.Goals as goal

pub trimmed_lines-requires-clause-lines : goal.trimmed_lines-requires-clause-lines
trimmed_lines-requires-clause-lines c =
    let (events, s, out, spelled) = c.requires.some in
    of-refuted events c.args.section c.in-Refuted.count c.in-Refuted.is (λ s. (lines : List Line) × IsTextOf c.args.section.text.now lines) (λ lines is. (lines, is)) s out spelled

pub returns-in_ok-trimmed_lines-in-Refuted-clause-trimmed : goal.returns-in_ok-trimmed_lines-in-Refuted-clause-trimmed
returns-in_ok-trimmed_lines-in-Refuted-clause-trimmed c = λ events s out spelled.
    let left = c.in_ok-trimmed_lines-in-Refuted in
    refuted-left events c.args.section c.in-Refuted.count c.in-Refuted.is left.field-0 left.ensures.trimmed s out spelled

pub returns-in_ok-trimmed_lines-in-Refuted-clause-can : goal.returns-in_ok-trimmed_lines-in-Refuted-clause-can
returns-in_ok-trimmed_lines-in-Refuted-clause-can c = λ events s out spelled.
    of-refuted events c.args.section c.in-Refuted.count c.in-Refuted.is CanTrimSection c.in_ok-trimmed_lines-in-Refuted.ensures.can s out spelled

pub returns-in_err-trimmed_lines-in-Refuted-clause-refused : goal.returns-in_err-trimmed_lines-in-Refuted-clause-refused
returns-in_err-trimmed_lines-in-Refuted-clause-refused c = λ events s out spelled.
    let p = err_from_is_err_and c.from_residual.result c.from_residual.ensures.1 in
    let failed = c.in_err-trimmed_lines-in-Refuted in
    let reason = of-refuted events c.args.section c.in-Refuted.count c.in-Refuted.is (λ s. HasReason failed.field-0.0 (TellsSection c.args.part s)) failed.ensures.refused s out spelled in
    rw (p.1, p.2) reason

pub returns-in-Witness-clause-trimmed : goal.returns-in-Witness-clause-trimmed
returns-in-Witness-clause-trimmed c = λ events s out spelled. other-left events c.args.section (unrefuted c.args.section.kind c.in-Witness.is) s out spelled

pub returns-in-Witness-clause-can : goal.returns-in-Witness-clause-can
returns-in-Witness-clause-can c = λ events s out spelled. other-can events c.args.section (unrefuted c.args.section.kind c.in-Witness.is) s out
