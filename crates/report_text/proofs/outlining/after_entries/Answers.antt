use Rattle.std.proofs.Common.{rules}
use Rattle.proof_log.specs.Spelled.{IsNumber}
use Rattle.report_text.proofs.Sections.{after-refuted, after-unknown, after-witness}
use Rattle.report_text.proofs.outlining.after_entries.Goals as goal

pub returns-in-Witness : goal.returns-in-Witness
returns-in-Witness c = after-witness c.args.events c.args.kind c.in-Witness.is c.args.bytes.now c.pass_times.result c.pass_times.ensures

pub returns-in-Refuted : goal.returns-in-Refuted
returns-in-Refuted c =
    let few : IsNumber c.in-Refuted.count = search rules in
    after-refuted c.args.events c.in-Refuted.count few c.args.kind c.in-Refuted.is c.args.bytes.now c.pass_lines.result c.pass_lines.ensures

pub returns-in-Unknown : goal.returns-in-Unknown
returns-in-Unknown c =
    let few : IsNumber c.in-Unknown.count = search rules in
    after-unknown c.args.events c.in-Unknown.count few c.args.kind c.in-Unknown.is c.args.bytes.now c.pass_lines-in-Unknown.result c.pass_lines-in-Unknown.ensures
