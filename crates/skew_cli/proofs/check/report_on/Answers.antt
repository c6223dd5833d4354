use Rattle.mt_model.specs.Form.{form_of}
use Rattle.skew_cli.proofs.Judging.{large-told, many-told}
use Rattle.skew_cli.proofs.check.report_on.Goals as goal

pub unreachable-requires : goal.unreachable-requires
unreachable-requires c = let unknown = rw c.in-Err-UnknownHost.field-0-is at c.in-Err-UnknownHost.ensures.fault in cc

pub returns-in-Err-TooManyNodes-clause-refused : goal.returns-in-Err-TooManyNodes-clause-refused
returns-in-Err-TooManyNodes-clause-refused c =
    many-told c.args.log.now (form_of c.args.formula.now) (rw c.in-Err-TooManyNodes.field-0-is at c.in-Err-TooManyNodes.ensures.fault)

pub returns-in-Err-TooLarge-clause-refused : goal.returns-in-Err-TooLarge-clause-refused
returns-in-Err-TooLarge-clause-refused c =
    large-told c.args.log.now (form_of c.args.formula.now) c.in-Err-TooLarge.size (rw c.in-Err-TooLarge.field-0-is at c.in-Err-TooLarge.ensures.fault)
