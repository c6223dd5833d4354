use Rattle.mt_model.specs.Form.{form_of}
use Rattle.std.proofs.Common.{pos}
use Rattle.least_skew.proofs.Widenings.{hosts-at}
use Rattle.skew_best.proofs.Faults.{large-told, many-told}
use Rattle.skew_best.proofs.Spelling.{tolerance-spelled}
use Rattle.skew_best.proofs.tolerating.least_widening.Goals as goal

pub returns-in-Ok-clause-spelled : goal.returns-in-Ok-clause-spelled
returns-in-Ok-clause-spelled c =
    tolerance-spelled c.args.log.now
    (form_of c.args.formula.now) c.args.widening.value c.args.widening.max c.args.widening.conflicts c.log_is_valid.ensures.valid c.requires.skews c.requires.range c.requires.most c.in-Ok.answer c.in-Ok.ensures.right

pub unreachable-requires : goal.unreachable-requires
unreachable-requires c =
    let unknown = rw c.in-Err-UnknownHost.field-0-is at c.in-Err-UnknownHost.ensures.fault in
    let known = hosts-at c.args.log.now (pos c.args.widening.max) (form_of c.args.formula.now) in
    cc

pub returns-in-Err-TooManyNodes-clause-refused : goal.returns-in-Err-TooManyNodes-clause-refused
returns-in-Err-TooManyNodes-clause-refused c =
    many-told c.args.log.now (form_of c.args.formula.now) c.args.widening.max (rw c.in-Err-TooManyNodes.field-0-is at c.in-Err-TooManyNodes.ensures.fault)

pub returns-in-Err-TooLarge-clause-refused : goal.returns-in-Err-TooLarge-clause-refused
returns-in-Err-TooLarge-clause-refused c =
    large-told c.args.log.now (form_of c.args.formula.now) c.args.widening.max c.in-Err-TooLarge.size (rw c.in-Err-TooLarge.field-0-is at c.in-Err-TooLarge.ensures.fault)
