use Rattle.std.proofs.Common.{arith}
use Rattle.mt_model.specs.Form.{form_of}
use Rattle.skew_best.proofs.Faults.{large-spanned, many-spanned}
use Rattle.skew_best.proofs.Spelling.{widest-spelled}
use Rattle.skew_best.proofs.spanning.greatest_distance.Goals as goal

pub widest-requires-clause-room : goal.widest-requires-clause-room
widest-requires-clause-room c = let few = c.requires.plain.extras in omega (arith, few)

pub returns-in-Ok-clause-spelled : goal.returns-in-Ok-clause-spelled
returns-in-Ok-clause-spelled c =
    widest-spelled c.args.log.now
    (form_of c.args.formula.now) c.args.distance.value c.new.result c.new-2.result c.args.distance.conflicts c.log_is_valid.ensures.valid c.requires.most c.in-Ok.answer c.in-Ok.ensures.right

pub unreachable-requires : goal.unreachable-requires
unreachable-requires c = let unknown = rw c.in-Err-UnknownHost.field-0-is at c.in-Err-UnknownHost.ensures.fault in cc

pub returns-in-Err-TooManyNodes-clause-refused : goal.returns-in-Err-TooManyNodes-clause-refused
returns-in-Err-TooManyNodes-clause-refused c = many-spanned c.args.log.now (form_of c.args.formula.now) (rw c.in-Err-TooManyNodes.field-0-is at c.in-Err-TooManyNodes.ensures.fault)

pub returns-in-Err-TooLarge-clause-refused : goal.returns-in-Err-TooLarge-clause-refused
returns-in-Err-TooLarge-clause-refused c =
    large-spanned c.args.log.now (form_of c.args.formula.now) c.in-Err-TooLarge.size (rw c.in-Err-TooLarge.field-0-is at c.in-Err-TooLarge.ensures.fault)
