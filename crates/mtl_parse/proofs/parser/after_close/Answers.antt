use Rattle.std.proofs.Common.{◌≡◌, rules, None}
use Rattle.mtl_parse.specs.Machine.{capped, closed, complete}
use Rattle.mtl_parse.specs.States.{form_in, stack_in}
use Rattle.mtl_parse.proofs.Stacks.{none_opened}
use Rattle.mtl_parse.proofs.parser.after_close.Goals as goal

pub returns-in-None-clause-fault : goal.returns-in-None-clause-fault
returns-in-None-clause-fault c = λ _.
    let none : closed (complete capped 1 (stack_in c.args.stack.items) (form_in c.args.operand)) ≡ None = search rules in
    none_opened (stack_in c.args.stack.items) (form_in c.args.operand) c.args.byte none
