use Rattle.std.proofs.Common.{◌≡◌}
use Rattle.std.specs.Prelude.{vec_len}
use Rattle.mtl_parse.specs.Machine.{capped, complete}
use Rattle.mtl_parse.specs.States.{form_in, stack_in}
use Rattle.mtl_parse.proofs.pending.complete.Given as goal

abbrev pub invariant-loop-alloc : goal.invariant-loop-alloc
invariant-loop-alloc l = complete capped l.strength (stack_in l.stack.items) (form_in l.operand) ≡ complete capped l.strength (stack_in l.fn.stack.items) (form_in l.fn.operand)

abbrev pub decreases-loop-alloc : goal.decreases-loop-alloc
decreases-loop-alloc l = vec_len l.stack
