use Rattle.std.proofs.Common.{◌≡◌, take}
use Rattle.logic_table.proofs.atom_order.vars_of.Given as goal

abbrev pub invariant-loop-number : goal.invariant-loop-number
invariant-loop-number l = l.vars.items ≡ take l.number-index l.numbers
