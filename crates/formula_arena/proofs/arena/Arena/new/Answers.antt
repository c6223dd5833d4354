use Rattle.std.proofs.Common.{◌∙◌, [], sym, subst}
use Rattle.formula_arena.specs.Table.{IsTable}
use Rattle.formula_arena.proofs.Tables.{table-nil, trees-nil, trees_in}
use Rattle.formula_arena.proofs.arena.Arena.new.Goals as goal

pub invariant_of-result : goal.invariant_of-result
invariant_of-result c = subst (λ es. IsTable es c.new.result.keys) (sym c.new-2.ensures.empty) (subst (IsTable []) (sym c.new.ensures.empty) table-nil)

pub returns : goal.returns
returns c = record { empty = (λ i. trees_in (c.new-2.ensures.empty i) (c.new.ensures.empty i)) ∙ trees-nil }
