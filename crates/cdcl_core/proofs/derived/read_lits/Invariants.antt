use Rattle.std.proofs.Common.{◌≡◌, map, take}
use Rattle.std.specs.Prelude.{All}
use Rattle.axiom_rules.specs.declared.literal.Literal.{Literal}
use Rattle.cdcl_core.specs.Orders.{read_lit}
use Rattle.cdcl_core.specs.Recording.{HasNumbers}
use Rattle.cdcl_core.proofs.derived.read_lits.Given as goal

abbrev pub invariant-loop-lit : goal.invariant-loop-lit
invariant-loop-lit l = record {
  read : l.read ≡ map (read_lit l.atoms) (take l.lit-index l.lits);
  numbers : All (λ (m : Literal). HasNumbers m.atom) l.read;
}
