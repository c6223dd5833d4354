use Rattle.std.proofs.Common.{ap, arith}
use Rattle.std.specs.Prelude.{length}
use Rattle.mtl_encode.proofs.encoding.ordered_of.Goals as goal

pub returns : goal.returns
returns c =
    let asked = c.in_ok-clauses.ensures in
    record {
      clauses = c.in_ok-ordered.ensures.clauses;
      once = rw c.in_ok-ordered.ensures.rules asked.once;
      few_rules = omega (arith, asked.few_rules, ap length c.in_ok-ordered.ensures.rules);
      few_atoms = omega (arith, asked.few_atoms, c.in_ok-ordered.ensures.atoms);
    }
