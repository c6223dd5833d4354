use Rattle.std.proofs.Common.{arith}
use Rattle.cdcl_core.proofs.value.refuted.Goals as goal

-- one line is within each budget
pub returns : goal.returns
returns c = record {
  found = λ f v.
      let refutes = c.in_ok-lines.ensures.refuted f v in
      let none = refutes.1 in
      let one = c.in_ok-lines.ensures.one in
      let some = c.get.ensures.some in
      record { refutes = refutes.0; few_lessons = omega (arith, none, some); few = omega (arith, one, some) };
}
