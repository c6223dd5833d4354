use Rattle.std.proofs.Common.{refl}
use Rattle.mtl_encode.proofs.laws.meanings_satisfy_rules.Goals as goal

pub returns : goal.returns
returns c = λ log f value t valid ok gives. ((λ rule clause is. c.rules_hold.ensures.sought_value log t f value rule clause valid ok gives is), λ e f bound occurs. refl)
