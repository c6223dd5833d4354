use Rattle.std.proofs.Common.{arith}
use Rattle.mt_model.specs.Form.{form_of}
use Rattle.mt_model.proofs.FormLemmas.{height-least}
use Rattle.mt_model.proofs.formula.+is_within.Goals as goal

pub returns-then-limit-eq0 : goal.returns-then-limit-eq0
returns-then-limit-eq0 t c = let least = height-least (form_of c.args.tree.now) in grind (arith, least)
