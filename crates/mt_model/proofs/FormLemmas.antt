-- Heights.
use Rattle.std.proofs.Common.{◌≤◌, arith}
use Rattle.mt_model.specs.Form.{Form, True, False, Prop, Not, And, Or, Implies, Until, Since, Eventually, Always, Once, Historically, height_of}

-- no formula has height 0
pub height-least : (f : Form) → 1 ≤ height_of f
height-least True = omega arith
height-least False = omega arith
height-least (Prop host name) = omega arith
height-least (Not f) = omega arith
height-least (And f g) = omega arith
height-least (Or f g) = omega arith
height-least (Implies f g) = omega arith
height-least (Until I f g) = omega arith
height-least (Since I f g) = omega arith
height-least (Eventually I f) = omega arith
height-least (Always I f) = omega arith
height-least (Once I f) = omega arith
height-least (Historically I f) = omega arith
