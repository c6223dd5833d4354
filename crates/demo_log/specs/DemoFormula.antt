-- The formula of the demo.
use Rattle.std.specs.Prelude.{Some, None, codes}
use Rattle.mt_model.specs.declared.tree.Interval.{Interval}
use Rattle.mt_model.specs.Form.{Form, Always, Eventually, Implies, Prop}

-- at every position from the first one on
abbrev pub from_here : Interval
from_here = record { low = 0; high = None }

-- at a distance of 20 at most
abbrev pub within_20 : Interval
within_20 = record { low = 0; high = Some 20 }

-- `h0.p -> F[0,20] h1.q`
abbrev pub answered : Form
answered = Implies (Prop (codes "h0") (codes "p")) (Eventually within_20 (Prop (codes "h1") (codes "q")))

-- `G (h0.p -> F[0,20] h1.q)`
abbrev pub demo_formula : Form
demo_formula = Always from_here answered
