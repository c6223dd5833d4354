-- Core trees: formulas in `true`, propositions, not, and, until and since alone.
use Rattle.std.specs.Prelude.{◌≡◌}
use Rattle.mt_model.specs.Form.{Form, True, False, Prop, Not, And, Or, Implies, Until, Since, Eventually, Always, Once, Historically}

-- the core of a formula, which says the same; double negations stay
abbrev pub core_of : Form → Form
core_of True = True
core_of False = Not True
core_of (Prop host name) = Prop host name
core_of (Not f) = Not (core_of f)
core_of (And f g) = And (core_of f) (core_of g)
core_of (Or f g) = Not (And (Not (core_of f)) (Not (core_of g)))
core_of (Implies f g) = Not (And (core_of f) (Not (core_of g)))
core_of (Until I f g) = Until I (core_of f) (core_of g)
core_of (Since I f g) = Since I (core_of f) (core_of g)
core_of (Eventually I f) = Until I True (core_of f)
core_of (Always I f) = Not (Until I True (Not (core_of f)))
core_of (Once I f) = Since I True (core_of f)
core_of (Historically I f) = Not (Since I True (Not (core_of f)))

-- a core tree is its own core
abbrev pub IsCore : Form → Type 0
IsCore f = core_of f ≡ f
