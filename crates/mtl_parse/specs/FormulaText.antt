-- The one text of a formula.
use Rattle.std.specs.Prelude.{ℕ, List, ◌++◌, codes, Option, Some, None, Ok}
use Rattle.std.specs.Fmt.{decimal}
use Rattle.mt_model.specs.declared.tree.Interval.{Interval}
use Rattle.mt_model.specs.Form.{Form, True, False, Prop, Not, And, Or, Implies, Until, Since, Eventually, Always, Once, Historically, IsFormula}
use Rattle.mtl_parse.specs.FormulaOf.{FormulaOf}

-- an upper bound, or `inf` where there is none
abbrev pub high_text : Option ℕ → List ℕ
high_text (Some high) = decimal high
high_text None = codes "inf"

-- `[`, the lower bound, `,`, the upper bound and `]`
abbrev pub interval_text : Interval → List ℕ
interval_text I = codes "[" ++ decimal I.low ++ codes "," ++ high_text I.high ++ codes "]"

-- what stands between two formulas, with a space on each side, and both in parentheses
abbrev pub joined : List ℕ → List ℕ → List ℕ → List ℕ
joined left middle right = codes "(" ++ left ++ codes " " ++ middle ++ codes " " ++ right ++ codes ")"

-- a letter with its interval, a space, and the operand
abbrev pub prefixed : List ℕ → Interval → List ℕ → List ℕ
prefixed letter I operand = letter ++ interval_text I ++ codes " " ++ operand

-- the text of a formula
abbrev pub formula_text : Form → List ℕ
formula_text True = codes "true"
formula_text False = codes "false"
formula_text (Prop host name) = host ++ codes "." ++ name
formula_text (Not f) = codes "!" ++ formula_text f
formula_text (And f g) = joined (formula_text f) (codes "&") (formula_text g)
formula_text (Or f g) = joined (formula_text f) (codes "|") (formula_text g)
formula_text (Implies f g) = joined (formula_text f) (codes "->") (formula_text g)
formula_text (Until I f g) = joined (formula_text f) (codes "U" ++ interval_text I) (formula_text g)
formula_text (Since I f g) = joined (formula_text f) (codes "S" ++ interval_text I) (formula_text g)
formula_text (Eventually I f) = prefixed (codes "F") I (formula_text f)
formula_text (Always I f) = prefixed (codes "G") I (formula_text f)
formula_text (Once I f) = prefixed (codes "O") I (formula_text f)
formula_text (Historically I f) = prefixed (codes "H") I (formula_text f)

-- two formulas with a letter and an interval between them, in parentheses
abbrev pub timed_text : Form → List ℕ → Interval → Form → List ℕ
timed_text f letter I g = joined (formula_text f) (letter ++ interval_text I) (formula_text g)

-- the text of a valid formula reads back as that formula
abbrev pub PrintedFormulasReadBack : Type 0
PrintedFormulasReadBack = (f : Form) → IsFormula f → FormulaOf (formula_text f) (Ok f)
