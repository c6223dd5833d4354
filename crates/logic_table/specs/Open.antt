-- Literals that aren't false.
use Rattle.std.specs.Prelude.{List, Contains}
use Rattle.axiom_rules.specs.declared.literal.Literal.{Literal}
use Rattle.axiom_rules.specs.Literals.{negated}

-- the negation of the literal isn't held
abbrev pub IsOpen : List Literal → Literal → Type 0
IsOpen held l = Contains held (negated l) → ⊥
