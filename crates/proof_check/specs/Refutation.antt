-- Clauses that are taken one after another under literals that are assumed.
use Rattle.std.specs.Prelude.{◌≡◌, List, ◌∷◌, All, Contains}
use Rattle.hint_refutation.specs.Hints.{Gives, IsFalseUnder}
use Rattle.axiom_rules.specs.declared.literal.Literal.{Literal}
use Rattle.axiom_rules.specs.Literals.{negated}
use Rattle.proof_check.specs.declared.refutation.Left.{Left}
use Rattle.proof_check.specs.declared.refutation.Left.TheVariants as left
use Rattle.proof_check.specs.declared.refutation.Taken.{Taken}
use Rattle.proof_check.specs.declared.refutation.Taken.TheVariants as taken

-- the same elements stand in both lists
pub record AreThose {X : Type 0} (these those : List X) : Type 0 where
  pub has : All (Contains those) these
  pub only : All (Contains these) those

-- the clause is neither false nor gives a literal
pub record IsNeither (assumed clause : List Literal) : Type 0 where
  pub not_false : IsFalseUnder negated assumed clause → ⊥
  pub gives_none : (u : Literal) → Gives negated assumed clause u → ⊥

-- what is left of a clause without its false literals: nothing where it is false, only the literal that it gives, or more
abbrev pub IsLeft : List Literal → List Literal → Left → Type 0
IsLeft assumed clause left.Nothing = IsFalseUnder negated assumed clause
IsLeft assumed clause (left.Only u) = Gives negated assumed clause u
IsLeft assumed clause left.More = IsNeither assumed clause

-- the clause gives a literal, which is assumed beside the old ones
pub record GivesNext (old clause new : List Literal) : Type 0 where
  pub literal : Literal
  pub gives : Gives negated old clause literal
  pub assumed : AreThose (literal ∷ old) new

-- the clause is false, and what is assumed stays
pub record IsFalsified (old clause new : List Literal) : Type 0 where
  pub falsified : IsFalseUnder negated old clause
  pub kept : new ≡ old

-- the clause is neither false nor gives a literal, and what is assumed stays
pub record IsStuck (old clause new : List Literal) : Type 0 where
  pub neither : IsNeither old clause
  pub kept : new ≡ old

-- what a clause does to the literals that are assumed
abbrev pub IsTaken : List Literal → List Literal → List Literal → Taken → Type 0
IsTaken old clause new taken.Gives = GivesNext old clause new
IsTaken old clause new taken.False = IsFalsified old clause new
IsTaken old clause new taken.Stuck = IsStuck old clause new
