-- Literals: variables with a sense, that is, variables and their negations.
use Rattle.std.specs.Prelude.{◌≢◌, ℕ, List, Bool, not, if◌then◌else◌, AllPairs}
use Rattle.clause_db.specs.declared.lit.Lit.{Lit}

-- the literal of the same variable and the other sense
abbrev pub negation : Lit → Lit
negation l = record { var = l.var; positive = not l.positive }

-- a positive literal holds where its variable does, a negative one where it doesn't
abbrev pub value_of : (ℕ → Bool) → Lit → Bool
value_of values l = if l.positive then values l.var else not (values l.var)

-- no variable stands twice
abbrev pub HasVarsOnce : List Lit → Type 0
HasVarsOnce lits = AllPairs (λ k l. k.var ≢ l.var) lits
