-- The words of refutation by hints at literals, the hints being references to clauses.
use Rattle.std.specs.Prelude.{ℕ, List}
use Rattle.hint_refutation.specs.Hints.{Refutes, Used}
use Rattle.clause_db.specs.declared.lit.Lit.{Lit}
use Rattle.clause_db.specs.Literals.{negation}
use Rattle.clause_db.specs.Clauses.{clauses_at, AreHeld}

-- the hints are clauses that are held, and in order they refute what is assumed
pub record HintsRefute (clauses : List (List Lit)) (assumed : List Lit) (hints : List ℕ) : Type 0 where
  pub held : AreHeld clauses hints
  pub refutes : Refutes negation assumed (clauses_at clauses hints)

-- the literals are the resolvent of the hints: each stands in one of them, and what each but the last gives is spent later
pub record HintsAreUsed (clauses : List (List Lit)) (lits : List Lit) (hints : List ℕ) : Type 0 where
  pub held : AreHeld clauses hints
  pub used : Used negation lits (clauses_at clauses hints)
