-- Laws of literals and of clauses that are added.
use Rattle.std.specs.Prelude.{◌≡◌, ◌⊎◌, ℕ, ◌<◌, List, ◌++◌, length, map, Bool, All}
use Rattle.hint_refutation.specs.Laws.{IsValuation, IsMet}
use Rattle.clause_db.specs.declared.lit.Lit.{Lit}
use Rattle.clause_db.specs.Literals.{negation, value_of}
use Rattle.clause_db.specs.Clauses.{clause_at}
use Rattle.clause_db.specs.Hinted.{HintsRefute, HintsAreUsed}

-- the negation of the negation is the literal, which isn't its own negation; a variable has no third literal
pub record NegationIsOther : Type 0 where
  pub undone : (l : Lit) → negation (negation l) ≡ l
  pub other : (l : Lit) → negation l ≡ l → ⊥
  pub only : (k l : Lit) → k.var ≡ l.var → (k ≡ l) ⊎ (k ≡ negation l)

-- whatever the values of the variables, of a literal and its negation exactly one holds
abbrev pub VariablesHaveValues : Type 0
VariablesHaveValues = (values : ℕ → Bool) → IsValuation negation (value_of values)

-- where the values of the variables meet each clause, they meet one whose literals' negations the hints refute
abbrev pub HeldHintsAreSound : Type 0
HeldHintsAreSound = (values : ℕ → Bool) (clauses : List (List Lit)) (clause : List Lit) (hints : List ℕ) → All (IsMet (value_of values)) clauses
    → HintsRefute clauses (map negation clause) hints → IsMet (value_of values) clause

-- clauses that are added leave those that were held, and what hints say of them
pub record AddedLeavesHeld : Type 0 where
  pub clause : (clauses added : List (List Lit)) (c : ℕ) → c < length clauses → clause_at (clauses ++ added) c ≡ clause_at clauses c
  pub refute : (clauses added : List (List Lit)) (assumed : List Lit) (hints : List ℕ) → HintsRefute clauses assumed hints → HintsRefute (clauses ++ added) assumed hints
  pub used : (clauses added : List (List Lit)) (lits : List Lit) (hints : List ℕ) → HintsAreUsed clauses lits hints → HintsAreUsed (clauses ++ added) lits hints
