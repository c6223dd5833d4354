-- What satisfies a problem.
use Rattle.std.specs.Prelude.{◌≡◌, ℕ, ◌+◌, Bool, true, false, List, length, All, slice_index_or, ℤ, ◌-ℤ◌, int_le}
use Rattle.std.specs.List.{list_any}
use Rattle.neg_cycle.specs.Systems.{Meets, number_of}
use Rattle.clause_db.specs.Literals.{value_of}
use Rattle.axiom_rules.specs.declared.literal.Atom.TheVariants.{Order}
use Rattle.axiom_rules.specs.Atoms.{IsVar}
use Rattle.mtl_encode.specs.declared.problem.Problem.{Problem}
use Rattle.mt_model.specs.Form.{Form}
use Rattle.mt_model.specs.Log.{Logged}
use Rattle.mt_model.specs.Timing.{Admissible}
use Rattle.mt_model.specs.Truth.{truth}
use Rattle.skew_bounds.specs.RowTimes.{times_of}

-- the truth value of a variable
abbrev pub value_at : List Bool → ℕ → Bool
value_at values v = slice_index_or values v false

-- one truth value an atom and one number a node satisfy the problem
pub record IsModel (p : Problem) (values : List Bool) (numbers : List ℤ) : Type 0 where
  pub values_count : length values ≡ length p.atoms
  pub numbers_count : length numbers ≡ p.nodes
  -- each clause has a literal that is true, and each edge is met
  pub clauses : All (λ lits. list_any (value_of (value_at values)) lits ≡ true) p.db
  pub edges : All (Meets numbers) p.edges
  -- an order atom has the value that the numbers give it
  pub orders : (v e f : ℕ) (c : ℤ) → IsVar p.atoms v (Order e f c) → value_at values v ≡ int_le (number_of numbers (e + 1) -ℤ number_of numbers (f + 1)) c

-- what satisfies the problem gives an admissible timing of the log in which the formula has the value
abbrev pub GivesTimings : Logged → Form → Bool → Problem → Type 0
GivesTimings log f value p = (values : List Bool) (numbers : List ℤ) → IsModel p values numbers
    → Admissible log (times_of (length log.rows) numbers) × (truth log (times_of (length log.rows) numbers) 0 f ≡ value)
