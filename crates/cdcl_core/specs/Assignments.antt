-- What values of the variables say of a trail, and of a problem.
use Rattle.std.specs.Prelude.{◌≡◌, ◌↔◌, ℕ, ◌+◌, List, length, Bool, true, Option, IfSome, IsTrue, All, ℤ, ◌-ℤ◌, int_le}
use Rattle.std.specs.List.{list_any}
use Rattle.neg_cycle.specs.declared.system.Edge.{Edge}
use Rattle.neg_cycle.specs.Systems.{Meets, number_of}
use Rattle.clause_db.specs.declared.lit.Lit.{Lit}
use Rattle.clause_db.specs.Literals.{value_of}
use Rattle.propagate.specs.Links.{edges_at}
use Rattle.propagate.specs.Trails.{Assigned}
use Rattle.axiom_rules.specs.declared.literal.Atom.{Atom}
use Rattle.axiom_rules.specs.declared.literal.Atom.TheVariants.{Order}
use Rattle.axiom_rules.specs.Atoms.{IsVar}
use Rattle.mtl_encode.specs.Models.{value_at}

-- one value a variable, and that of an assigned one is the sense in which it was assigned
pub record AreValues (t : Assigned) (values : List Bool) : Type 0 where
  pub count : length values ≡ t.vars
  pub sense : All (λ e. value_at values e.lit.var ≡ e.lit.positive) t.entries

-- a variable that has edges is true exactly where the numbers meet the edge of its positive literal
abbrev pub AreOrderValues : List (Option (Edge × Edge)) → List ℤ → List Bool → Type 0
AreOrderValues links numbers values = (v : ℕ) → IfSome (edges_at links v) (λ both. IsTrue (value_at values v) ↔ Meets numbers both.0)

-- one value an atom: each clause has a literal that is true, and an order atom has the value that the numbers give it
pub record IsSatisfying (atoms : List Atom) (db : List (List Lit)) (numbers : List ℤ) (values : List Bool) : Type 0 where
  pub count : length values ≡ length atoms
  pub clauses : All (λ lits. list_any (value_of (value_at values)) lits ≡ true) db
  pub orders : (v e f : ℕ) (c : ℤ) → IsVar atoms v (Order e f c) → value_at values v ≡ int_le (number_of numbers (e + 1) -ℤ number_of numbers (f + 1)) c
