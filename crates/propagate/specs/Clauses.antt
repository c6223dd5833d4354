-- What clauses are by a trail's literals.
use Rattle.std.specs.Prelude.{◌≡◌, ℕ, ◌<◌, List, length, take, Bool, true, false, Option, Some, None, All, Contains}
use Rattle.hint_refutation.specs.Hints.{IsFalseUnder, LeavesOnly}
use Rattle.hint_refutation.specs.Propagation.{IsSettled}
use Rattle.clause_db.specs.declared.lit.Lit.{Lit}
use Rattle.clause_db.specs.Literals.{negation}
use Rattle.clause_db.specs.Clauses.{clause_at}
use Rattle.propagate.specs.declared.entry.Entry.{Entry}
use Rattle.propagate.specs.Trails.{Assigned, IsUnassigned, entry_at, literals}

-- a literal is true where the trail has it, false where the trail has its negation, and neither where its variable is unassigned
abbrev pub IsTruth : List Entry → Lit → Option Bool → Type 0
IsTruth entries l None = IsUnassigned entries l.var
IsTruth entries l (Some true) = Contains (literals entries) l
IsTruth entries l (Some false) = Contains (literals entries) (negation l)

-- each literal of the clause is false
abbrev pub IsFalsified : List Entry → List Lit → Type 0
IsFalsified entries clause = IsFalseUnder negation (literals entries) clause

-- no clause is false or unit: each has a true literal, or two different ones that aren't false
abbrev pub AreSettled : List Entry → List (List Lit) → Type 0
AreSettled entries db = All (IsSettled negation (literals entries)) db

-- the clause of this number has u, and its other literals were false before
pub record IsReason (db : List (List Lit)) (before : List Lit) (u : Lit) (c : ℕ) : Type 0 where
  pub held : c < length db
  pub leaves : LeavesOnly negation before (clause_at db c) u

-- the variables of the clauses are in range, and each reason is a clause whose other literals were false before
pub record HasReasons (t : Assigned) (db : List (List Lit)) : Type 0 where
  pub variables : All (All (λ l. l.var < t.vars)) db
  pub reasons : (k c : ℕ) → k < length t.entries → (entry_at t.entries k).reason ≡ Some c
      → IsReason db (literals (take k t.entries)) (entry_at t.entries k).lit c
