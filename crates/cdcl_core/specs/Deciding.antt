-- What is decided.
use Rattle.std.specs.Prelude.{◌≡◌, ℕ, ◌<◌, List, Bool}
use Rattle.clause_db.specs.declared.lit.Lit.{Lit}
use Rattle.propagate.specs.declared.entry.Entry.{Entry}
use Rattle.propagate.specs.Trails.{IsUnassigned}
use Rattle.cdcl_core.specs.declared.decision.Decision.{Decision}
use Rattle.cdcl_core.specs.declared.decision.Decision.TheVariants as decision

-- the fact holds of the values, where nothing is to be decided
abbrev pub IfDone : (List Bool → Type 0) → Decision → Type 0
IfDone P (decision.Done values) = P values
IfDone P (decision.Decide lit start) = Unit {0}
IfDone P decision.Lost = Unit {0}

-- the fact holds of the literal and the start, where one is decided
abbrev pub IfDecides : (Lit → ℕ → Type 0) → Decision → Type 0
IfDecides P (decision.Done values) = Unit {0}
IfDecides P (decision.Decide lit start) = P lit start
IfDecides P decision.Lost = Unit {0}

-- the fact holds, where what is sought was lost
abbrev pub IfLost : Type 0 → Decision → Type 0
IfLost P (decision.Done values) = Unit {0}
IfLost P (decision.Decide lit start) = Unit {0}
IfLost P decision.Lost = P

-- the literal's variable is one of so many and unassigned, and no other one below the start is
pub record IsNext (vars : ℕ) (entries : List Entry) (lit : Lit) (start : ℕ) : Type 0 where
  pub within : lit.var < vars
  pub unassigned : IsUnassigned entries lit.var
  pub before : (w : ℕ) → w < start → IsUnassigned entries w → w ≡ lit.var
