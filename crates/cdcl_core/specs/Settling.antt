-- What writing the lines of assumed orders changes.
use Rattle.std.specs.Prelude.{◌≡◌, ◌⊎◌, ℕ, ◌≤◌, List, length, Bool}
use Rattle.mt_model.specs.declared.bound.Bound.{Bound}
use Rattle.mt_model.specs.Form.{Form}
use Rattle.mt_model.specs.Log.{Logged}
use Rattle.neg_cycle.specs.declared.system.Edge.{Edge}
use Rattle.skew_bounds.specs.Edges.{AreEdges}
use Rattle.axiom_rules.specs.declared.literal.Atom.{Atom}
use Rattle.cdcl_core.specs.declared.derived.Derived.{Derived}
use Rattle.cdcl_core.specs.declared.settling.TheConstants.{MAX_SETTLED}
use Rattle.cdcl_core.specs.Founds.{lessons}
use Rattle.cdcl_core.specs.Recording.{IsSettled, KeepsRecord, cite_at}
use Rattle.cdcl_core.specs.Spending.{KeepsSpending}

-- the clauses are the same, and so are the hints but for those that named nothing; no line that came is a lesson, and the lines derive as
-- before and are spent on the same
pub record HasSettled (atoms : List Atom) (bounds : List Bound) (edges : List Edge) (old new : Derived) : Type 0 where
  pub clauses : new.db ≡ old.db
  pub count : length new.cites ≡ length old.cites
  pub kept : (c : ℕ) → IsSettled (cite_at old.cites c) → IsSettled (cite_at new.cites c)
  pub few : (new.lines ≡ old.lines) ⊎ (length new.lines ≤ MAX_SETTLED)
  pub lesson_count : lessons new.lines ≡ lessons old.lines
  pub derives : (log : Logged) (f : Form) (v : Bool) → AreEdges log bounds edges → KeepsRecord log f v atoms old new
  pub spending : KeepsSpending old new
