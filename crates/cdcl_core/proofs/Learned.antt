-- What a learned clause leaves of a run.
use Rattle.std.proofs.Common.{inl, inr, ℕ, ◌<◌, ◌≤◌, List, [], ◌∷◌, ◌++◌, length, Option, arith}
use Rattle.std.specs.Prelude.{All}
use Rattle.neg_cycle.specs.declared.system.Edge.{Edge}
use Rattle.difference_graph.specs.Graphs.{Constraints}
use Rattle.clause_db.specs.declared.lit.Lit.{Lit}
use Rattle.clause_db.specs.Clauses.{clause_at}
use Rattle.propagate.specs.Trails.{Assigned, IsTrail}
use Rattle.propagate.specs.Steps.{AreMarksHeld, InStep, LacksLast}
use Rattle.propagate.specs.Closed.{Closed, ClosedAt}
use Rattle.propagate.proofs.LawLemmas.{added_clause_keeps, step_holds}
use Rattle.analyze.specs.Asserting.{HasTwoAbove, IsAsserting, IsJump}
use Rattle.cdcl_core.specs.Running.{IsConflicted, IsRun}
use Rattle.cdcl_core.proofs.Conflicts.{closed_with, jump_below}

module _ (db : List (List Lit)) (t : Assigned) (g : Constraints) (c : ℕ) where
  -- the marks of a trail with a conflict are held
  pub marks_held : (links : List (Option (Edge × Edge))) (base : List Edge) → IsConflicted db links base t g c → AreMarksHeld t g
  marks_held links base conflicted = elim conflicted.step [
    | inl step ↦ step_holds.in_step t db links base g conflicted.trail step
    | inr lacks ↦ step_holds.lacks_last t db links base g conflicted.trail lacks
  ]

  -- a learned clause is not empty
  pub asserting_some : (lits : List Lit) → IsAsserting t lits → 0 < length lits
  asserting_some [] asserting = absurd asserting
  asserting_some (l ∷ ls) asserting = omega arith

  -- with the learned clause the trail that went back, to the jump or further, is a run
  pub back_run : (lits : List Lit) (jump level : ℕ) (u : Assigned) (h : Constraints) → 0 < length t.levels → level ≤ jump → IsAsserting t lits
      → IsJump t.entries lits jump → All (λ l. l.var < t.vars) lits
      → ((m : ℕ) → m < jump → HasTwoAbove t.entries m (clause_at db c)) → IsTrail u
      → ((d : List (List Lit)) (links : List (Option (Edge × Edge))) (base : List Edge) → InStep t d links base g → InStep u d links base h)
      → (level < length t.levels → (d : List (List Lit)) (links : List (Option (Edge × Edge))) (base : List Edge) → LacksLast t d links base g → InStep u d links base h)
      → ((d : List (List Lit)) → ((m : ℕ) → m < level → ClosedAt t d m) → Closed u d)
      → (links : List (Option (Edge × Edge))) (base : List Edge) → IsConflicted db links base t g c → IsRun (db ++ lits ∷ []) links base u h
  back_run lits jump level u h some least asserting is vars two trail keeps mends closed links base conflicted =
      let low = jump_below t lits jump some asserting is conflicted.trail in
      record {
        trail = trail;
        step = elim conflicted.step [
          | inl step ↦ keeps (db ++ lits ∷ []) links base (added_clause_keeps.in_step t db lits links base g vars step)
          | inr lacks ↦ mends (omega (arith, low, least)) (db ++ lits ∷ []) links base (added_clause_keeps.lacks_last t db lits links base g vars lacks)
        ];
        closed = closed (db ++ lits ∷ []) (λ m less. closed_with db links base t g c jump lits conflicted asserting is low two m (omega (arith, less, least)));
      }
