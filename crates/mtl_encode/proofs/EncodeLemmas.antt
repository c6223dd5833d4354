-- What the parts of an encoding make together.
use Rattle.std.proofs.Common.{◌≡◌, ◌∙◌, ap, refl, ℕ, ◌^◌, ◌≤◌, Bool, true, List, [], ◌++◌, length, inl, inr, ℤ, arith}
use Rattle.std.specs.Prelude.{◌↔◌, All}
use Rattle.mt_model.specs.declared.bound.Bound.{Bound}
use Rattle.mt_model.specs.Bounds.{BoundsAreAdmissible, bounds_of}
use Rattle.mt_model.specs.Form.{Form}
use Rattle.mt_model.specs.Log.{IsLog, Logged}
use Rattle.mt_model.specs.Timing.{Admissible}
use Rattle.mt_model.specs.Truth.{truth}
use Rattle.mt_model.specs.Walks.{node_count_of}
use Rattle.neg_cycle.specs.declared.system.Edge.{Edge}
use Rattle.neg_cycle.specs.Systems.{IsEdge}
use Rattle.formula_arena.specs.Nodes.{IsArena}
use Rattle.formula_arena.specs.Subtrees.{same_form}
use Rattle.axiom_rules.specs.declared.rule.Rule.{Rule}
use Rattle.axiom_rules.specs.Atoms.{AreOnce}
use Rattle.axiom_rules.specs.Sought.{Sought, sought_of}
use Rattle.mtl_encode.proofs.ClauseGrowth.{few-rules}
use Rattle.mtl_encode.proofs.InstanceCounts.{room-for-all}
use Rattle.mtl_encode.proofs.KeptRules.{instances-listed}
use Rattle.question.proofs.TightExtremes.{tight-consistent, tight-extremes}
use Rattle.mtl_encode.specs.declared.clauses.Clauses.{Clauses}
use Rattle.mtl_encode.specs.Asked.{AreAsked}
use Rattle.mtl_encode.specs.Growth.{AreClauses, Gains, HasRoom, most_literals_of}
use Rattle.mtl_encode.specs.Instances.{instances, out_by}
use Rattle.mtl_encode.specs.Exact.{RulesAreExact}
use Rattle.mtl_encode.specs.Kept.{Kept}
use Rattle.mtl_encode.specs.Listing.{ListsRules}
use Rattle.mtl_encode.specs.Models.{IsModel}
use Rattle.mtl_encode.specs.declared.problem.Problem.{Problem}
use Rattle.mtl_encode.proofs.ModelLemmas.{model-exact}
use Rattle.question.specs.Extremes.{extremes_of}
use Rattle.skew_bounds.specs.Differences.{Differences}
use Rattle.skew_bounds.specs.Edges.{AreEdges}
use Rattle.skew_bounds.specs.RowTimes.{times_of}
use Rattle.skew_bounds.specs.Tight.{IsTight}
use Rattle.mtl_encode.specs.Problems.{Fits}
use Rattle.question.specs.Size.{IsSmall, size_by}

-- there is room for all rules that are kept
pub room-of : ((f g : Form) → (same_form f g ≡ true) ↔ (f ≡ g)) → (s : Sought) (d : Differences) → IsLog s.log → IsArena s.trees
    → IsTight s.log d → IsSmall s.log s.trees → HasRoom s (instances s (out_by d s))
room-of same s d valid arena tight small =
    let consistent = tight-consistent s.log d tight valid.some_rows in
    let size = small (size_by (extremes_of d) (length s.log.rows) s.trees) (inr (record { consistent = consistent; extremes = extremes_of d; are = tight-extremes s.log d tight; size = refl })) in
    room-for-all (extremes_of d) s same arena valid.some_rows valid.few_rows size

pub room-first : (s : Sought) (none rules : List Rule) → none ≡ [] → HasRoom s rules → HasRoom s (none ++ rules)
room-first s none rules empty room = rw empty room

-- the rules that were added to none are all that have a clause
pub all-listed : (s : Sought) (out : Rule → Bool) (empty added : Clauses) (rules : List Rule) → empty.rules ≡ [] → Gains s empty added (instances s out) → rules ≡ added.rules → rules ≡ instances s out
all-listed s out empty added rules none gained is = is ∙ gained.rules ∙ ap (λ rules. rules ++ instances s out) none

pub few-atoms : (s : Sought) (out : Rule → Bool) (empty added : Clauses) → empty.rules ≡ [] → Gains s empty added (instances s out) → HasRoom s (instances s out) → length added.atoms ≤ 2 ^ 29
few-atoms s out empty added none gained room =
    let literals : most_literals_of s added.rules ≡ most_literals_of s (instances s out) = ap (most_literals_of s) (all-listed s out empty added added.rules none gained refl) in
    omega (arith, room, literals, gained.clauses.few)

pub few-listed : (s : Sought) (out : Rule → Bool) (rules : List Rule) → rules ≡ instances s out → HasRoom s (instances s out) → length rules ≤ 2 ^ 29
few-listed s out rules all room = omega (arith, room, ap (most_literals_of s) all, few-rules s rules)

pub lists-of : (s : Sought) (left : Sought → Rule → Bool) (rules : List Rule) → rules ≡ instances s (left s) → ListsRules s (left s) rules
lists-of s left rules all = rw all (instances-listed s (left s))

-- what a problem says whose rules are those that the differences of a log's events leave
module _ (log : Logged) (f : Form) (v : Bool) (d : Differences) (p : Problem) (valid : IsLog log) (tight : IsTight log d) (lists : ListsRules (sought_of log f v) (out_by d (sought_of log f v)) p.rules) where
  pub kept-of : Kept log f v p.rules
  kept-of = inl (record { consistent = tight-consistent log d tight valid.some_rows; extremes = extremes_of d; are = tight-extremes log d tight; lists = lists })

  pub exact-of : RulesAreExact → BoundsAreAdmissible → Fits (sought_of log f v) p → AreOnce p.atoms → (values : List Bool) (numbers : List ℤ) → IsModel p values numbers
      → Admissible log (times_of (length log.rows) numbers) × (truth log (times_of (length log.rows) numbers) 0 f ≡ v)
  exact-of exact law fits once values numbers model = model-exact exact law log f v (extremes_of d) p values numbers valid (tight-extremes log d tight) fits lists once model
