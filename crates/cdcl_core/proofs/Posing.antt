-- A problem that fits a log which admits times is posed.
use Rattle.std.proofs.Common.{◌≡◌, refl, arith, ℕ, zero, suc, List, [], ◌∷◌, ◌++◌, length-append, Some, All, ℤ, pos}
use Rattle.std.specs.Prelude.{Bool, IfSome}
use Rattle.std.proofs.lemmas.List.Elements.{All-nil, All-cons, All-head, All-tail}
use Rattle.mt_model.specs.declared.bound.Bound.{Bound}
use Rattle.mt_model.specs.Bounds.{BoundsAreAdmissible, step_of}
use Rattle.mt_model.specs.Form.{Form, IsFormula}
use Rattle.mt_model.specs.Log.{Logged, IsLog}
use Rattle.mt_model.specs.Timing.{Admissible}
use Rattle.mt_model.specs.Walks.{Meets as MeetsEdge, edge_of, node_time}
use Rattle.neg_cycle.specs.declared.system.Edge.{Edge}
use Rattle.neg_cycle.specs.Systems.{Meets, number_of}
use Rattle.difference_graph.specs.Graphs.{HasSolution}
use Rattle.skew_bounds.specs.Edges.{AreEdges, edge_in}
use Rattle.axiom_rules.specs.Sought.{sought_of}
use Rattle.mtl_encode.specs.declared.problem.Problem.{Problem}
use Rattle.mtl_encode.specs.Problems.{Fits}
use Rattle.cdcl_core.specs.Founds.{IsPosed}

-- the times of the nodes as their numbers
node_number : (t : List ℤ) (n : ℕ) → number_of (pos 0 ∷ t) n ≡ node_time t n
node_number t zero = refl
node_number t (suc e) = refl

edges_met : (log : Logged) (t : List ℤ) (bounds : List Bound) (edges : List Edge) → AreEdges log bounds edges
    → All (λ b. IfSome (edge_of log (step_of b)) (MeetsEdge t)) bounds → All (Meets (pos 0 ∷ t)) edges
edges_met log t [] [] are met = All-nil (Meets (pos 0 ∷ t))
edges_met log t [] (e ∷ es) are met = absurd (cc)
edges_met log t (b ∷ bs) [] are met = absurd (cc)
edges_met log t (b ∷ bs) (e ∷ es) are met =
    let here : edge_of log (step_of b) ≡ Some (edge_in e) = cc in
    let others : AreEdges log bs es = cc in
    let first = rw here at (All-head (λ x. IfSome (edge_of log (step_of x)) (MeetsEdge t)) b bs met) in
    All-cons (Meets (pos 0 ∷ t)) e es (rw (node_number t e.from, node_number t e.to) first)
    (edges_met log t bs es others (All-tail (λ x. IfSome (edge_of log (step_of x)) (MeetsEdge t)) b bs met))

-- times that the log admits solve the edges
solvable : BoundsAreAdmissible → (log : Logged) (f : Form) (v : Bool) (p : Problem) (t : List ℤ) → IsLog log → Admissible log t → Fits (sought_of log f v) p → HasSolution p.nodes p.edges
solvable law log f v p t valid admissible fits =
    let met = ((law log t valid).0 admissible).1 in
    record {
      numbers = pos 0 ∷ t ++ met.offsets;
      potential = record {
        count = let count = admissible.count in let clocks = met.count in omega (arith, count, clocks, fits.nodes, length-append t met.offsets);
        meets = edges_met log (t ++ met.offsets) p.bounds p.edges fits.edges (rw fits.bounds met.each);
      };
    }

pub posed : BoundsAreAdmissible → (log : Logged) (f : Form) (v : Bool) (p : Problem) (t : List ℤ) → IsLog log → IsFormula f → Admissible log t → Fits (sought_of log f v) p → IsPosed p
posed law log f v p t valid formula admissible fits = record {
  log = log;
  form = f;
  value = v;
  valid = valid;
  formula = formula;
  fits = fits;
  solvable = solvable law log f v p t valid admissible fits;
}
