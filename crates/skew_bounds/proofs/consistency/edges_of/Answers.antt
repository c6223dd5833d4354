use Rattle.std.proofs.Common.{◌≡◌, ◌∙◌, ap, sym, subst, ℕ, ◌+◌, ◌<◌, List, [], ◌∷◌, ◌++◌, length, map, take, get_or, All, Some}
use Rattle.std.proofs.lemmas.List.{map_more, map-append, take_all}
use Rattle.std.proofs.lemmas.List.Elements.{All-nil, All-push}
use Rattle.mt_model.specs.declared.bound.Bound.{Bound}
use Rattle.mt_model.specs.Bounds.{step_of}
use Rattle.mt_model.specs.Log.{Logged}
use Rattle.mt_model.specs.Walks.{edge_of, node_count_of}
use Rattle.neg_cycle.specs.declared.system.Edge.{Edge}
use Rattle.neg_cycle.specs.Systems.{IsEdge}
use Rattle.skew_bounds.specs.Edges.{AreEdges, edge_in}
use Rattle.skew_bounds.proofs.consistency.edges_of.Goals as goal

-- the edge of one bound more
edges-more : (log : Logged) (bounds : List Bound) (edges new : List Edge) (i : ℕ) (b : Bound) (e : Edge) → i < length bounds → b ≡ get_or bounds i b → Some (edge_in e) ≡ edge_of log (step_of b)
    → AreEdges log (take i bounds) edges → new ≡ edges ++ e ∷ [] → AreEdges log (take (i + 1) bounds) new
edges-more log bounds edges new i b e below at is so_far pushed =
    map_more (λ c. edge_of log (step_of c)) bounds i b below ∙ (λ j. so_far j ++ (ap (λ c. edge_of log (step_of c)) (sym at) ∙ sym is) j ∷ [])
    ∙ sym (map-append (λ d. Some (edge_in d)) edges (e ∷ [])) ∙ ap (map (λ d. Some (edge_in d))) (sym pushed)

pub edge_by-requires : goal.edge_by-requires
edge_by-requires c = c.as_slice.ensures.items ∙ c.in_ok-spans.ensures.spans

pub loop-bound-init : goal.loop-bound-init
loop-bound-init c =
    let none = sym c.new-edges.ensures.items in
    record {
      edges = ap (map (λ d. Some (edge_in d))) none;
      within = subst (All (IsEdge (node_count_of c.args.log.now))) none (All-nil (IsEdge (node_count_of c.args.log.now)));
    }

pub loop-bound-preserved : goal.loop-bound-preserved
loop-bound-preserved c =
    let pushed = c.in_ok-push-in-Some.ensures.ok in
    record {
      edges =
          edges-more c.args.log.now c.args.bounds.now c.loop-bound.edges c.push.new.self c.loop-bound.bound-index c.bound-item.result c.in-Some.edge c.loop-bound-test.true c.bound-item.is
          c.in-Some.ensures.edge c.loop-bound.invariant.edges pushed;
      within =
          subst (All (IsEdge (node_count_of c.args.log.now))) (sym pushed)
          (All-push (IsEdge (node_count_of c.args.log.now)) c.loop-bound.edges c.in-Some.edge c.loop-bound.invariant.within c.in-Some.ensures.within);
    }

pub returns : goal.returns
returns c = record {
  edges = subst (λ bounds. AreEdges c.args.log.now bounds c.loop-bound.edges) (take_all c.loop-bound.bound-index c.args.bounds.now c.loop-bound-test.false) c.loop-bound.invariant.edges;
  within = c.loop-bound.invariant.within;
}
