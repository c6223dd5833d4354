-- Bounds of a log as edges of a system of difference constraints.
use Rattle.std.specs.Prelude.{◌≡◌, ℕ, ◌<◌, List, length, Some, map, slice_index_or}
use Rattle.neg_cycle.specs.declared.system.Edge.{Edge as SystemEdge}
use Rattle.mt_model.specs.declared.bound.Bound.{Bound}
use Rattle.mt_model.specs.declared.bound.Bound.TheVariants as bound
use Rattle.mt_model.specs.Bounds.{step_of}
use Rattle.mt_model.specs.declared.spans.Span.{Span}
use Rattle.mt_model.specs.Log.{Logged}
use Rattle.mt_model.specs.Spans.{IsSpan, span_of}
use Rattle.mt_model.specs.Walks.{Edge, edge_of}

-- an edge of a system, as an edge between moments
abbrev pub edge_in : SystemEdge → Edge
edge_in e = record { from = e.from; to = e.to; bound = e.bound }

-- the skew and the gap are those of row e, which is in the log
pub record IsSpanAt (log : Logged) (e : ℕ) (span : Span) : Type 0 where
  pub row : e < length log.rows
  pub same : span ≡ span_of log e
  pub range : IsSpan span

-- the bound at a place of a list
abbrev pub bound_at : List Bound → ℕ → Bound
bound_at bounds p = slice_index_or bounds p (bound.Extra 0)

-- these are the edges of the bounds, place by place
abbrev pub AreEdges : Logged → List Bound → List SystemEdge → Type 0
AreEdges log bounds edges = map (λ b. edge_of log (step_of b)) bounds ≡ map (λ e. Some (edge_in e)) edges
