-- The table of the greatest numbers that meet the edges of a log's bounds is exact for the rows of the log.
use Rattle.std.proofs.Common.{◌≡◌, ◌∙◌, refl, arith, ℕ, zero, suc, ◌+◌, ◌<◌, add-one, List, [], ◌∷◌, ◌++◌, length, get_or, Some, All, ℤ, pos, ◌-ℤ◌}
use Rattle.std.specs.Prelude.{IfSome}
use Rattle.std.proofs.lemmas.Int.{ints}
use Rattle.std.proofs.lemmas.List.{length-append}
use Rattle.std.proofs.lemmas.List.Elements.{All-append, All-nil, All-cons, All-head, All-tail}
use Rattle.mt_model.specs.declared.bound.Bound.{Bound}
use Rattle.mt_model.specs.declared.limits.TheConstants.{MAX_TIME}
use Rattle.mt_model.specs.Bounds.{BoundsAreAdmissible, MeetsEach, bounds_of, step_of}
use Rattle.mt_model.specs.Clocks.{offsets_of}
use Rattle.mt_model.specs.Log.{IsLog, IsWithin, Logged}
use Rattle.mt_model.specs.Timing.{Admissible, AreOffsets}
use Rattle.mt_model.specs.Walks.{Meets, edge_of, node_time, node_count_of}
use Rattle.mt_model.proofs.BoundLists.{met}
use Rattle.mt_model.proofs.NodeTimes.{row-time}
use Rattle.mt_model.proofs.Offsets.{agree-from, offsets-from, offsets-near}
use Rattle.neg_cycle.specs.declared.system.Edge.{Edge as SystemEdge}
use Rattle.neg_cycle.specs.Systems as system
use Rattle.skew_bounds.specs.Differences.{AreSmall, Differences, IsOfRows, entry}
use Rattle.skew_bounds.specs.Edges.{AreEdges, edge_in}
use Rattle.skew_bounds.specs.Incoming.{AreIncoming, IsNear}
use Rattle.skew_bounds.specs.RowTimes.{times_of}
use Rattle.skew_bounds.specs.Table.{IsColumnOf, IsTableOf}
use Rattle.skew_bounds.specs.Tight.{IsGreatestDifference, IsLeastDifference, IsTight, greatest_of, least_of}
use Rattle.skew_bounds.proofs.EdgeLists.{all-edges, all-incoming}
use Rattle.skew_bounds.proofs.Near.{admissible-near, times-near}
use Rattle.skew_bounds.proofs.Settled.{node-times, tail-same, timing-of}

-- the times of the nodes as numbers, of which the zero moment has 0
node-number : (t : List ℤ) (v : ℕ) → system.number_of (pos 0 ∷ t) v ≡ node_time t v
node-number t zero = refl
node-number t (suc e) = refl

-- times that meet every bound are numbers that meet every edge
edges-met : (log : Logged) (bounds : List Bound) (edges : List SystemEdge) (t : List ℤ) → AreEdges log bounds edges
    → All (λ b. IfSome (edge_of log (step_of b)) (Meets t)) bounds → All (system.Meets (pos 0 ∷ t)) edges
edges-met log [] [] t are met = All-nil (system.Meets (pos 0 ∷ t))
edges-met log [] (e ∷ es) t are met = absurd (cc)
edges-met log (b ∷ bs) [] t are met = absurd (cc)
edges-met log (b ∷ bs) (e ∷ es) t are met =
    let same = tail-same (λ b. edge_of log (step_of b)) (λ e. Some (edge_in e)) b bs e es are in
    let here = rw same.0 at (All-head (λ b. IfSome (edge_of log (step_of b)) (Meets t)) b bs met) in
    let from = node-number t e.from in
    let to = node-number t e.to in
    All-cons (system.Meets (pos 0 ∷ t)) e es (omega (arith, ints, here, from, to)) (edges-met log bs es t same.1 (All-tail (λ b. IfSome (edge_of log (step_of b)) (Meets t)) b bs met))

module _ (law : BoundsAreAdmissible) (log : Logged) (valid : IsLog log) (edges : List SystemEdge) (incoming : List (List SystemEdge)) (are : AreEdges log (bounds_of log) edges)
    (within : All (system.IsEdge (node_count_of log)) edges) (lists : AreIncoming (node_count_of log) edges incoming) where
  -- an admissible timing, with the least offsets that its rows allow, is a solution of the edges
  module _ (t : List ℤ) (ok : Admissible log t) where
    offsets : AreOffsets log t (offsets_of log t)
    offsets = offsets-from log valid t (agree-from log valid t ok.clocks.offsets ok.clocks.are)

    abbrev with-least : Admissible log t
    with-least = record {
      count = ok.count;
      low = ok.low;
      high = ok.high;
      rise = ok.rise;
      message = ok.message;
      late = ok.late;
      extra = ok.extra;
      clocks = record { offsets = offsets_of log t; are = offsets };
    }

    bounds-met : MeetsEach log (t ++ offsets_of log t)
    bounds-met k d below = met log t with-least (get_or (bounds_of log) k d)

    pub near-of : IsNear incoming (pos 0 ∷ t ++ offsets_of log t)
    near-of = record {
      solution = record {
        count = let size = ok.count in let nodes = lists.count in let clocks = offsets.count in omega (arith, size, nodes, clocks, length-append t (offsets_of log t));
        meets =
            λ v below. all-incoming (node_count_of log) edges incoming lists within (system.Meets (pos 0 ∷ t ++ offsets_of log t))
            (edges-met log (bounds_of log) edges (t ++ offsets_of log t) are bounds-met) v (rw lists.count at below);
      };
      near =
          All-cons (IsWithin MAX_TIME) (pos 0) (t ++ offsets_of log t) (record { low = omega (arith, ints); high = omega (arith, ints) })
          (All-append (IsWithin MAX_TIME) t (offsets_of log t) (times-near log valid t ok) (offsets-near log valid t ok));
    }

  module _ (d : Differences) (table : IsTableOf (length log.rows + 1) incoming d) where
    size : d.nodes ≡ length log.rows + 1
    size = table.nodes

    -- a column gives an admissible timing
    module _ (node : ℕ) (in-node : node < length log.rows + 1) where
      column : IsColumnOf incoming d node
      column = table.columns node (rw size in-node)

      timing : List ℤ
      timing = times_of (length log.rows) column.numbers

      column-count : length column.numbers ≡ node_count_of log
      column-count = column.latest.solution.count ∙ lists.count

      column-admissible : Admissible log timing
      unfolding timing
      column-admissible = timing-of law log valid (bounds_of log) edges column.numbers refl are within (record {
        count = column-count;
        meets = all-edges (node_count_of log) edges incoming lists within (system.Meets column.numbers) (λ v below. column.latest.solution.meets v (rw lists.count below));
      })

      -- in which the times are as far apart as the column says
      column-times : (i : ℕ) → i < length log.rows + 1 → node_time timing i ≡ entry d i node -ℤ system.number_of column.numbers 0
      unfolding timing
      column-times i in-i = rw (column.entries i (rw size in-i)) (node-times (length log.rows) column.numbers i (rw column-count (omega arith)) in-i)

      column-own : entry d node node ≡ pos 0
      column-own = column.entries node (rw size in-node) ∙ column.latest.own

    small : AreSmall d
    small i node in-i in-node =
        let row = rw size at in-i in
        let place = rw size at in-node in
        let admissible = column-admissible node place in
        let first = admissible-near log valid (timing node place) admissible i row in
        let second = admissible-near log valid (timing node place) admissible node place in
        let here = column-times node place i row in
        let there = column-times node place node place in
        let own = column-own node place in
        record {
          low = omega (arith, ints, first.low, second.high, here, there, own);
          high = omega (arith, ints, first.high, second.low, here, there, own);
        }

    pub of-rows : IsOfRows d
    of-rows = record { zero_moment = rw size (omega arith); small = small }

    pub greatest-exact : (e f : ℕ) → e < length log.rows → f < length log.rows → IsGreatestDifference log e f (greatest_of d e f)
    greatest-exact e f in-e in-f =
        let in-first : suc e < length log.rows + 1 = omega arith in
        let in-second : suc f < length log.rows + 1 = omega arith in
        let time-e = column-times (suc e) in-first (suc e) in-first in
        let time-f = column-times (suc e) in-first (suc f) in-second in
        let own = column-own (suc e) in-first in
        rw (add-one f, add-one e)
        (record {
          attained = record {
            timing = timing (suc e) in-first;
            admissible = column-admissible (suc e) in-first;
            same = omega (arith, ints, time-e, time-f, own);
          };
          bound = λ t admissible.
              let least = near-of t admissible in
              let most = (column (suc e) in-first).latest.greatest (pos 0 ∷ t ++ offsets_of log t) least (suc f) (rw lists.count (omega (arith, in-second))) in
              let read = (column (suc e) in-first).entries (suc f) (rw size in-second) in
              let first = row-time log t (offsets_of log t) admissible.count e in-e in
              let second = row-time log t (offsets_of log t) admissible.count f in-f in
              omega (arith, ints, most, read, first, second);
        })

    least-exact : (e f : ℕ) → e < length log.rows → f < length log.rows → IsLeastDifference log e f (least_of d e f)
    least-exact e f in-e in-f =
        let back = greatest-exact f e in-f in-e in
        let same = back.attained.same in
        record {
          attained = record {
            timing = (back.attained).timing;
            admissible = (back.attained).admissible;
            same = omega (arith, ints, same);
          };
          bound = λ t admissible. let above = back.bound t admissible in omega (arith, ints, above);
        }

    pub exact : IsTight log d
    exact = record {
      events = rw size (omega arith);
      greatest = greatest-exact;
      least = least-exact;
    }
