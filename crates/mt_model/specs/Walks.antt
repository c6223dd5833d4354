-- Steps between moments, and closed walks of them. Node 0 is the zero moment, whose time is 0; node e + 1 is row e; the nodes behind those of the rows are the clocks, whose times are their offsets.
use Rattle.std.specs.Prelude.{◌≡◌, ℕ, zero, suc, ◌+◌, ◌==◌, ◌&&◌, nat_lt, not, if◌then◌else◌, List, [], ◌∷◌, length, map, Bool, Option, Some, None, option_map, option_and_then, slice_get, ℤ, pos, ◌+ℤ◌, ◌-ℤ◌, ◌<ℤ◌, ◌≤ℤ◌, neg_ℤ}
use Rattle.std.specs.Prelude.{int_le}
use Rattle.mt_model.specs.declared.step.Step.{Step}
use Rattle.mt_model.specs.declared.step.Step.TheVariants.{Low, High, Rise, Message, Late, Under, Over, Extra, Order}
use Rattle.mt_model.specs.declared.limits.TheConstants.{MAX_ORDER}
use Rattle.mt_model.specs.Log.{Logged}
use Rattle.mt_model.specs.Timing.{time_of, local_of, skew_of, gap_of, previous_row, send_of, least_delay, most_delay, clock_of, error_of}

-- the difference constraint that the time of the node `from` less that of the node `to` is at most the bound; as a step of a
-- walk it goes from the one to the other
pub record Edge : Type 0 where
  pub from : ℕ
  pub to : ℕ
  pub bound : ℤ

-- row e is in the log
abbrev pub is_row : Logged → ℕ → Bool
is_row log e = nat_lt e (length log.rows)

-- e and f are two different rows of the log, and c is a bound that an order step may have
abbrev pub is_order : Logged → ℕ → ℕ → ℤ → Bool
is_order log e f c = is_row log e && is_row log f && not (e == f) && int_le (neg_ℤ MAX_ORDER) c && int_le c MAX_ORDER

-- the node of clock k, behind those of the rows
abbrev pub clock_node : Logged → ℕ → ℕ
clock_node log k = suc (length log.rows + k)

-- how many nodes there are: the zero moment, the rows and the clocks
abbrev pub node_count_of : Logged → ℕ
node_count_of log = length log.rows + 1 + length log.clocks

-- the ends and the bound of a step, where the log has it
abbrev pub edge_of : Logged → Step → Option Edge
edge_of log (Low e) = if is_row log e then Some (record { from = 0; to = suc e; bound = skew_of log e -ℤ local_of log e }) else None
edge_of log (High e) = if is_row log e then Some (record { from = suc e; to = 0; bound = local_of log e +ℤ skew_of log e }) else None
edge_of log (Rise f) =
    if is_row log f then option_map (λ e. record { from = suc e; to = suc f; bound = neg_ℤ (gap_of log f) }) (previous_row log f) else None
edge_of log (Message r) = option_map (λ s. record { from = suc s; to = suc r; bound = neg_ℤ (least_delay log r) }) (send_of log r)
edge_of log (Late r) =
    option_and_then (λ s. option_map (λ most. record { from = suc r; to = suc s; bound = most }) (most_delay log r)) (send_of log r)
edge_of log (Under e) =
    if is_row log e then option_map (λ k. record { from = clock_node log k; to = suc e; bound = error_of log e -ℤ local_of log e }) (clock_of log e) else None
edge_of log (Over e) =
    if is_row log e then option_map (λ k. record { from = suc e; to = clock_node log k; bound = local_of log e +ℤ error_of log e }) (clock_of log e) else None
edge_of log (Extra k) =
    option_and_then (λ x. if is_row log x.e && is_row log x.f then Some (record { from = suc x.e; to = suc x.f; bound = x.c }) else None) (slice_get log.extras k)
edge_of log (Order e f c) = if is_order log e f c then Some (record { from = suc e; to = suc f; bound = c }) else None

-- the time of a node, where these are the times of the rows, and behind them the offsets of the clocks
abbrev pub node_time : List ℤ → ℕ → ℤ
node_time t zero = pos 0
node_time t (suc e) = time_of t e

-- these times meet an edge
abbrev pub Meets : List ℤ → Edge → Type 0
Meets t x = (node_time t x.from -ℤ node_time t x.to) ≤ℤ x.bound

-- each edge begins where the one before ends, the first at a, and the last ends at b
abbrev pub LeadsTo : ℕ → List Edge → ℕ → Type 0
LeadsTo a [] b = a ≡ b
LeadsTo a (x ∷ xs) b = (x.from ≡ a) × LeadsTo x.to xs b

-- at least one edge, each begins where the one before ends, and the first begins where the last ends
abbrev pub IsClosedWalk : List Edge → Type 0
IsClosedWalk [] = ⊥
IsClosedWalk (x ∷ xs) = LeadsTo x.to xs x.from

-- the bounds of a walk, added up
abbrev pub sum_of_bounds : List Edge → ℤ
sum_of_bounds [] = pos 0
sum_of_bounds (x ∷ xs) = x.bound +ℤ sum_of_bounds xs

-- these are the edges of the steps, each of which the log has
abbrev pub HasEdges : Logged → List Step → List Edge → Type 0
HasEdges log steps edges = map (edge_of log) steps ≡ map Some edges

-- the steps are bounds of the log or order steps over its rows, and form a closed walk of negative sum
pub record Conflict (log : Logged) (steps : List Step) : Type 0 where
  pub edges : List Edge
  pub found : HasEdges log steps edges
  pub closed : IsClosedWalk edges
  pub negative : sum_of_bounds edges <ℤ pos 0
