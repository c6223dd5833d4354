use Rattle.std.proofs.Common.{◌≡◌, rules, arith, true, false, pos}
use Rattle.std.specs.BinaryHeap.{heap_items}
use Rattle.std.proofs.lemmas.List.Elements.{All-contains_itself}
use Rattle.std.proofs.lemmas.List.Sorted.{length_permutation}
use Rattle.neg_cycle.specs.Systems.{edge_at}
use Rattle.difference_graph.proofs.RepairLemmas.{meets, misses}
use Rattle.difference_graph.proofs.QueueLemmas.{none_missed, first_waits, held_first, queue_stale, next_found, rest_found, still_fewer}
use Rattle.difference_graph.proofs.queue.next_missed.Goals as goal

pub loop-next-init : goal.loop-next-init
loop-next-init c = record { order = c.requires.order; queue = c.requires.queue; fewer = All-contains_itself (heap_items c.args.waiting.now); room = omega arith }

pub bounds-edges-next : goal.bounds-edges-next
bounds-edges-next c =
    let inv = c.loop-next.invariant in
    (first_waits c.args.edges.now c.args.numbers.now (heap_items c.loop-next.waiting) inv.queue c.in-Some.next (heap_items c.next_waiting.new.waiting) c.in-Some.ensures.taken).within

pub is_met-requires-clause-edge : goal.is_met-requires-clause-edge
is_met-requires-clause-edge c =
    let inv = c.loop-next.invariant in
    let within = (first_waits c.args.edges.now c.args.numbers.now (heap_items c.loop-next.waiting) inv.queue c.in-Some.next (heap_items c.next_waiting.new.waiting) c.in-Some.ensures.taken).within in
    c.requires.edges c.in-Some.next.place (record { from = 0; to = 0; bound = pos 0 }) within

pub returns-then-not-is_met-clause-next : goal.returns-then-not-is_met-clause-next
returns-then-not-is_met-clause-next c =
    let inv = c.loop-next.invariant in
    let not : c.is_met.result ≡ false = search (rules, c.if-not-is_met.true) in
    let missed = misses c.args.numbers.now (edge_at c.args.edges.now c.in-Some.next.place) c.is_met.result c.is_met.ensures.met not in
    next_found c.args.edges.now c.args.numbers.now (heap_items c.loop-next.waiting) inv.queue c.in-Some.next
    (heap_items c.next_waiting.new.waiting) c.in-Some.ensures.taken missed c.in-Some.ensures.most

pub returns-then-not-is_met-clause-waited : goal.returns-then-not-is_met-clause-waited
returns-then-not-is_met-clause-waited c =
    let inv = c.loop-next.invariant in
    held_first (heap_items c.args.waiting.now) (heap_items c.loop-next.waiting) (heap_items c.next_waiting.new.waiting) c.in-Some.next inv.fewer c.in-Some.ensures.taken

pub returns-then-not-is_met-clause-rest : goal.returns-then-not-is_met-clause-rest
returns-then-not-is_met-clause-rest c =
    let inv = c.loop-next.invariant in
    rest_found c.args.edges.now c.args.numbers.now (heap_items c.loop-next.waiting) inv.queue c.in-Some.next (heap_items c.next_waiting.new.waiting) c.in-Some.ensures.taken

pub returns-then-not-is_met-clause-fewer : goal.returns-then-not-is_met-clause-fewer
returns-then-not-is_met-clause-fewer c =
    let inv = c.loop-next.invariant in
    still_fewer (heap_items c.args.waiting.now) (heap_items c.loop-next.waiting) (heap_items c.next_waiting.new.waiting) c.in-Some.next inv.fewer c.in-Some.ensures.taken

pub loop-next-smaller : goal.loop-next-smaller
loop-next-smaller c =
    let count = length_permutation _ _ c.in-Some.ensures.taken in
    omega (arith, count)

pub loop-next-preserved : goal.loop-next-preserved
loop-next-preserved c =
    let inv = c.loop-next.invariant in
    let is : c.is_met.result ≡ true = search (rules, c.if-not-is_met.false) in
    let met = meets c.args.numbers.now (edge_at c.args.edges.now c.in-Some.next.place) (c.is_met.ensures.met.0 is) in
    record {
      order = c.in-Some.ensures.order;
      queue = queue_stale c.args.edges.now c.args.numbers.now (heap_items c.loop-next.waiting) inv.queue c.in-Some.next (heap_items c.next_waiting.new.waiting) c.in-Some.ensures.taken met;
      fewer = still_fewer (heap_items c.args.waiting.now) (heap_items c.loop-next.waiting) (heap_items c.next_waiting.new.waiting) c.in-Some.next inv.fewer c.in-Some.ensures.taken;
      room = omega (arith, inv.room, c.in-Some.ensures.room);
    }

pub returns-clause-met : goal.returns-clause-met
returns-clause-met c =
    let inv = c.loop-next.invariant in
    none_missed c.args.edges.now c.args.numbers.now (heap_items c.loop-next.waiting) inv.queue c.in_default.ensures.none
