use Rattle.std.proofs.Common.{◌≡◌, ◌∙◌, ap, sym, subst, refl, ℕ, arith, length, pos}
use Rattle.std.specs.Prelude.{All}
use Rattle.std.specs.BinaryHeap.{heap_items}
use Rattle.std.proofs.lemmas.List.{get_or_default, length_push}
use Rattle.neg_cycle.specs.declared.system.Edge.{Edge}
use Rattle.neg_cycle.specs.Systems.{IsEdge, edge_at}
use Rattle.difference_graph.specs.Repairs.{MeetsOthers}
use Rattle.difference_graph.proofs.TreeLemmas.{tree_short}
use Rattle.difference_graph.proofs.RepairLemmas.{near_numbers, repair_numbers, repair_start, fewer_left}
use Rattle.difference_graph.proofs.WorkLemmas.{others_of_first, repair_differs, state_first, state_room, lowered_repair, lowered_numbers, lowered_queue, lowered_noted, state_more, closing_tree, closing_leads, closing_cycle}
use Rattle.difference_graph.proofs.repair.repair.Goals as goal

pub trace-requires-clause-leads : goal.trace-requires-clause-leads
trace-requires-clause-leads c =
    let edges = c.args.held.now.edges.items in
    let is_end = ap (λ (e : Edge). e.to) (c.index.ensures ∙ get_or_default edges c.args.place _ _ (omega (arith, c.requires.place))) in
    let others : MeetsOthers edges c.index.result.now.to c.args.numbers.now = rw is_end (others_of_first edges c.args.place c.args.numbers.now c.requires.place c.requires.first) in
    let closing = rw c.deref.ensures.value at c.in-Some.ensures.closing in
    rw (c.deref-in-Some.ensures.value, c.deref-in-Some-2.ensures.value, c.clear-2.ensures.items)
    (closing_leads edges c.index.result.now.to c.args.numbers.now others c.args.numbers.now _
    (repair_start edges c.index.result.now.to c.args.numbers.now c.requires.system c.requires.near) c.in-Some.closing closing)

pub returns-in-Some-clause-cycle : goal.returns-in-Some-clause-cycle
returns-in-Some-clause-cycle c =
    let edges = c.args.held.now.edges.items in
    let is_end = ap (λ (e : Edge). e.to) (c.index.ensures ∙ get_or_default edges c.args.place _ _ (omega (arith, c.requires.place))) in
    let others : MeetsOthers edges c.index.result.now.to c.args.numbers.now = rw is_end (others_of_first edges c.args.place c.args.numbers.now c.requires.place c.requires.first) in
    let closing = rw c.deref.ensures.value at c.in-Some.ensures.closing in
    let trace = rw (c.deref-in-Some.ensures.value, c.deref-in-Some-2.ensures.value, c.clear-2.ensures.items) at c.trace.ensures.trace in
    closing_cycle edges c.index.result.now.to c.args.numbers.now others c.args.numbers.now _
    (repair_start edges c.index.result.now.to c.args.numbers.now c.requires.system c.requires.near) c.in-Some.closing closing
    c.trace.new.walk.items trace

pub loop-next-init : goal.loop-next-init
loop-next-init c =
    let edges = c.args.held.now.edges.items in
    let is_end = ap (λ (e : Edge). e.to) (c.index.ensures ∙ get_or_default edges c.args.place _ _ (omega (arith, c.requires.place))) in
    let enqueued = rw c.deref.ensures.value at c.in_default.ensures.enqueued in
    record {
      others = rw is_end (others_of_first edges c.args.place c.args.numbers.now c.requires.place c.requires.first);
      state =
          state_first edges c.args.place c.index.result.now.to c.args.numbers.now _ _ _ _ is_end c.requires.system c.requires.near
          c.requires.place c.requires.first c.clear-2.ensures.items c.clear-3.ensures.items c.clear.ensures.items enqueued;
      order = c.in_default.ensures.order;
      room = record {
        waiting = omega (arith, c.clear.ensures.capacity, c.in_default.ensures.room);
        order = omega (arith, c.clear-2.ensures.capacity);
        former = omega (arith, c.clear-3.ensures.capacity);
        walk = omega arith;
      };
    }

pub next_missed-requires-clause-numbers : goal.next_missed-requires-clause-numbers
next_missed-requires-clause-numbers c =
    let edges = c.args.held.now.edges.items in
    let end = c.index.result.now.to in
    let old = c.args.numbers.now in
    let inv = c.loop-next.invariant in
    repair_numbers edges end old inv.others c.loop-next.numbers c.loop-next.work.order.items inv.state.repair c.requires.near

pub lower-requires-clause-numbers : goal.lower-requires-clause-numbers
lower-requires-clause-numbers c =
    let edges = c.args.held.now.edges.items in
    let end = c.index.result.now.to in
    let old = c.args.numbers.now in
    let inv = c.loop-next.invariant in
    repair_numbers edges end old inv.others c.loop-next.numbers c.loop-next.work.order.items inv.state.repair c.requires.near

pub lower-requires-clause-order_room : goal.lower-requires-clause-order_room
lower-requires-clause-order_room c =
    let edges = c.args.held.now.edges.items in
    let end = c.index.result.now.to in
    let old = c.args.numbers.now in
    let inv = c.loop-next.invariant in
    let next = rw c.deref-in-loop-next.ensures.value at c.in-Some-next_missed.ensures.next in
    let room =
    state_room edges end old c.requires.system inv.others c.requires.near c.loop-next.numbers c.loop-next.work.order.items
    c.loop-next.work.former.items (heap_items c.loop-next.work.waiting) inv.state c.in-Some-next_missed.next next
    c.in-Some-next_missed.ensures.waited in
    omega (arith, room, inv.room.order, c.requires.room.order)

pub lower-requires-clause-former_room : goal.lower-requires-clause-former_room
lower-requires-clause-former_room c =
    let edges = c.args.held.now.edges.items in
    let end = c.index.result.now.to in
    let old = c.args.numbers.now in
    let inv = c.loop-next.invariant in
    let next = rw c.deref-in-loop-next.ensures.value at c.in-Some-next_missed.ensures.next in
    let room =
    state_room edges end old c.requires.system inv.others c.requires.near c.loop-next.numbers c.loop-next.work.order.items
    c.loop-next.work.former.items (heap_items c.loop-next.work.waiting) inv.state c.in-Some-next_missed.next next
    c.in-Some-next_missed.ensures.waited in
    omega (arith, room, inv.room.former, c.requires.room.former, inv.state.noted.count)

pub enqueue_incoming-requires-clause-numbers : goal.enqueue_incoming-requires-clause-numbers
enqueue_incoming-requires-clause-numbers c =
    let edges = c.args.held.now.edges.items in
    let end = c.index.result.now.to in
    let old = c.args.numbers.now in
    let inv = c.loop-next.invariant in
    let next = rw c.deref-in-loop-next.ensures.value at c.in-Some-next_missed.ensures.next in
    let lowered = rw c.deref-in-Some-next_missed.ensures.value at c.lower.ensures.numbers in
    lowered_numbers edges end old c.requires.system inv.others c.requires.near c.loop-next.numbers c.loop-next.work.order.items
    c.loop-next.work.former.items (heap_items c.loop-next.work.waiting) inv.state c.in-Some-next_missed.next next
    c.in-Some-next_missed.ensures.waited c.lower.new.numbers lowered c.lower.new.order.items c.lower.ensures.order

pub enqueue_incoming-requires-clause-queue : goal.enqueue_incoming-requires-clause-queue
enqueue_incoming-requires-clause-queue c =
    let edges = c.args.held.now.edges.items in
    let end = c.index.result.now.to in
    let old = c.args.numbers.now in
    let inv = c.loop-next.invariant in
    let next = rw c.deref-in-loop-next.ensures.value at c.in-Some-next_missed.ensures.next in
    let lowered = rw c.deref-in-Some-next_missed.ensures.value at c.lower.ensures.numbers in
    let rest = rw c.deref-in-loop-next.ensures.value at c.in-Some-next_missed.ensures.rest in
    let is_node = ap (λ (e : Edge). e.from) (c.index-in-Some-next_missed.ensures ∙ get_or_default edges c.in-Some-next_missed.next _ _ next.tightest.within) in
    rw is_node (lowered_queue edges end old c.requires.system inv.others c.requires.near c.loop-next.numbers c.loop-next.work.order.items
    c.loop-next.work.former.items (heap_items c.loop-next.work.waiting) inv.state c.in-Some-next_missed.next next
    c.in-Some-next_missed.ensures.waited c.lower.new.numbers lowered c.lower.new.order.items c.lower.ensures.order
    (heap_items c.next_missed.new.waiting) rest c.in-Some-next_missed.ensures.fewer)

pub trace-requires-in-Some-enqueue_incoming-clause-tree : goal.trace-requires-in-Some-enqueue_incoming-clause-tree
trace-requires-in-Some-enqueue_incoming-clause-tree c =
    let edges = c.args.held.now.edges.items in
    let end = c.index.result.now.to in
    let old = c.args.numbers.now in
    let inv = c.loop-next.invariant in
    let next = rw c.deref-in-loop-next.ensures.value at c.in-Some-next_missed.ensures.next in
    let lowered = rw c.deref-in-Some-next_missed.ensures.value at c.lower.ensures.numbers in
    rw (c.deref-in-Some-enqueue_incoming.ensures.value, c.deref-in-Some-enqueue_incoming-2.ensures.value)
    (closing_tree edges end old inv.others c.lower.new.numbers c.lower.new.order.items
    (lowered_repair edges end old c.requires.system inv.others c.requires.near c.loop-next.numbers c.loop-next.work.order.items
    c.loop-next.work.former.items (heap_items c.loop-next.work.waiting) inv.state c.in-Some-next_missed.next next
    c.in-Some-next_missed.ensures.waited c.lower.new.numbers lowered c.lower.new.order.items c.lower.ensures.order)
    c.in-Some-enqueue_incoming.closing c.in-Some-enqueue_incoming.ensures.closing)

pub trace-requires-in-Some-enqueue_incoming-clause-leads : goal.trace-requires-in-Some-enqueue_incoming-clause-leads
trace-requires-in-Some-enqueue_incoming-clause-leads c =
    let edges = c.args.held.now.edges.items in
    let end = c.index.result.now.to in
    let old = c.args.numbers.now in
    let inv = c.loop-next.invariant in
    let next = rw c.deref-in-loop-next.ensures.value at c.in-Some-next_missed.ensures.next in
    let lowered = rw c.deref-in-Some-next_missed.ensures.value at c.lower.ensures.numbers in
    rw (c.deref-in-Some-enqueue_incoming.ensures.value, c.deref-in-Some-enqueue_incoming-2.ensures.value)
    (closing_leads edges end old inv.others c.lower.new.numbers c.lower.new.order.items
    (lowered_repair edges end old c.requires.system inv.others c.requires.near c.loop-next.numbers c.loop-next.work.order.items
    c.loop-next.work.former.items (heap_items c.loop-next.work.waiting) inv.state c.in-Some-next_missed.next next
    c.in-Some-next_missed.ensures.waited c.lower.new.numbers lowered c.lower.new.order.items c.lower.ensures.order)
    c.in-Some-enqueue_incoming.closing c.in-Some-enqueue_incoming.ensures.closing)

pub trace-requires-in-Some-enqueue_incoming-clause-room : goal.trace-requires-in-Some-enqueue_incoming-clause-room
trace-requires-in-Some-enqueue_incoming-clause-room c =
    let edges = c.args.held.now.edges.items in
    let end = c.index.result.now.to in
    let old = c.args.numbers.now in
    let inv = c.loop-next.invariant in
    let next = rw c.deref-in-loop-next.ensures.value at c.in-Some-next_missed.ensures.next in
    let lowered = rw c.deref-in-Some-next_missed.ensures.value at c.lower.ensures.numbers in
    let few =
    tree_short edges (length old) c.requires.system.each end c.lower.new.order.items
    (lowered_repair edges end old c.requires.system inv.others c.requires.near c.loop-next.numbers c.loop-next.work.order.items
    c.loop-next.work.former.items (heap_items c.loop-next.work.waiting) inv.state c.in-Some-next_missed.next next
    c.in-Some-next_missed.ensures.waited c.lower.new.numbers lowered c.lower.new.order.items c.lower.ensures.order).tree in
    rw c.deref-in-Some-enqueue_incoming-2.ensures.value (omega (arith, few, inv.room.walk, c.requires.room.walk))

pub put_back-requires-clause-within : goal.put_back-requires-clause-within
put_back-requires-clause-within c =
    let edges = c.args.held.now.edges.items in
    let end = c.index.result.now.to in
    let old = c.args.numbers.now in
    let inv = c.loop-next.invariant in
    let next = rw c.deref-in-loop-next.ensures.value at c.in-Some-next_missed.ensures.next in
    let lowered = rw c.deref-in-Some-next_missed.ensures.value at c.lower.ensures.numbers in
    rw (c.deref-in-Some-enqueue_incoming-3.ensures.value, c.deref-in-Some-enqueue_incoming-4.ensures.value)
    (lowered_repair edges end old c.requires.system inv.others c.requires.near c.loop-next.numbers c.loop-next.work.order.items
    c.loop-next.work.former.items (heap_items c.loop-next.work.waiting) inv.state c.in-Some-next_missed.next next
    c.in-Some-next_missed.ensures.waited c.lower.new.numbers lowered c.lower.new.order.items c.lower.ensures.order).tree.within

pub returns-in-Some-enqueue_incoming-clause-same : goal.returns-in-Some-enqueue_incoming-clause-same
returns-in-Some-enqueue_incoming-clause-same c =
    let edges = c.args.held.now.edges.items in
    let end = c.index.result.now.to in
    let old = c.args.numbers.now in
    let inv = c.loop-next.invariant in
    let next = rw c.deref-in-loop-next.ensures.value at c.in-Some-next_missed.ensures.next in
    let lowered = rw c.deref-in-Some-next_missed.ensures.value at c.lower.ensures.numbers in
    let back = rw (c.deref-in-Some-enqueue_incoming-3.ensures.value, c.deref-in-Some-enqueue_incoming-4.ensures.value, c.deref-in-Some-enqueue_incoming-5.ensures.value) at c.put_back.ensures.same in
    let repair =
    lowered_repair edges end old c.requires.system inv.others c.requires.near c.loop-next.numbers c.loop-next.work.order.items
    c.loop-next.work.former.items (heap_items c.loop-next.work.waiting) inv.state c.in-Some-next_missed.next next
    c.in-Some-next_missed.ensures.waited c.lower.new.numbers lowered c.lower.new.order.items c.lower.ensures.order in
    back old (lowered_noted edges end old c.requires.system inv.others c.requires.near c.loop-next.numbers c.loop-next.work.order.items
    c.loop-next.work.former.items (heap_items c.loop-next.work.waiting) inv.state c.in-Some-next_missed.next next
    c.in-Some-next_missed.ensures.waited c.lower.new.numbers lowered c.lower.new.order.items c.lower.ensures.order
    c.lower.new.former.items (rw c.deref-in-Some-next_missed.ensures.value at c.lower.ensures.former))
    (repair_differs edges end old c.lower.new.numbers c.lower.new.order.items repair)

pub returns-in-Some-enqueue_incoming-clause-numbers : goal.returns-in-Some-enqueue_incoming-clause-numbers
returns-in-Some-enqueue_incoming-clause-numbers c =
    let edges = c.args.held.now.edges.items in
    let end = c.index.result.now.to in
    let old = c.args.numbers.now in
    let inv = c.loop-next.invariant in
    let next = rw c.deref-in-loop-next.ensures.value at c.in-Some-next_missed.ensures.next in
    let lowered = rw c.deref-in-Some-next_missed.ensures.value at c.lower.ensures.numbers in
    let back = rw (c.deref-in-Some-enqueue_incoming-3.ensures.value, c.deref-in-Some-enqueue_incoming-4.ensures.value, c.deref-in-Some-enqueue_incoming-5.ensures.value) at c.put_back.ensures.same in
    let repair =
    lowered_repair edges end old c.requires.system inv.others c.requires.near c.loop-next.numbers c.loop-next.work.order.items
    c.loop-next.work.former.items (heap_items c.loop-next.work.waiting) inv.state c.in-Some-next_missed.next next
    c.in-Some-next_missed.ensures.waited c.lower.new.numbers lowered c.lower.new.order.items c.lower.ensures.order in
    let same =
    back old (lowered_noted edges end old c.requires.system inv.others c.requires.near c.loop-next.numbers c.loop-next.work.order.items
    c.loop-next.work.former.items (heap_items c.loop-next.work.waiting) inv.state c.in-Some-next_missed.next next
    c.in-Some-next_missed.ensures.waited c.lower.new.numbers lowered c.lower.new.order.items c.lower.ensures.order
    c.lower.new.former.items (rw c.deref-in-Some-next_missed.ensures.value at c.lower.ensures.former))
    (repair_differs edges end old c.lower.new.numbers c.lower.new.order.items repair) in
    rw same (near_numbers old c.requires.near)

pub returns-in-Some-enqueue_incoming-clause-cycle : goal.returns-in-Some-enqueue_incoming-clause-cycle
returns-in-Some-enqueue_incoming-clause-cycle c =
    let edges = c.args.held.now.edges.items in
    let end = c.index.result.now.to in
    let old = c.args.numbers.now in
    let inv = c.loop-next.invariant in
    let next = rw c.deref-in-loop-next.ensures.value at c.in-Some-next_missed.ensures.next in
    let lowered = rw c.deref-in-Some-next_missed.ensures.value at c.lower.ensures.numbers in
    let trace = rw (c.deref-in-Some-enqueue_incoming.ensures.value, c.deref-in-Some-enqueue_incoming-2.ensures.value) at c.trace-in-Some-enqueue_incoming.ensures.trace in
    closing_cycle edges end old inv.others c.lower.new.numbers c.lower.new.order.items
    (lowered_repair edges end old c.requires.system inv.others c.requires.near c.loop-next.numbers c.loop-next.work.order.items
    c.loop-next.work.former.items (heap_items c.loop-next.work.waiting) inv.state c.in-Some-next_missed.next next
    c.in-Some-next_missed.ensures.waited c.lower.new.numbers lowered c.lower.new.order.items c.lower.ensures.order)
    c.in-Some-enqueue_incoming.closing c.in-Some-enqueue_incoming.ensures.closing c.trace-in-Some-enqueue_incoming.new.walk.items trace

pub returns-in-Some-enqueue_incoming-clause-once : goal.returns-in-Some-enqueue_incoming-clause-once
returns-in-Some-enqueue_incoming-clause-once c =
    let trace = rw (c.deref-in-Some-enqueue_incoming.ensures.value, c.deref-in-Some-enqueue_incoming-2.ensures.value) at c.trace-in-Some-enqueue_incoming.ensures.trace in
    trace.once

pub loop-next-smaller : goal.loop-next-smaller
loop-next-smaller c =
    let edges = c.args.held.now.edges.items in
    let end = c.index.result.now.to in
    let old = c.args.numbers.now in
    let inv = c.loop-next.invariant in
    let next = rw c.deref-in-loop-next.ensures.value at c.in-Some-next_missed.ensures.next in
    let room =
    state_room edges end old c.requires.system inv.others c.requires.near c.loop-next.numbers c.loop-next.work.order.items
    c.loop-next.work.former.items (heap_items c.loop-next.work.waiting) inv.state c.in-Some-next_missed.next next
    c.in-Some-next_missed.ensures.waited in
    let more = ap length c.lower.ensures.order ∙ length_push c.loop-next.work.order.items c.in-Some-next_missed.next in
    fewer_left (length old) (length c.loop-next.work.order.items) (length c.lower.new.order.items) more room

pub loop-next-preserved : goal.loop-next-preserved
loop-next-preserved c =
    let edges = c.args.held.now.edges.items in
    let end = c.index.result.now.to in
    let old = c.args.numbers.now in
    let inv = c.loop-next.invariant in
    let next = rw c.deref-in-loop-next.ensures.value at c.in-Some-next_missed.ensures.next in
    let lowered = rw c.deref-in-Some-next_missed.ensures.value at c.lower.ensures.numbers in
    let rest = rw c.deref-in-loop-next.ensures.value at c.in-Some-next_missed.ensures.rest in
    let is_node = ap (λ (e : Edge). e.from) (c.index-in-Some-next_missed.ensures ∙ get_or_default edges c.in-Some-next_missed.next _ _ next.tightest.within) in
    let queue = rw is_node at c.in_default-enqueue_incoming.ensures.queue in
    let added = rw is_node at c.in_default-enqueue_incoming.ensures.added in
    record {
      others = inv.others;
      state =
          state_more edges end old c.requires.system inv.others c.requires.near c.loop-next.numbers c.loop-next.work.order.items
          c.loop-next.work.former.items (heap_items c.loop-next.work.waiting) inv.state c.in-Some-next_missed.next next
          c.in-Some-next_missed.ensures.waited c.lower.new.numbers lowered c.lower.new.order.items c.lower.ensures.order
          (heap_items c.next_missed.new.waiting) rest c.in-Some-next_missed.ensures.fewer (heap_items c.enqueue_incoming.new.waiting)
          c.lower.new.former.items (rw c.deref-in-Some-next_missed.ensures.value at c.lower.ensures.former) queue added;
      order = c.in_default-enqueue_incoming.ensures.order;
      room = record {
        waiting = omega (arith, inv.room.waiting, c.in-Some-next_missed.ensures.room, c.in_default-enqueue_incoming.ensures.room);
        order = omega (arith, inv.room.order, c.lower.ensures.order_room);
        former = omega (arith, inv.room.former, c.lower.ensures.former_room);
        walk = inv.room.walk;
      };
    }

pub returns-clause-numbers : goal.returns-clause-numbers
returns-clause-numbers c =
    let edges = c.args.held.now.edges.items in
    let end = c.index.result.now.to in
    let old = c.args.numbers.now in
    let inv = c.loop-next.invariant in
    repair_numbers edges end old inv.others c.loop-next.numbers c.loop-next.work.order.items inv.state.repair c.requires.near

pub enqueue_missed-requires-clause-place : goal.enqueue_missed-requires-clause-place
enqueue_missed-requires-clause-place c =
    rw c.deref.ensures.value (omega (arith, c.requires.place))

pub enqueue_missed-requires-clause-edges : goal.enqueue_missed-requires-clause-edges
enqueue_missed-requires-clause-edges c =
    rw c.deref.ensures.value c.requires.system.each

pub enqueue_missed-requires-clause-numbers : goal.enqueue_missed-requires-clause-numbers
enqueue_missed-requires-clause-numbers c =
    near_numbers c.args.numbers.now c.requires.near

pub enqueue_missed-requires-clause-room : goal.enqueue_missed-requires-clause-room
enqueue_missed-requires-clause-room c =
    rw c.clear.ensures.items (omega (arith, c.clear.ensures.capacity, c.requires.room.waiting, c.requires.place))

pub trace-requires-clause-place : goal.trace-requires-clause-place
trace-requires-clause-place c =
    let closing = rw c.deref.ensures.value at c.in-Some.ensures.closing in
    rw c.deref-in-Some.ensures.value closing.within

pub trace-requires-clause-tree : goal.trace-requires-clause-tree
trace-requires-clause-tree c =
    let edges = c.args.held.now.edges.items in
    let is_end = ap (λ (e : Edge). e.to) (c.index.ensures ∙ get_or_default edges c.args.place _ _ (omega (arith, c.requires.place))) in
    let others : MeetsOthers edges c.index.result.now.to c.args.numbers.now = rw is_end (others_of_first edges c.args.place c.args.numbers.now c.requires.place c.requires.first) in
    let closing = rw c.deref.ensures.value at c.in-Some.ensures.closing in
    rw (c.deref-in-Some.ensures.value, c.deref-in-Some-2.ensures.value, c.clear-2.ensures.items)
    (closing_tree edges c.index.result.now.to c.args.numbers.now others c.args.numbers.now _
    (repair_start edges c.index.result.now.to c.args.numbers.now c.requires.system c.requires.near) c.in-Some.closing closing)

pub trace-requires-clause-room : goal.trace-requires-clause-room
trace-requires-clause-room c =
    rw (c.deref-in-Some-2.ensures.value, c.clear-2.ensures.items) (omega (arith, c.requires.room.walk))

pub returns-in-Some-clause-count : goal.returns-in-Some-clause-count
returns-in-Some-clause-count c =
    refl

pub returns-in-Some-clause-numbers : goal.returns-in-Some-clause-numbers
returns-in-Some-clause-numbers c =
    near_numbers c.args.numbers.now c.requires.near

pub returns-in-Some-clause-met : goal.returns-in-Some-clause-met
returns-in-Some-clause-met c =
    tt

pub returns-in-Some-clause-same : goal.returns-in-Some-clause-same
returns-in-Some-clause-same c =
    refl

pub returns-in-Some-clause-once : goal.returns-in-Some-clause-once
returns-in-Some-clause-once c =
    let trace = rw (c.deref-in-Some.ensures.value, c.deref-in-Some-2.ensures.value, c.clear-2.ensures.items) at c.trace.ensures.trace in
    trace.once

pub returns-in-Some-clause-room : goal.returns-in-Some-clause-room
returns-in-Some-clause-room c =
    record {
      waiting = omega (arith, c.clear.ensures.capacity, c.in-Some.ensures.room);
      order = omega (arith, c.clear-2.ensures.capacity);
      former = omega (arith, c.clear-3.ensures.capacity);
      walk = c.trace.ensures.room;
    }

pub next_missed-requires-clause-edges : goal.next_missed-requires-clause-edges
next_missed-requires-clause-edges c =
    let edges = c.args.held.now.edges.items in
    let inv = c.loop-next.invariant in
    rw c.deref-in-loop-next.ensures.value (subst (λ (n : ℕ). All (IsEdge n) edges) (sym inv.state.repair.count) c.requires.system.each)

pub next_missed-requires-clause-order : goal.next_missed-requires-clause-order
next_missed-requires-clause-order c =
    c.loop-next.invariant.order

pub next_missed-requires-clause-queue : goal.next_missed-requires-clause-queue
next_missed-requires-clause-queue c =
    rw c.deref-in-loop-next.ensures.value c.loop-next.invariant.state.queue

pub lower-requires-clause-place : goal.lower-requires-clause-place
lower-requires-clause-place c =
    let next = rw c.deref-in-loop-next.ensures.value at c.in-Some-next_missed.ensures.next in
    rw c.deref-in-Some-next_missed.ensures.value next.tightest.within

pub lower-requires-clause-edges : goal.lower-requires-clause-edges
lower-requires-clause-edges c =
    let edges = c.args.held.now.edges.items in
    let inv = c.loop-next.invariant in
    rw c.deref-in-Some-next_missed.ensures.value (subst (λ (n : ℕ). All (IsEdge n) edges) (sym inv.state.repair.count) c.requires.system.each)

pub enqueue_incoming-requires-clause-node : goal.enqueue_incoming-requires-clause-node
enqueue_incoming-requires-clause-node c =
    let edges = c.args.held.now.edges.items in
    let next = rw c.deref-in-loop-next.ensures.value at c.in-Some-next_missed.ensures.next in
    let is_node : c.index-in-Some-next_missed.result.now.from ≡ (edge_at edges c.in-Some-next_missed.next).from =
    ap (λ (e : Edge). e.from)
    (c.index-in-Some-next_missed.ensures ∙ get_or_default edges c.in-Some-next_missed.next _ _ next.tightest.within) in
    let from = (c.requires.system.each c.in-Some-next_missed.next (record { from = 0; to = 0; bound = pos 0 }) next.tightest.within).from in
    rw (is_node, c.requires.nodes) from

pub enqueue_incoming-requires-clause-edges : goal.enqueue_incoming-requires-clause-edges
enqueue_incoming-requires-clause-edges c =
    let edges = c.args.held.now.edges.items in
    let end = c.index.result.now.to in
    let old = c.args.numbers.now in
    let inv = c.loop-next.invariant in
    let next = rw c.deref-in-loop-next.ensures.value at c.in-Some-next_missed.ensures.next in
    let lowered = rw c.deref-in-Some-next_missed.ensures.value at c.lower.ensures.numbers in
    subst (λ (n : ℕ). All (IsEdge n) edges)
    (sym (lowered_repair edges end old c.requires.system inv.others c.requires.near c.loop-next.numbers c.loop-next.work.order.items
    c.loop-next.work.former.items (heap_items c.loop-next.work.waiting) inv.state c.in-Some-next_missed.next next
    c.in-Some-next_missed.ensures.waited c.lower.new.numbers lowered c.lower.new.order.items c.lower.ensures.order).count)
    c.requires.system.each

pub enqueue_incoming-requires-clause-incoming : goal.enqueue_incoming-requires-clause-incoming
enqueue_incoming-requires-clause-incoming c =
    c.requires.incoming

pub enqueue_incoming-requires-clause-order : goal.enqueue_incoming-requires-clause-order
enqueue_incoming-requires-clause-order c =
    c.in-Some-next_missed.ensures.order

pub enqueue_incoming-requires-clause-room : goal.enqueue_incoming-requires-clause-room
enqueue_incoming-requires-clause-room c =
    let inv = c.loop-next.invariant in
    omega (arith, c.requires.room.waiting, inv.room.waiting, c.in-Some-next_missed.ensures.room)

pub trace-requires-in-Some-enqueue_incoming-clause-place : goal.trace-requires-in-Some-enqueue_incoming-clause-place
trace-requires-in-Some-enqueue_incoming-clause-place c =
    rw c.deref-in-Some-enqueue_incoming.ensures.value c.in-Some-enqueue_incoming.ensures.closing.within

pub put_back-requires-clause-edges : goal.put_back-requires-clause-edges
put_back-requires-clause-edges c =
    let edges = c.args.held.now.edges.items in
    let end = c.index.result.now.to in
    let old = c.args.numbers.now in
    let inv = c.loop-next.invariant in
    let next = rw c.deref-in-loop-next.ensures.value at c.in-Some-next_missed.ensures.next in
    let lowered = rw c.deref-in-Some-next_missed.ensures.value at c.lower.ensures.numbers in
    rw c.deref-in-Some-enqueue_incoming-3.ensures.value (subst (λ (n : ℕ). All (IsEdge n) edges)
    (sym (lowered_repair edges end old c.requires.system inv.others c.requires.near c.loop-next.numbers c.loop-next.work.order.items
    c.loop-next.work.former.items (heap_items c.loop-next.work.waiting) inv.state c.in-Some-next_missed.next next
    c.in-Some-next_missed.ensures.waited c.lower.new.numbers lowered c.lower.new.order.items c.lower.ensures.order).count)
    c.requires.system.each)

pub put_back-requires-clause-count : goal.put_back-requires-clause-count
put_back-requires-clause-count c =
    let edges = c.args.held.now.edges.items in
    let end = c.index.result.now.to in
    let old = c.args.numbers.now in
    let inv = c.loop-next.invariant in
    let next = rw c.deref-in-loop-next.ensures.value at c.in-Some-next_missed.ensures.next in
    let lowered = rw c.deref-in-Some-next_missed.ensures.value at c.lower.ensures.numbers in
    rw (c.deref-in-Some-enqueue_incoming-4.ensures.value, c.deref-in-Some-enqueue_incoming-5.ensures.value)
    (lowered_noted edges end old c.requires.system inv.others c.requires.near c.loop-next.numbers c.loop-next.work.order.items
    c.loop-next.work.former.items (heap_items c.loop-next.work.waiting) inv.state c.in-Some-next_missed.next next
    c.in-Some-next_missed.ensures.waited c.lower.new.numbers lowered c.lower.new.order.items c.lower.ensures.order
    c.lower.new.former.items (rw c.deref-in-Some-next_missed.ensures.value at c.lower.ensures.former)).count

pub returns-in-Some-enqueue_incoming-clause-count : goal.returns-in-Some-enqueue_incoming-clause-count
returns-in-Some-enqueue_incoming-clause-count c =
    let edges = c.args.held.now.edges.items in
    let end = c.index.result.now.to in
    let old = c.args.numbers.now in
    let inv = c.loop-next.invariant in
    let next = rw c.deref-in-loop-next.ensures.value at c.in-Some-next_missed.ensures.next in
    let lowered = rw c.deref-in-Some-next_missed.ensures.value at c.lower.ensures.numbers in
    let back = rw (c.deref-in-Some-enqueue_incoming-3.ensures.value, c.deref-in-Some-enqueue_incoming-4.ensures.value, c.deref-in-Some-enqueue_incoming-5.ensures.value) at c.put_back.ensures.same in
    let repair =
    lowered_repair edges end old c.requires.system inv.others c.requires.near c.loop-next.numbers c.loop-next.work.order.items
    c.loop-next.work.former.items (heap_items c.loop-next.work.waiting) inv.state c.in-Some-next_missed.next next
    c.in-Some-next_missed.ensures.waited c.lower.new.numbers lowered c.lower.new.order.items c.lower.ensures.order in
    ap length (back old
    (lowered_noted edges end old c.requires.system inv.others c.requires.near c.loop-next.numbers c.loop-next.work.order.items
    c.loop-next.work.former.items (heap_items c.loop-next.work.waiting) inv.state c.in-Some-next_missed.next next
    c.in-Some-next_missed.ensures.waited c.lower.new.numbers lowered c.lower.new.order.items c.lower.ensures.order
    c.lower.new.former.items (rw c.deref-in-Some-next_missed.ensures.value at c.lower.ensures.former))
    (repair_differs edges end old c.lower.new.numbers c.lower.new.order.items repair))

pub returns-in-Some-enqueue_incoming-clause-met : goal.returns-in-Some-enqueue_incoming-clause-met
returns-in-Some-enqueue_incoming-clause-met c =
    tt

pub returns-in-Some-enqueue_incoming-clause-room : goal.returns-in-Some-enqueue_incoming-clause-room
returns-in-Some-enqueue_incoming-clause-room c =
    let inv = c.loop-next.invariant in
    record {
      waiting = omega (arith, inv.room.waiting, c.in-Some-next_missed.ensures.room, c.in-Some-enqueue_incoming.ensures.room);
      order = omega (arith, inv.room.order, c.lower.ensures.order_room);
      former = omega (arith, inv.room.former, c.lower.ensures.former_room);
      walk = omega (arith, inv.room.walk, c.trace-in-Some-enqueue_incoming.ensures.room);
    }

pub returns-clause-count : goal.returns-clause-count
returns-clause-count c =
    c.loop-next.invariant.state.repair.count

pub returns-clause-met : goal.returns-clause-met
returns-clause-met c =
    rw c.deref-in-loop-next.ensures.value at c.in_default-next_missed.ensures.met

pub returns-clause-same : goal.returns-clause-same
returns-clause-same c =
    tt

pub returns-clause-cycle : goal.returns-clause-cycle
returns-clause-cycle c =
    tt

pub returns-clause-once : goal.returns-clause-once
returns-clause-once c =
    tt

pub returns-clause-room : goal.returns-clause-room
returns-clause-room c =
    let inv = c.loop-next.invariant in
    record {
      waiting = omega (arith, inv.room.waiting, c.in_default-next_missed.ensures.room);
      order = inv.room.order;
      former = inv.room.former;
      walk = inv.room.walk;
    }
