use Rattle.std.proofs.Common.{◌≡◌, ◌<◌, ◌≢◌, ◌∙◌, ap, sym, arith, [], ◌∷◌, ◌++◌, length, take, drop, heap_items, of_z, pos}
use Rattle.std.specs.Int.{w128}
use Rattle.std.specs.List.Sorted.{IsPermutation}
use Rattle.std.proofs.lemmas.Grind.{common_steps}
use Rattle.skew_bounds.specs.Incoming.{lists_of}
use Rattle.skew_bounds.specs.Lowering.{ahead_of, entry_of}
use Rattle.skew_bounds.proofs.EdgeLists.{list-at, lists-count}
use Rattle.skew_bounds.proofs.Reached.{next-within, reached-first, reached-last, reached-more, reached-stale}
use Rattle.skew_bounds.proofs.latest.latest.Goals as goal

pub loop-next-init : goal.loop-next-init
loop-next-init c =
    let first : IsPermutation (entry_of c.args.potential.now c.args.node (pos 0) ∷ []) (heap_items c.push.new.self) =
    rw (c.waiting_at.ensures.waiting, c.new-waiting.ensures.items) at c.in_ok-push.ensures.permutation in
    reached-first (lists_of c.args.incoming.now) c.args.potential.now c.args.node c.requires.network c.requires.potential
    (rw (lists-count c.args.incoming.now) c.requires.node) c.in_ok-numbers.numbers.items
    c.in_ok-numbers.ensures (heap_items c.push.new.self) first

pub bounds-incoming-next : goal.bounds-incoming-next
bounds-incoming-next c =
    let incoming = c.args.incoming.now in
    let within = next-within (lists_of incoming) c.args.potential.now c.args.node c.requires.network c.requires.potential (rw (lists-count incoming) c.requires.node) c.loop-next.numbers.items
    (heap_items c.loop-next.waiting) c.loop-next.invariant c.in-Some.next (heap_items c.pop.new.self) c.in-Some.ensures.permutation in
    rw (c.requires.potential.solution.count, lists-count incoming) at within

pub lower_before-requires : goal.lower_before-requires
lower_before-requires c =
    let incoming = c.args.incoming.now in
    let next = c.in-Some.next.node in
    let within = next-within (lists_of incoming) c.args.potential.now c.args.node c.requires.network c.requires.potential (rw (lists-count incoming) c.requires.node) c.loop-next.numbers.items
    (heap_items c.loop-next.waiting) c.loop-next.invariant c.in-Some.next (heap_items c.pop.new.self) c.in-Some.ensures.permutation in
    let place : next < length (lists_of incoming) = rw c.requires.potential.solution.count at within in
    let list = list-at incoming next c.index-incoming-next.result (rw lists-count at place) c.index-incoming-next.is in
    rw (c.deref-in-Some.ensures.value, ← list, c.deref_mut.ensures.value)
    (record {
      edges = rw c.requires.potential.solution.count (c.requires.network.edges next place);
      ends = c.requires.network.ends next place;
      met = c.requires.potential.solution.meets next place;
      search = c.loop-next.invariant.search;
    })

pub loop-next-preserved : goal.loop-next-preserved
loop-next-preserved c =
    let incoming = c.args.incoming.now in
    let next = c.in-Some.next.node in
    let within = next-within (lists_of incoming) c.args.potential.now c.args.node c.requires.network c.requires.potential (rw (lists-count incoming) c.requires.node) c.loop-next.numbers.items
    (heap_items c.loop-next.waiting) c.loop-next.invariant c.in-Some.next (heap_items c.pop.new.self) c.in-Some.ensures.permutation in
    let place : next < length (lists_of incoming) = rw c.requires.potential.solution.count at within in
    let list = list-at incoming next c.index-incoming-next.result (rw lists-count at place) c.index-incoming-next.is in
    let lowered = rw (c.deref-in-Some.ensures.value, ← list, c.deref_mut.ensures.value) at c.in_ok-lower_before.ensures.lowered in
    let kept : take c.loop-next.numbers.len (c.lower_before.new.numbers ++ drop (length c.lower_before.new.numbers) c.loop-next.numbers.items) ≡ c.lower_before.new.numbers =
    grind (arith, common_steps, lowered.count) in
    rw kept
    (reached-more (lists_of incoming) c.args.potential.now c.args.node c.requires.network c.requires.potential (rw (lists-count incoming) c.requires.node) c.loop-next.numbers.items
    (heap_items c.loop-next.waiting) c.loop-next.invariant c.in-Some.next (heap_items c.pop.new.self) c.in-Some.ensures.permutation c.lower_before.new.numbers (heap_items c.lower_before.new.waiting)
    c.in_ok-lower_before.ensures.search lowered)

pub loop-next-preserved-then-next-ahead : goal.loop-next-preserved-then-next-ahead
loop-next-preserved-then-next-ahead c =
    let incoming = c.args.incoming.now in
    let stale : c.in-Some.next.ahead ≢ ahead_of c.args.potential.now c.loop-next.numbers.items c.in-Some.next.node =
    λ same. c.if-next-ahead.true (ap (of_z w128) (same ∙ sym (rw c.deref.ensures.value at c.ahead.ensures.ahead))) in
    reached-stale (lists_of incoming) c.args.potential.now c.args.node c.requires.network c.requires.potential (rw (lists-count incoming) c.requires.node) c.loop-next.numbers.items
    (heap_items c.loop-next.waiting) c.loop-next.invariant c.in-Some.next (heap_items c.pop.new.self) c.in-Some.ensures.permutation stale

pub returns : goal.returns
returns c =
    let incoming = c.args.incoming.now in
    let none : heap_items c.loop-next.waiting ≡ [] = grind (arith, common_steps, c.in_default.ensures) in
    record {
      latest = reached-last (lists_of incoming) c.args.potential.now c.args.node c.requires.network c.requires.potential (rw (lists-count incoming) c.requires.node) c.loop-next.numbers.items
          (rw none at c.loop-next.invariant);
    }
