use Rattle.std.proofs.Common.{◌≡◌, ◌∙◌, ℕ, ◌+◌, ◌-◌, ◌<◌, ap, sym, subst, refl, rules, arith, List, [], ◌∷◌, ◌++◌, length, take, drop, ℤ}
use Rattle.std.specs.Prelude.{All}
use Rattle.std.proofs.lemmas.Bool.{false≢true}
use Rattle.std.proofs.lemmas.List.{length_push}
use Rattle.neg_cycle.specs.declared.system.Edge.{Edge}
use Rattle.neg_cycle.specs.Systems.{IsEdge, Meets, IsNegativeCycle, VisitsOnce}
use Rattle.difference_graph.specs.Gaps.{IsNumber}
use Rattle.difference_graph.specs.Graphs.{Constraints, HasSolution, AreSmall}
use Rattle.difference_graph.proofs.GraphLemmas.{decided_kept, decided_cycle, has_solution, no_solution, still, system_more, first_met, kept_more, met_with, graph_with, take_last, written_back, met_less, narrow, same_view}
use Rattle.difference_graph.proofs.WorkLemmas.{keeps_room, room_within}
use Rattle.difference_graph.proofs.graph.Graph.push.Goals as goal

pub repair-requires-clause-system : goal.repair-requires-clause-system
repair-requires-clause-system c =
    let i = c.self.inside in
    let value = c.deref_mut.ensures.value in
    let count = c.bring_near.ensures.count ∙ ap length value in
    let keeps = rw value at c.bring_near.ensures.met in
    let edge = subst (λ (g : Constraints). IsEdge g.nodes c.args.edge) (sym c.self.view_is) c.requires.edge in
    let room = subst (λ (g : Constraints). length g.edges < g.capacity) (sym c.self.view_is) c.requires.room in
    let near = c.deref_mut-2.ensures.value ∙ written_back i.current.len c.bring_near.new.numbers i.current.items (c.bring_near.ensures.count ∙ c.deref_mut.ensures.len) in
    let edges = c.hold-2.ensures.edges in
    rw (near, edges) (system_more i.held.edges.items i.limit i.current.items c.self.invariant.0 c.bring_near.new.numbers count keeps c.args.edge edge room)

pub repair-requires-clause-first : goal.repair-requires-clause-first
repair-requires-clause-first c =
    let i = c.self.inside in
    let place : c.len-place.result ≡ length i.held.edges.items = search (rules, c.len-place.ensures) in
    let value = c.deref_mut.ensures.value in
    let count = c.bring_near.ensures.count ∙ ap length value in
    let keeps = rw value at c.bring_near.ensures.met in
    let edge = subst (λ (g : Constraints). IsEdge g.nodes c.args.edge) (sym c.self.view_is) c.requires.edge in
    let room = subst (λ (g : Constraints). length g.edges < g.capacity) (sym c.self.view_is) c.requires.room in
    let near = c.deref_mut-2.ensures.value ∙ written_back i.current.len c.bring_near.new.numbers i.current.items (c.bring_near.ensures.count ∙ c.deref_mut.ensures.len) in
    let edges = c.hold-2.ensures.edges in
    rw (near, edges) (first_met i.held.edges.items i.limit i.current.items c.self.invariant.0 c.bring_near.new.numbers count keeps c.args.edge edge room c.len-place.result place)

pub repair-requires-clause-near : goal.repair-requires-clause-near
repair-requires-clause-near c =
    let i = c.self.inside in
    let near = c.deref_mut-2.ensures.value ∙ written_back i.current.len c.bring_near.new.numbers i.current.items (c.bring_near.ensures.count ∙ c.deref_mut.ensures.len) in
    rw near c.bring_near.ensures.near

pub invariant_of-self-in-Kept : goal.invariant_of-self-in-Kept
invariant_of-self-in-Kept c =
    let i = c.self.inside in
    let value = c.deref_mut.ensures.value in
    let count = c.bring_near.ensures.count ∙ ap length value in
    let keeps = rw value at c.bring_near.ensures.met in
    let edge = subst (λ (g : Constraints). IsEdge g.nodes c.args.edge) (sym c.self.view_is) c.requires.edge in
    let room = subst (λ (g : Constraints). length g.edges < g.capacity) (sym c.self.view_is) c.requires.room in
    let near = c.deref_mut-2.ensures.value ∙ written_back i.current.len c.bring_near.new.numbers i.current.items (c.bring_near.ensures.count ∙ c.deref_mut.ensures.len) in
    let kept = c.in-Kept.ensures in
    let same = kept.count ∙ ap length near in
    let meets = subst (λ (es : List Edge). All (Meets c.repair.new.numbers) es) c.hold-2.ensures.edges kept.met in
    let now =
    written_back i.current.len c.repair.new.numbers
    (take i.current.len (c.bring_near.new.numbers ++ drop (length c.bring_near.new.numbers) i.current.items))
    (same ∙ c.bring_near.ensures.count ∙ c.deref_mut.ensures.len) in
    let had = c.self.invariant.1 in
    rw now (
      rw c.hold-2.ensures.edges (kept_more i.held.edges.items i.limit i.current.items c.self.invariant.0 c.bring_near.new.numbers count
          keeps c.args.edge edge room c.repair.new.numbers same kept.numbers meets),
      record {
        incoming = c.hold-2.ensures.incoming;
        ends = omega (arith, c.hold-2.ensures.nodes, had.ends, same, count);
        edges = omega (arith, had.edges, c.hold-2.ensures.edge_room);
        before = omega (arith, had.before, c.hold-2.ensures.before_room);
        repair = keeps_room (length i.current.items) (length c.repair.new.numbers) i.limit i.work c.repair.new.work (same ∙ count) had.repair kept.room;
      },
    )

pub invariant_of-self-in-Cycle : goal.invariant_of-self-in-Cycle
invariant_of-self-in-Cycle c =
    let i = c.self.inside in
    let value = c.deref_mut.ensures.value in
    let count = c.bring_near.ensures.count ∙ ap length value in
    let keeps = rw value at c.bring_near.ensures.met in
    let near = c.deref_mut-2.ensures.value ∙ written_back i.current.len c.bring_near.new.numbers i.current.items (c.bring_near.ensures.count ∙ c.deref_mut.ensures.len) in
    let refused = c.in-Cycle.ensures in
    let back = refused.same ∙ near in
    let same = refused.count ∙ ap length near in
    let now =
    written_back i.current.len c.repair.new.numbers
    (take i.current.len (c.bring_near.new.numbers ++ drop (length c.bring_near.new.numbers) i.current.items))
    (same ∙ c.bring_near.ensures.count ∙ c.deref_mut.ensures.len) in
    let had = c.self.invariant.1 in
    let held = c.release_last.ensures.edges ∙ ap (λ (es : List Edge). take (length es - 1) es) c.hold-2.ensures.edges ∙ take_last i.held.edges.items c.args.edge in
    let numbers = subst (λ (xs : List ℤ). All IsNumber xs) back refused.numbers in
    rw now (
      rw (held, back) (still i.held.edges.items i.limit i.current.items c.self.invariant.0 c.bring_near.new.numbers count keeps numbers),
      record {
        incoming = c.release_last.ensures.incoming;
        ends = omega (arith, c.release_last.ensures.nodes, c.hold-2.ensures.nodes, had.ends, same, count);
        edges = omega (arith, had.edges, c.hold-2.ensures.edge_room, c.release_last.ensures.edge_room);
        before = omega (arith, had.before, c.hold-2.ensures.before_room, c.release_last.ensures.before_room);
        repair = keeps_room (length i.current.items) (length c.repair.new.numbers) i.limit i.work c.repair.new.work (same ∙ count) had.repair refused.room;
      },
    )

pub returns-in-Kept-clause-kept : goal.returns-in-Kept-clause-kept
returns-in-Kept-clause-kept c =
    let i = c.self.inside in
    let near = c.deref_mut-2.ensures.value ∙ written_back i.current.len c.bring_near.new.numbers i.current.items (c.bring_near.ensures.count ∙ c.deref_mut.ensures.len) in
    let count = c.in-Kept.ensures.count ∙ ap length near ∙ c.bring_near.ensures.count ∙ ap length c.deref_mut.ensures.value in
    let edges = c.hold-2.ensures.edges in
    let meets = subst (λ (es : List Edge). All (Meets c.repair.new.numbers) es) edges c.in-Kept.ensures.met in
    let solution = has_solution (length i.current.items) (i.held.edges.items ++ c.args.edge ∷ []) c.repair.new.numbers count meets in
    (decided_kept _ (subst (λ (g : Constraints). HasSolution g.nodes (g.edges ++ c.args.edge ∷ [])) c.self.view_is solution)).kept

pub returns-in-Kept-clause-refused : goal.returns-in-Kept-clause-refused
returns-in-Kept-clause-refused c =
    let i = c.self.inside in
    let near = c.deref_mut-2.ensures.value ∙ written_back i.current.len c.bring_near.new.numbers i.current.items (c.bring_near.ensures.count ∙ c.deref_mut.ensures.len) in
    let count = c.in-Kept.ensures.count ∙ ap length near ∙ c.bring_near.ensures.count ∙ ap length c.deref_mut.ensures.value in
    let edges = c.hold-2.ensures.edges in
    let meets = subst (λ (es : List Edge). All (Meets c.repair.new.numbers) es) edges c.in-Kept.ensures.met in
    let solution = has_solution (length i.current.items) (i.held.edges.items ++ c.args.edge ∷ []) c.repair.new.numbers count meets in
    (decided_kept _ (subst (λ (g : Constraints). HasSolution g.nodes (g.edges ++ c.args.edge ∷ [])) c.self.view_is solution)).refused

pub returns-in-Cycle-clause-kept : goal.returns-in-Cycle-clause-kept
returns-in-Cycle-clause-kept c =
    let i = c.self.inside in
    let edges = c.hold-2.ensures.edges in
    let cycle = subst (λ (es : List Edge). IsNegativeCycle es c.repair.new.work.walk.items) edges c.in-Cycle.ensures.cycle in
    let none = no_solution (length i.current.items) (i.held.edges.items ++ c.args.edge ∷ []) c.repair.new.work.walk.items cycle in
    (decided_cycle _ (subst (λ (g : Constraints). HasSolution g.nodes (g.edges ++ c.args.edge ∷ []) → ⊥) c.self.view_is none)).kept

pub returns-in-Cycle-clause-refused : goal.returns-in-Cycle-clause-refused
returns-in-Cycle-clause-refused c =
    let i = c.self.inside in
    let edges = c.hold-2.ensures.edges in
    let cycle = subst (λ (es : List Edge). IsNegativeCycle es c.repair.new.work.walk.items) edges c.in-Cycle.ensures.cycle in
    let none = no_solution (length i.current.items) (i.held.edges.items ++ c.args.edge ∷ []) c.repair.new.work.walk.items cycle in
    (decided_cycle _ (subst (λ (g : Constraints). HasSolution g.nodes (g.edges ++ c.args.edge ∷ []) → ⊥) c.self.view_is none)).refused

pub invariant_of-self : goal.invariant_of-self
invariant_of-self c =
    let i = c.self.inside in
    let edge = subst (λ (g : Constraints). IsEdge g.nodes c.args.edge) (sym c.self.view_is) c.requires.edge in
    let room = subst (λ (g : Constraints). length g.edges < g.capacity) (sym c.self.view_is) c.requires.room in
    let meets = rw c.deref.ensures.value at (c.is_met.ensures.met.0 c.if-is_met.true) in
    let had = c.self.invariant.1 in (
      rw c.hold.ensures.edges (graph_with i.held.edges.items i.limit i.current.items c.self.invariant.0 c.args.edge edge room meets),
      record {
        incoming = c.hold.ensures.incoming;
        ends = c.hold.ensures.nodes ∙ had.ends;
        edges = omega (arith, had.edges, c.hold.ensures.edge_room);
        before = omega (arith, had.before, c.hold.ensures.before_room);
        repair = had.repair;
      },
    )

pub returns-then-is_met-clause-kept : goal.returns-then-is_met-clause-kept
returns-then-is_met-clause-kept c =
    let i = c.self.inside in
    let edge = subst (λ (g : Constraints). IsEdge g.nodes c.args.edge) (sym c.self.view_is) c.requires.edge in
    let room = subst (λ (g : Constraints). length g.edges < g.capacity) (sym c.self.view_is) c.requires.room in
    let meets = rw c.deref.ensures.value at (c.is_met.ensures.met.0 c.if-is_met.true) in
    let all = met_with i.held.edges.items i.limit i.current.items c.self.invariant.0 c.args.edge edge room meets in
    let solution = has_solution (length i.current.items) (i.held.edges.items ++ c.args.edge ∷ []) i.current.items refl all in
    (decided_kept _ (subst (λ (g : Constraints). HasSolution g.nodes (g.edges ++ c.args.edge ∷ [])) c.self.view_is solution)).kept

pub returns-then-is_met-clause-refused : goal.returns-then-is_met-clause-refused
returns-then-is_met-clause-refused c =
    let i = c.self.inside in
    let edge = subst (λ (g : Constraints). IsEdge g.nodes c.args.edge) (sym c.self.view_is) c.requires.edge in
    let room = subst (λ (g : Constraints). length g.edges < g.capacity) (sym c.self.view_is) c.requires.room in
    let meets = rw c.deref.ensures.value at (c.is_met.ensures.met.0 c.if-is_met.true) in
    let all = met_with i.held.edges.items i.limit i.current.items c.self.invariant.0 c.args.edge edge room meets in
    let solution = has_solution (length i.current.items) (i.held.edges.items ++ c.args.edge ∷ []) i.current.items refl all in
    (decided_kept _ (subst (λ (g : Constraints). HasSolution g.nodes (g.edges ++ c.args.edge ∷ [])) c.self.view_is solution)).refused

pub returns-in-Kept-clause-still : goal.returns-in-Kept-clause-still
returns-in-Kept-clause-still c meets =
    let i = c.self.inside in
    let edge = subst (λ (g : Constraints). IsEdge g.nodes c.args.edge) (sym c.self.view_is) c.requires.edge in
    let here = subst (λ (g : Constraints). Meets g.numbers c.args.edge) (sym c.self.view_is) meets in
    absurd (false≢true (sym c.if-is_met.false ∙ c.is_met.ensures.met.1 (rw c.deref.ensures.value ((met_less i.current.items c.args.edge edge).1 here))))

pub returns-in-Cycle-clause-met : goal.returns-in-Cycle-clause-met
returns-in-Cycle-clause-met c meets =
    let i = c.self.inside in
    let edge = subst (λ (g : Constraints). IsEdge g.nodes c.args.edge) (sym c.self.view_is) c.requires.edge in
    let here = subst (λ (g : Constraints). Meets g.numbers c.args.edge) (sym c.self.view_is) meets in
    absurd (false≢true (sym c.if-is_met.false ∙ c.is_met.ensures.met.1 (rw c.deref.ensures.value ((met_less i.current.items c.args.edge edge).1 here))))

pub returns-in-Cycle-clause-still : goal.returns-in-Cycle-clause-still
returns-in-Cycle-clause-still c meets =
    let i = c.self.inside in
    let edge = subst (λ (g : Constraints). IsEdge g.nodes c.args.edge) (sym c.self.view_is) c.requires.edge in
    let here = subst (λ (g : Constraints). Meets g.numbers c.args.edge) (sym c.self.view_is) meets in
    absurd (false≢true (sym c.if-is_met.false ∙ c.is_met.ensures.met.1 (rw c.deref.ensures.value ((met_less i.current.items c.args.edge edge).1 here))))

pub returns-in-Cycle-clause-restored : goal.returns-in-Cycle-clause-restored
returns-in-Cycle-clause-restored c small =
    let i = c.self.inside in
    let value = c.deref_mut.ensures.value in
    let count = c.bring_near.ensures.count ∙ ap length value in
    let near = c.deref_mut-2.ensures.value ∙ written_back i.current.len c.bring_near.new.numbers i.current.items (c.bring_near.ensures.count ∙ c.deref_mut.ensures.len) in
    let refused = c.in-Cycle.ensures in
    let back = refused.same ∙ near in
    let same = refused.count ∙ ap length near in
    let now =
    written_back i.current.len c.repair.new.numbers
    (take i.current.len (c.bring_near.new.numbers ++ drop (length c.bring_near.new.numbers) i.current.items))
    (same ∙ c.bring_near.ensures.count ∙ c.deref_mut.ensures.len) in
    let here = subst (λ (g : Constraints). AreSmall g.numbers) (sym c.self.view_is) small in
    let differences = rw value at c.bring_near.ensures.same in
    let view = same_view i.current.items c.bring_near.new.numbers count (differences (narrow i.current.items here)) in
    rw (now, back) (view ∙ ap (λ (g : Constraints). g.numbers) c.self.view_is)

pub is_met-requires-clause-edge : goal.is_met-requires-clause-edge
is_met-requires-clause-edge c =
    let edge = subst (λ (g : Constraints). IsEdge g.nodes c.args.edge) (sym c.self.view_is) c.requires.edge in
    rw c.deref.ensures.value edge

pub is_met-requires-clause-numbers : goal.is_met-requires-clause-numbers
is_met-requires-clause-numbers c =
    rw c.deref.ensures.value c.self.invariant.0.numbers

pub hold-requires-clause-end : goal.hold-requires-clause-end
hold-requires-clause-end c =
    let had = c.self.invariant.1 in
    let edge = subst (λ (g : Constraints). IsEdge g.nodes c.args.edge) (sym c.self.view_is) c.requires.edge in
    rw had.ends edge.to

pub hold-requires-clause-incoming : goal.hold-requires-clause-incoming
hold-requires-clause-incoming c =
    c.self.invariant.1.incoming

pub hold-requires-clause-few : goal.hold-requires-clause-few
hold-requires-clause-few c =
    let graph = c.self.invariant.0 in
    let room = subst (λ (g : Constraints). length g.edges < g.capacity) (sym c.self.view_is) c.requires.room in
    omega (arith, room, graph.few_edges)

pub hold-requires-clause-edge_room : goal.hold-requires-clause-edge_room
hold-requires-clause-edge_room c =
    let had = c.self.invariant.1 in
    let room = subst (λ (g : Constraints). length g.edges < g.capacity) (sym c.self.view_is) c.requires.room in
    omega (arith, room, had.edges)

pub hold-requires-clause-before_room : goal.hold-requires-clause-before_room
hold-requires-clause-before_room c =
    let had = c.self.invariant.1 in
    let room = subst (λ (g : Constraints). length g.edges < g.capacity) (sym c.self.view_is) c.requires.room in
    omega (arith, room, had.before)

pub hold-requires-2-clause-end : goal.hold-requires-2-clause-end
hold-requires-2-clause-end c =
    let had = c.self.invariant.1 in
    let edge = subst (λ (g : Constraints). IsEdge g.nodes c.args.edge) (sym c.self.view_is) c.requires.edge in
    rw had.ends edge.to

pub hold-requires-2-clause-incoming : goal.hold-requires-2-clause-incoming
hold-requires-2-clause-incoming c =
    c.self.invariant.1.incoming

pub hold-requires-2-clause-few : goal.hold-requires-2-clause-few
hold-requires-2-clause-few c =
    let graph = c.self.invariant.0 in
    let room = subst (λ (g : Constraints). length g.edges < g.capacity) (sym c.self.view_is) c.requires.room in
    omega (arith, room, graph.few_edges)

pub hold-requires-2-clause-edge_room : goal.hold-requires-2-clause-edge_room
hold-requires-2-clause-edge_room c =
    let had = c.self.invariant.1 in
    let room = subst (λ (g : Constraints). length g.edges < g.capacity) (sym c.self.view_is) c.requires.room in
    omega (arith, room, had.edges)

pub hold-requires-2-clause-before_room : goal.hold-requires-2-clause-before_room
hold-requires-2-clause-before_room c =
    let had = c.self.invariant.1 in
    let room = subst (λ (g : Constraints). length g.edges < g.capacity) (sym c.self.view_is) c.requires.room in
    omega (arith, room, had.before)

pub returns-then-is_met-clause-limits : goal.returns-then-is_met-clause-limits
returns-then-is_met-clause-limits c =
    record { nodes = ap (λ (g : Constraints). g.nodes) c.self.view_is; capacity = ap (λ (g : Constraints). g.capacity) c.self.view_is }

pub returns-then-is_met-clause-added : goal.returns-then-is_met-clause-added
returns-then-is_met-clause-added c =
    c.hold.ensures.edges ∙ ap (λ (g : Constraints). g.edges ++ c.args.edge ∷ []) c.self.view_is

pub returns-then-is_met-clause-same : goal.returns-then-is_met-clause-same
returns-then-is_met-clause-same c =
    tt

pub returns-then-is_met-clause-cycle : goal.returns-then-is_met-clause-cycle
returns-then-is_met-clause-cycle c =
    tt

pub returns-then-is_met-clause-once : goal.returns-then-is_met-clause-once
returns-then-is_met-clause-once c =
    tt

pub returns-then-is_met-clause-restored : goal.returns-then-is_met-clause-restored
returns-then-is_met-clause-restored c =
    tt

pub returns-then-is_met-clause-met : goal.returns-then-is_met-clause-met
returns-then-is_met-clause-met c =
    λ _. refl

pub returns-then-is_met-clause-still : goal.returns-then-is_met-clause-still
returns-then-is_met-clause-still c =
    λ _. ap (λ (g : Constraints). g.numbers) c.self.view_is

pub bring_near-requires-clause-some : goal.bring_near-requires-clause-some
bring_near-requires-clause-some c =
    rw c.deref_mut.ensures.value c.self.invariant.0.some_node

pub bring_near-requires-clause-few : goal.bring_near-requires-clause-few
bring_near-requires-clause-few c =
    rw c.deref_mut.ensures.value c.self.invariant.0.few_nodes

pub bring_near-requires-clause-numbers : goal.bring_near-requires-clause-numbers
bring_near-requires-clause-numbers c =
    rw c.deref_mut.ensures.value c.self.invariant.0.numbers

pub repair-requires-clause-place : goal.repair-requires-clause-place
repair-requires-clause-place c =
    let i = c.self.inside in
    let place : c.len-place.result ≡ length i.held.edges.items = search (rules, c.len-place.ensures) in
    ap (λ (n : ℕ). n + 1) place ∙ sym (ap length c.hold-2.ensures.edges ∙ length_push i.held.edges.items c.args.edge)

pub repair-requires-clause-incoming : goal.repair-requires-clause-incoming
repair-requires-clause-incoming c =
    c.hold-2.ensures.incoming

pub repair-requires-clause-nodes : goal.repair-requires-clause-nodes
repair-requires-clause-nodes c =
    let i = c.self.inside in
    let had = c.self.invariant.1 in
    let near = c.deref_mut-2.ensures.value ∙ written_back i.current.len c.bring_near.new.numbers i.current.items (c.bring_near.ensures.count ∙ c.deref_mut.ensures.len) in
    let count = c.bring_near.ensures.count ∙ ap length c.deref_mut.ensures.value in
    c.hold-2.ensures.nodes ∙ had.ends ∙ sym count ∙ sym (ap length near)

pub repair-requires-clause-room : goal.repair-requires-clause-room
repair-requires-clause-room c =
    let i = c.self.inside in
    let had = c.self.invariant.1 in
    let room = subst (λ (g : Constraints). length g.edges < g.capacity) (sym c.self.view_is) c.requires.room in
    let near = c.deref_mut-2.ensures.value ∙ written_back i.current.len c.bring_near.new.numbers i.current.items (c.bring_near.ensures.count ∙ c.deref_mut.ensures.len) in
    let count = c.bring_near.ensures.count ∙ ap length c.deref_mut.ensures.value in
    let edges = ap length c.hold-2.ensures.edges ∙ length_push i.held.edges.items c.args.edge in
    room_within (length i.current.items) (length c.deref_mut-2.result.now) i.limit (length c.hold-2.new.held.edges.items) i.work (ap length near ∙ count) (omega (arith, edges, room)) had.repair

pub release_last-requires-clause-some : goal.release_last-requires-clause-some
release_last-requires-clause-some c =
    let i = c.self.inside in
    let edges = ap length c.hold-2.ensures.edges ∙ length_push i.held.edges.items c.args.edge in
    omega (arith, edges)

pub release_last-requires-clause-incoming : goal.release_last-requires-clause-incoming
release_last-requires-clause-incoming c =
    c.hold-2.ensures.incoming

pub returns-in-Kept-clause-limits : goal.returns-in-Kept-clause-limits
returns-in-Kept-clause-limits c =
    let i = c.self.inside in
    let near = c.deref_mut-2.ensures.value ∙ written_back i.current.len c.bring_near.new.numbers i.current.items (c.bring_near.ensures.count ∙ c.deref_mut.ensures.len) in
    let count = c.bring_near.ensures.count ∙ ap length c.deref_mut.ensures.value in
    let same = c.in-Kept.ensures.count ∙ ap length near in
    let now =
    written_back i.current.len c.repair.new.numbers
    (take i.current.len (c.bring_near.new.numbers ++ drop (length c.bring_near.new.numbers) i.current.items))
    (same ∙ c.bring_near.ensures.count ∙ c.deref_mut.ensures.len) in
    record { nodes = ap length now ∙ same ∙ count ∙ ap (λ (g : Constraints). g.nodes) c.self.view_is; capacity = ap (λ (g : Constraints). g.capacity) c.self.view_is }

pub returns-in-Cycle-clause-limits : goal.returns-in-Cycle-clause-limits
returns-in-Cycle-clause-limits c =
    let i = c.self.inside in
    let near = c.deref_mut-2.ensures.value ∙ written_back i.current.len c.bring_near.new.numbers i.current.items (c.bring_near.ensures.count ∙ c.deref_mut.ensures.len) in
    let count = c.bring_near.ensures.count ∙ ap length c.deref_mut.ensures.value in
    let same = c.in-Cycle.ensures.count ∙ ap length near in
    let now =
    written_back i.current.len c.repair.new.numbers
    (take i.current.len (c.bring_near.new.numbers ++ drop (length c.bring_near.new.numbers) i.current.items))
    (same ∙ c.bring_near.ensures.count ∙ c.deref_mut.ensures.len) in
    record { nodes = ap length now ∙ same ∙ count ∙ ap (λ (g : Constraints). g.nodes) c.self.view_is; capacity = ap (λ (g : Constraints). g.capacity) c.self.view_is }

pub returns-in-Kept-clause-added : goal.returns-in-Kept-clause-added
returns-in-Kept-clause-added c =
    c.hold-2.ensures.edges ∙ ap (λ (g : Constraints). g.edges ++ c.args.edge ∷ []) c.self.view_is

pub returns-in-Kept-clause-same : goal.returns-in-Kept-clause-same
returns-in-Kept-clause-same c =
    tt

pub returns-in-Kept-clause-cycle : goal.returns-in-Kept-clause-cycle
returns-in-Kept-clause-cycle c =
    tt

pub returns-in-Kept-clause-once : goal.returns-in-Kept-clause-once
returns-in-Kept-clause-once c =
    tt

pub returns-in-Kept-clause-restored : goal.returns-in-Kept-clause-restored
returns-in-Kept-clause-restored c =
    tt

pub returns-in-Kept-clause-met : goal.returns-in-Kept-clause-met
returns-in-Kept-clause-met c =
    λ _. refl

pub returns-in-Cycle-clause-added : goal.returns-in-Cycle-clause-added
returns-in-Cycle-clause-added c =
    tt

pub returns-in-Cycle-clause-same : goal.returns-in-Cycle-clause-same
returns-in-Cycle-clause-same c =
    let i = c.self.inside in
    c.release_last.ensures.edges ∙ ap (λ (es : List Edge). take (length es - 1) es) c.hold-2.ensures.edges ∙ take_last i.held.edges.items c.args.edge ∙ ap (λ (g : Constraints). g.edges) c.self.view_is

pub returns-in-Cycle-clause-cycle : goal.returns-in-Cycle-clause-cycle
returns-in-Cycle-clause-cycle c =
    let i = c.self.inside in
    let edges = c.hold-2.ensures.edges ∙ ap (λ (g : Constraints). g.edges ++ c.args.edge ∷ []) c.self.view_is in
    subst (λ (es : List Edge). IsNegativeCycle es c.repair.new.work.walk.items) edges c.in-Cycle.ensures.cycle

pub returns-in-Cycle-clause-once : goal.returns-in-Cycle-clause-once
returns-in-Cycle-clause-once c =
    let edges = c.hold-2.ensures.edges ∙ ap (λ (g : Constraints). g.edges ++ c.args.edge ∷ []) c.self.view_is in
    subst (λ (es : List Edge). VisitsOnce es c.repair.new.work.walk.items) edges c.in-Cycle.ensures.once
