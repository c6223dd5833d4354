use Rattle.std.proofs.Common.{◌∙◌, ap, refl, sym, length, Result, Ok, Err, arith}
use Rattle.std.specs.Prelude.{IfOk, OnOk}
use Rattle.cdcl_core.proofs.Progress.{clause_room, line_room, midway_cycle, midway_false, stuck_over, trail_vars}
use Rattle.cdcl_core.proofs.state.SearchState.conflict_clause.Goals as goal

pub returns-in-False : goal.returns-in-False
returns-in-False c = record { theory = refl; midway = λ p n stopped. midway_false p c.args.self.now n c.in-False.clause (rw c.in-False.is at stopped) }

pub extend_to-requires : goal.extend_to-requires
extend_to-requires c =
    let own = c.requires.stopped.stopped.search_for in
    record { vars = own.theory_of.links_are.count ∙ sym (trail_vars c.requires.stopped.problem c.args.self.now own); within = own.linked.within; linked = own.linked.lits }

pub add_cycle-requires : goal.add_cycle-requires
add_cycle-requires c =
    let w = c.requires.stopped in
    let s = c.args.self.now in
    let own = w.stopped.search_for in
    record {
      orders = own.theory_of.orders;
      links = own.theory_of.links_are;
      vars = trail_vars w.problem s own;
      linked = rw c.deref.ensures.value c.in_ok-extend_to-in-Refused.ensures.linked;
      stuck = rw c.as_slice.ensures.items (stuck_over w.problem s w.conflicts c.in-Refused.field-0 (rw c.in-Refused.is at w.stopped));
      clause_room = clause_room w.problem s own w.conflicts 0 s.derived.db w.few (omega arith) w.stopped.spent;
      line_room = line_room w.problem s own w.conflicts 0 s.derived.db w.few (omega arith) w.stopped.spent;
    }

-- what follows from eight facts of a success
of_success : {T E : Type 0} (r : Result T E) (A B C D S F G : Type 0) (H P : T → Type 0) → ((x : T) → A → B → C → D → S → H x → F → G → P x) → OnOk r A → OnOk r B
    → OnOk r C → OnOk r D → OnOk r S → IfOk r H → OnOk r F → OnOk r G → IfOk r P
of_success (Ok x) A B C D S F G H P then a b c d s h f g = then x a b c d s h f g
of_success (Err e) A B C D S F G H P then a b c d s h f g = tt

pub returns-in_ok-extend_to-in-Refused : goal.returns-in_ok-extend_to-in-Refused
returns-in_ok-extend_to-in-Refused c =
    let s = c.args.self.now in
    let e = c.add_cycle.ensures in
    record {
      theory = refl;
      midway = of_success c.add_cycle.result _ _ _ _ _ _ _ _ _ (λ place clauses kept lines lessons settled conflicted derives spending p n stopped.
          midway_cycle p s n place c.in-Refused.field-0 c.extend_to.new.self c.add_cycle.new.derived
          (rw c.in-Refused.is at stopped) c.in_ok-extend_to-in-Refused.ensures.all c.in_ok-extend_to-in-Refused.ensures.linked clauses kept lines lessons settled
          (λ base m count stuck. conflicted base m (count ∙ ap length (sym c.as_slice.ensures.items)) stuck)
          (λ log f v base m are stuck old. derives log f v base m (rw c.as_slice.ensures.items are) stuck old) spending)
          e.clauses e.kept e.lines e.lessons e.settled e.conflicted e.derives e.spending;
    }
