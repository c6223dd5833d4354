-- What writing the lines of assumed orders asks for, and that the conflict is left.
use Rattle.std.proofs.Common.{◌≡◌, ◌∙◌, sym, ap, refl, subst, ◌<◌, Bool, Result, Ok, Err, length}
use Rattle.std.specs.Prelude.{All, IfOk, IsTrue, OnOk}
use Rattle.clause_db.specs.declared.lit.Lit.{Lit}
use Rattle.cdcl_core.specs.Orders.{IsOrderAmong}
use Rattle.cdcl_core.specs.Recording.{IsSettled}
use Rattle.cdcl_core.proofs.Progress.{cites_count, conflict_reasons, edges_count, midway_settled, trail_vars}
use Rattle.cdcl_core.proofs.state.SearchState.settle.Goals as goal

pub settle_all-requires : goal.settle_all-requires
settle_all-requires c =
    let s = c.args.self.now in
    let w = c.requires.conflicted in
    let own = w.midway.search_for in
    let reasons = conflict_reasons s.derived.db s.theory.links w.problem.edges s.trail s.graph c.args.conflict w.midway.conflicted in
    record {
      orders = own.theory_of.orders;
      among = subst (λ n. All (IsOrderAmong n) s.theory.atoms) (own.theory_of.nodes ∙ sym own.ground.nodes) own.theory_of.within;
      count = sym (edges_count w.problem s own) ∙ sym (ap length own.ground.edges);
      room = rw own.ground.edges own.ground.room;
      held = c.requires.held;
      cited = cites_count w.problem s own;
      low = subst (λ n. All (All (λ (l : Lit). l.var < n)) s.derived.db) (trail_vars w.problem s own) reasons.variables;
    }

-- what follows from two facts of a success
of_both : {T E : Type 0} (r : Result T E) (A C P : Type 0) (Q : T → Type 0) → ((x : T) → A → (C → Q x) → P) → OnOk r A → (C → IfOk r Q) → OnOk r P
of_both (Ok x) A C P Q then a q = then x a q
of_both (Err e) A C P Q then a q = tt

of_whole : {T E : Type 0} (r : Result T E) (W C : Type 0) (Q P : T → Type 0) → (W → C) → ((x : T) → Q x → P x) → (C → IfOk r Q) → IfOk r (λ x. W → P x)
of_whole (Ok x) W C Q P first then q = λ w. then x (q (first w))
of_whole (Err e) W C Q P first then q = tt

pub returns : goal.returns
returns c =
    let s = c.args.self.now in
    let w = c.requires.conflicted in
    let e = c.settle_all.ensures in
    let all_settled : Type 0 = All IsSettled s.derived.cites in
    let same : Bool → Type 0 = λ done. IsTrue done × (c.settle_all.new.derived.lines ≡ s.derived.lines) in
    record {
      theory = refl;
      trail = refl;
      clauses = of_both c.settle_all.result _ all_settled _ same (λ done settles none. settles.clauses) e.settled e.none;
      midway = of_both c.settle_all.result _ all_settled _ same (λ done settles none p n mid.
          midway_settled p s n c.args.conflict c.settle_all.new.ground c.settle_all.new.derived mid e.limits e.edges settles (λ all. (none all).1))
          e.settled e.none;
      settled = e.done;
      whole = of_whole c.settle_all.result (IsTrue s.theory.whole) all_settled same (λ done. IsTrue done) w.midway.search_for.settled (λ done both. both.0) e.none;
    }
