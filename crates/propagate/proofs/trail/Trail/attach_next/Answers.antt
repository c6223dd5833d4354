use Rattle.std.proofs.lemmas.Result.{err_from_is_err_and}
use Rattle.std.proofs.Common.{◌≡◌, ◌∙◌, ap, sym, refl, ℕ, Some, None, arith}
use Rattle.propagate.specs.Watching.{Watching}
use Rattle.propagate.specs.Trails.{Assigned, rewatched}
use Rattle.propagate.specs.declared.watch.Watch.{Watch}
use Rattle.propagate.proofs.ReachLemmas.{progress_none}
use Rattle.propagate.proofs.VisitLemmas.{progress_lists, progress_two, progress_up}
use Rattle.propagate.proofs.trail.Trail.attach_next.Goals as goal

rewatched_is : (s t : Assigned) (v : Watching) (n : ℕ) → s ≡ rewatched t v n → s ≡ rewatched t s.watching n
rewatched_is s t v n is = is ∙ ap (λ (w : Watching). rewatched t w n) (sym (ap (λ (x : Assigned). x.watching) is))

none_some : {p : Watch} → None ≡ Some p → ⊥
none_some e = cc

pub returns-in_err-attach_watched-in-Some-clause-reached : goal.returns-in_err-attach_watched-in-Some-clause-reached
returns-in_err-attach_watched-in-Some-clause-reached c =
    let p = err_from_is_err_and c.from_residual-in_err-attach_watched-in-Some.result c.from_residual-in_err-attach_watched-in-Some.ensures.1 in
    rw (p.1, p.2)
    (progress_lists c.args.clauses.now c.args.self.now c.assign_if_unit.new.self c.attach_watched.new.self c.args.graph.now c.assign_if_unit.new.graph c.attach_watched.ensures.same c.in_err-attach_watched-in-Some.ensures.err
    c.attach_watched.ensures.satisfied c.attach_watched.ensures.after c.in_ok-assign_if_unit-in-Some.ensures.reached)

pub returns-in_ok-attach-in-None-clause-reached : goal.returns-in_ok-attach-in-None-clause-reached
returns-in_ok-attach-in-None-clause-reached c =
    let t = c.args.self.now in
    let made = c.in_ok-attach-in-None.ensures.ok in
    let short = rw (c.lits.ensures.clause, c.requires.next) at (c.in-None.ensures.short refl) in
    progress_up c.args.clauses.now t t c.attach.new.self c.args.graph.now c.args.graph.now None
    (rewatched_is c.attach.new.self t _ t.propagated made) (ap (λ (x : Assigned). x.watching.watches) made)
    (ap (λ (x : Assigned). x.watching.satisfied) made) c.attach.ensures.after
    (omega (arith, c.requires.next, c.requires.held)) (λ none. short) (λ p is. absurd (none_some is)) (λ p is. absurd (none_some is))
    (progress_none t c.args.clauses.now c.args.graph.now c.requires.work)

pub returns-in_ok-attach_watched-in-Some-clause-reached : goal.returns-in_ok-attach_watched-in-Some-clause-reached
returns-in_ok-attach_watched-in-Some-clause-reached c =
    let best = rw c.lits.ensures.clause at c.in-Some.ensures.two in
    progress_two c.args.clauses.now c.args.self.now c.assign_if_unit.new.self c.attach_watched.new.self c.args.graph.now
    c.assign_if_unit.new.graph c.args.clause c.in-Some.watch c.in_ok-assign_if_unit-in-Some.ensures.reached
    c.assign_if_unit.ensures.unmoved
    c.in_ok-assign_if_unit-in-Some.ensures.assigned best c.attach_watched.ensures.same c.in_ok-attach_watched-in-Some.ensures.ok
    c.attach_watched.ensures.satisfied c.attach_watched.ensures.after c.requires.next c.requires.held
