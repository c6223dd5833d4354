-- What the calls of a run ask for, and what its three answers say.
use Rattle.std.proofs.Common.{◌≡◌, ◌∙◌, refl, subst, false, List, [], ◌∷◌, length, Option, Some, None, arith}
use Rattle.std.specs.Prelude.{IfNone, IfSome}
use Rattle.propagate.specs.declared.entry.Level.{Level}
use Rattle.cdcl_core.specs.declared.conflict.Theory.{Theory}
use Rattle.cdcl_core.proofs.Endings.{model_found, refuted_found, spent_bounded, spent_found, spent_unrefuted, too_many}
use Rattle.cdcl_core.proofs.Progress.{graph_nodes}
use Rattle.cdcl_core.proofs.state.SearchState.run.Goals as goal

no_level : (levels : List Level) → length levels ≡ 0 → levels ≡ []
no_level [] none = refl
no_level (l ∷ ls) none = absurd (omega (arith, none))

pub conflicts-init : goal.conflicts-init
conflicts-init c = record { theory = refl; search = λ p search. search }

pub descend-requires : goal.descend-requires
descend-requires c =
    let b = c.requires.begun in
    record { under_way = record { problem = b.0; conflicts = c.conflicts._conflict; few = omega (arith, c.conflicts-test.true, c.requires.most); search = c.conflicts.invariant.search b.0 b.1 } }

pub potentials_of-requires : goal.potentials_of-requires
potentials_of-requires c =
    let b = c.requires.begun in
    let met = (rw c.in-Met.is at c.in_ok-values.ensures.descended) b.0 c.conflicts._conflict (c.conflicts.invariant.search b.0 b.1) in
    record { nodes = graph_nodes b.0 c.descend.new.self met.0.search_for }

pub returns-in-Met : goal.returns-in-Met
returns-in-Met c = record {
  none = tt;
  answer = λ p start.
      let met = (rw c.in-Met.is at c.in_ok-values.ensures.descended) p c.conflicts._conflict (c.conflicts.invariant.search p start) in
      record {
        found_is =
            λ log f v valid fits. model_found p c.descend.new.self c.conflicts._conflict c.in-Met.values c.in_ok-potentials-in-Met.potentials met.0 met.1
            c.graphs_are_solved.ensures.solution c.in_ok-potentials-in-Met.ensures.potentials;
        bounded = tt;
        refuted_by_rules = tt;
      };
}

pub conflict_clause-requires : goal.conflict_clause-requires
conflict_clause-requires c =
    let b = c.requires.begun in
    record {
      stopped = record {
        problem = b.0;
        conflicts = c.conflicts._conflict;
        few = omega (arith, c.conflicts-test.true, c.requires.most);
        stopped = (rw c.in-Stopped.is at c.in_ok-values.ensures.descended) b.0 c.conflicts._conflict (c.conflicts.invariant.search b.0 b.1);
      };
    }

pub refuted-requires : goal.refuted-requires
refuted-requires c =
    let b = c.requires.begun in
    let stopped = (rw c.in-Stopped.is at c.in_ok-values.ensures.descended) b.0 c.conflicts._conflict (c.conflicts.invariant.search b.0 b.1) in
    record {
      level = no_level c.conflict_clause.new.self.trail.levels (omega (arith, c.level.ensures.level, c.if-level-eq0.true));
      conflicted = record {
        problem = b.0;
        conflicts = c.conflicts._conflict;
        few = omega (arith, c.conflicts-test.true, c.requires.most);
        midway = c.in_ok-clause-in-Stopped.ensures.midway b.0 c.conflicts._conflict stopped;
      };
    }

pub learn_clause-requires-clause-conflicted : goal.learn_clause-requires-clause-conflicted
learn_clause-requires-clause-conflicted c =
    let b = c.requires.begun in
    let stopped = (rw c.in-Stopped.is at c.in_ok-values.ensures.descended) b.0 c.conflicts._conflict (c.conflicts.invariant.search b.0 b.1) in
    record {
      problem = b.0;
      conflicts = c.conflicts._conflict;
      few = omega (arith, c.conflicts-test.true, c.requires.most);
      midway = c.in_ok-clause-in-Stopped.ensures.midway b.0 c.conflicts._conflict stopped;
    }

-- what follows of a value that is there, and where there is none
of_some : {T : Type 0} (o : Option T) (A B : T → Type 0) → ((x : T) → A x → B x) → IfSome o A → IfSome o B
of_some (Some x) A B then a = then x a
of_some None A B then a = tt

of_none : {T : Type 0} (o : Option T) (A B : Type 0) → (A → B) → IfNone o A → IfNone o B
of_none (Some x) A B then a = tt
of_none None A B then a = then a

pub returns-then-level-eq0-clause-answer : goal.returns-then-level-eq0-clause-answer
returns-then-level-eq0-clause-answer c =
    of_some c.refuted_within.result _ _ (λ found all p start.
    let (lines, is, found_is, few) = all in
    let stopped = (rw c.in-Stopped.is at c.in_ok-values.ensures.descended) p c.conflicts._conflict (c.conflicts.invariant.search p start) in
    let midway = c.in_ok-clause-in-Stopped.ensures.midway p c.conflicts._conflict stopped in
    let refuting = (rw is at c.in_ok-lines-in-Stopped.ensures.refuted) p c.conflicts._conflict midway in
    rw found_is (record {
      found_is = refuted_found p c.conflict_clause.new.self.theory.whole c.conflicts._conflict c.args.budget lines c.conflicts-test.true refuting few;
      bounded = tt;
      refuted_by_rules = tt;
    }))
    c.refuted_within.ensures.some

pub returns-then-level-eq0-clause-none : goal.returns-then-level-eq0-clause-none
returns-then-level-eq0-clause-none c =
    let b = c.requires.begun in
    let n = c.conflicts._conflict in
    let stopped = (rw c.in-Stopped.is at c.in_ok-values.ensures.descended) b.0 n (c.conflicts.invariant.search b.0 b.1) in
    let midway = c.in_ok-clause-in-Stopped.ensures.midway b.0 n stopped in
    let s = c.conflict_clause.new.self in
    let same = c.in_ok-clause-in-Stopped.ensures.theory ∙ c.in_ok-values.ensures.theory ∙ c.conflicts.invariant.theory in
    of_none c.refuted_within.result _ _ (λ many.
    subst (λ (t : Theory). t.whole ≡ false) same
    (too_many b.0 s.theory.whole n c.args.budget c.in_ok-lines-in-Stopped.lines c.conflicts-test.true c.in_ok-lines-in-Stopped.ensures.whole
    (of_some c.in_ok-lines-in-Stopped.lines _ _ (λ lines refuting. refuting b.0 n midway) c.in_ok-lines-in-Stopped.ensures.refuted) many))
    c.refuted_within.ensures.none

pub returns-in-Lost-clause-none : goal.returns-in-Lost-clause-none
returns-in-Lost-clause-none c =
    let b = c.requires.begun in
    let same = c.in_ok-values.ensures.theory ∙ c.conflicts.invariant.theory in
    subst (λ (t : Theory). t.whole ≡ false) same ((rw c.in-Lost.is at c.in_ok-values.ensures.descended) b.0 c.conflicts._conflict (c.conflicts.invariant.search b.0 b.1))

pub conflicts-preserved : goal.conflicts-preserved
conflicts-preserved c = record {
  theory = c.in_ok-learn_clause-in-Stopped.ensures.theory ∙ c.in_ok-clause-in-Stopped.ensures.theory ∙ c.in_ok-values.ensures.theory ∙ c.conflicts.invariant.theory;
  search = λ p start.
      let stopped = (rw c.in-Stopped.is at c.in_ok-values.ensures.descended) p c.conflicts._conflict (c.conflicts.invariant.search p start) in
      c.in_ok-learn_clause-in-Stopped.ensures.learnt c.if-not-branch.false p c.conflicts._conflict (c.in_ok-clause-in-Stopped.ensures.midway p c.conflicts._conflict stopped);
}

pub returns-then-are_few-clause-answer : goal.returns-then-are_few-clause-answer
returns-then-are_few-clause-answer c = λ p start.
    let all : c.conflicts._conflict ≡ c.args.budget = omega (arith, c.conflicts.auto._conflict-end, c.conflicts-test.false) in
    let search = c.conflicts.invariant.search p start in
    let few = c.are_few.ensures.few.0 c.if-are_few.true in
    record {
      found_is = rw c.take_lines-lines.ensures.lines (spent_found p c.conflicts.self c.conflicts._conflict c.args.budget all search (rw c.take_lines-lines.ensures.lines at few));
      bounded = spent_bounded p c.conflicts.self c.conflicts._conflict c.args.budget all search search.search_for.theory_of.posed;
      refuted_by_rules = spent_unrefuted p c.conflicts.self c.conflicts._conflict c.args.budget c.requires.some all search;
    }
