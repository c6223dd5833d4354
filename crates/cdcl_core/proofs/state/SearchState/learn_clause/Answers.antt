-- What the calls of learning ask for, and where the search is after them.
use Rattle.std.proofs.Common.{◌∙◌, refl}
use Rattle.cdcl_core.proofs.Progress.{conflict_reasons}
use Rattle.cdcl_core.proofs.state.SearchState.learn_clause.Goals as goal

pub learn-requires : goal.learn-requires
learn-requires c =
    let s = c.args.self.now in
    let w = c.requires.conflicted in
    let conflicted = w.midway.conflicted in
    record {
      reasons = conflict_reasons s.derived.db s.theory.links w.problem.edges s.trail s.graph c.args.conflict conflicted;
      held = conflicted.conflict.held;
      falsified = conflicted.conflict.falsified;
      level = c.requires.level;
      here = conflicted.here c.requires.level;
    }

pub settle-requires : goal.settle-requires
settle-requires c = record { conflicted = c.requires.conflicted; held = rw c.as_slice.ensures.items c.in_ok-learned.ensures.refute.held }

pub take-requires : goal.take-requires
take-requires c =
    let w = c.requires.conflicted in
    let l = c.in_ok-learned.ensures in
    let e = c.in_ok-settle.ensures in
    let settled = e.settled c.if-not-branch.false in
    record {
      level = rw e.trail c.requires.level;
      conflicted = record { problem = w.problem; conflicts = w.conflicts; few = w.few; midway = e.midway w.problem w.conflicts w.midway };
      asserting = rw e.trail l.asserting;
      jump = rw e.trail l.jump;
      variables = rw e.trail l.variables;
      once = l.once;
      refute = rw e.clauses l.refute;
      used = rw e.clauses l.used;
      below = rw e.trail l.below;
      two_above = rw (e.trail, e.clauses) l.two_above;
      settled = rw c.as_slice.ensures.items at settled;
    }

pub returns : goal.returns
returns c = record {
  theory = c.in_ok-take.ensures.theory ∙ c.in_ok-settle.ensures.theory;
  learnt = λ yes p n mid. c.in_ok-take.ensures.learnt p n (c.in_ok-settle.ensures.midway p n mid);
  whole = λ whole. refl;
}
