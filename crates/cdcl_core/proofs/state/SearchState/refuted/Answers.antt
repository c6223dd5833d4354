use Rattle.cdcl_core.proofs.Progress.{conflict_reasons}
use Rattle.cdcl_core.proofs.state.SearchState.refuted.Goals as goal

pub refute-requires : goal.refute-requires
refute-requires c =
    let w = c.requires.conflicted in
    let s = c.args.self.now in
    record {
      reasons = conflict_reasons s.derived.db s.theory.links w.problem.edges s.trail s.graph c.args.conflict w.midway.conflicted;
      held = w.midway.conflicted.conflict.held;
      falsified = w.midway.conflicted.conflict.falsified;
      level = c.requires.level;
    }

pub settle-requires : goal.settle-requires
settle-requires c = record { conflicted = c.requires.conflicted; held = rw c.deref.ensures.value c.in_ok-hints.ensures.refute.held }

pub refuted_by-requires : goal.refuted_by-requires
refuted_by-requires c =
    let w = c.requires.conflicted in
    let e = c.in_ok-settle.ensures in
    let settled = e.settled c.if-not-branch.false in
    record {
      conflicted = record { problem = w.problem; conflicts = w.conflicts; few = w.few; midway = e.midway w.problem w.conflicts w.midway };
      refute = rw (c.deref-2.ensures.value, e.clauses) c.in_ok-hints.ensures.refute;
      settled = rw c.deref-2.ensures.value (rw c.deref.ensures.value at settled);
    }

pub returns : goal.returns
returns c = record {
  refuted = λ p n mid. rw c.in_ok-settle.ensures.theory at (c.in_ok-refuted_by.ensures.refuted p n (c.in_ok-settle.ensures.midway p n mid));
  whole = tt;
}
