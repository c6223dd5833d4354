use Rattle.skew_bounds.proofs.tightening.tight.Goals as goal

-- bounds in conflict exclude every timing
pub returns-clause-inconsistent : goal.returns-clause-inconsistent
returns-clause-inconsistent c t admissible =
    let conflict = rw c.in-Conflict.is at c.in_ok-times.ensures.answer in
    c.conflict_excludes_timings.ensures c.args.log.now c.in-Conflict.steps t conflict.bounds conflict.conflict admissible
