use Rattle.question.proofs.ready.differences.Goals as goal

-- bounds in conflict exclude every timing
pub returns-in-Conflict : goal.returns-in-Conflict
returns-in-Conflict c = λ t admissible.
    let conflict = rw c.in-Conflict.is at c.requires in
    c.conflict_excludes_timings.ensures c.args.question.now.log c.in-Conflict.field-0 t conflict.bounds conflict.conflict admissible
