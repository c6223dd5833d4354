use Rattle.logic_table.proofs.trails.push_taught.Goals as goal

pub push_lesson-requires-clause-conflict : goal.push_lesson-requires-clause-conflict
push_lesson-requires-clause-conflict c = rw c.in-ClauseConflict.is at c.requires.halted.conflict
