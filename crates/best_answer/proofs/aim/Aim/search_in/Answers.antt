use Rattle.best_answer.proofs.aim.Aim.search_in.Goals as goal

pub search_log-requires : goal.search_log-requires
search_log-requires c = rw (c.in_ok-question.ensures.log, c.in_ok-question.ensures.form) (record { small = c.requires.small })
