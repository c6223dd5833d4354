use Rattle.proof_log.proofs.spelling.has_spelling.Goals as goal

pub returns-in-Learn : goal.returns-in-Learn
returns-in-Learn c =
    let learnt = rw (c.as_slice-in-Learn.ensures.items, c.as_slice-in-Learn-2.ensures.items) at c.is_spelled_learn.ensures in
    record { spelled = rw c.in-Learn.is learnt }
