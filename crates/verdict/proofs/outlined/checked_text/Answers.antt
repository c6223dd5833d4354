use Rattle.verdict.proofs.OutlineAudits.{text_answer, text_learn}
use Rattle.verdict.proofs.outlined.checked_text.Goals as goal

pub returns-clause-answer : goal.returns-clause-answer
returns-clause-answer c = text_answer c.check_text.result c.in_ok-judge.judge c.args.question.now.log c.args.question.now.form c.args.value c.args.text.now
    (rw (c.log.ensures.log, c.nodes.ensures.form) at c.in_ok-judge.ensures.sought) c.check_text.ensures.refutes c.check_text.ensures.derives c.check_text.ensures.wrong

pub returns-clause-learn : goal.returns-clause-learn
returns-clause-learn c = text_learn c.check_text.result c.args.text.now c.check_text.ensures.learn
