use Rattle.verdict.proofs.Outlining.{outlines_text}
use Rattle.verdict.proofs.auditing.outline_of.Goals as goal

pub returns-in-Ok-clause-outlined : goal.returns-in-Ok-clause-outlined
returns-in-Ok-clause-outlined c = outlines_text c.texts_tell_apart.ensures c.args.text.now c.in-Ok.outline c.in-Ok.ensures.answer
