use Rattle.std.proofs.Common.{arith}
use Rattle.std.proofs.lemmas.Grind.{common_steps}
use Rattle.skewcheck.proofs.words_of.Goals as goal

pub loop-word-init : goal.loop-word-init
loop-word-init c = grind (arith, common_steps, c.args.arguments.rest.ok)

pub returns : goal.returns
returns c = grind (arith, common_steps, c.loop-word.word-iterator.rest.ok)
