use Rattle.least_skew.proofs.finding.search_least.Goals as goal

pub loop-bracket-init : goal.loop-bracket-init
loop-bracket-init c = c.up_to-bracket.ensures.bracket c.args.aim.now

pub returns : goal.returns
returns c = record { right = c.answer.ensures.right c.args.aim.now c.args.max c.loop-bracket.invariant c.requires.consistent }
