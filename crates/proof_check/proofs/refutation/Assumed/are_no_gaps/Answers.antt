use Rattle.std.proofs.Common.{rules}
use Rattle.proof_check.proofs.AssumedLemmas.{no_gaps_more}
use Rattle.proof_check.proofs.refutation.Assumed.are_no_gaps.Goals as goal

pub loop-x-preserved : goal.loop-x-preserved
loop-x-preserved c = no_gaps_more c.args.self.now c.args.k c.args.i c.loop-x.x c.loop-x.invariant (c.has.ensures.0 (search rules))
