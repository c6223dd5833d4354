use Rattle.std.proofs.Common.{refl, arith}
use Rattle.demo_log.proofs.SeedLogs.{numbered-name}
use Rattle.demo_log.proofs.generator.demo_act.Goals as goal

pub numbered-requires : goal.numbered-requires
numbered-requires c = numbered-name 109 c.args.round refl (omega arith)

pub numbered-requires-in-3 : goal.numbered-requires-in-3
numbered-requires-in-3 c = numbered-name 109 c.args.round refl (omega arith)
