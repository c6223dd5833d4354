use Rattle.std.proofs.Common.{refl, arith}
use Rattle.demo_log.proofs.SeedLogs.{numbered-name}
use Rattle.demo_log.proofs.generator.demo_host.Goals as goal

pub numbered-requires : goal.numbered-requires
numbered-requires c = numbered-name 104 c.args.place refl (omega arith)
