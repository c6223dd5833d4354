use Rattle.std.proofs.Common.{◌∙◌, subst, sym}
use Rattle.mt_model.specs.Log.{IsLog}
use Rattle.demo_log.proofs.SeedLogs.{built-log, seeds-have-logs}
use Rattle.demo_log.proofs.generator.demo_log.Goals as goal

pub unreachable-requires : goal.unreachable-requires
unreachable-requires c =
    let valid = subst IsLog (sym (built-log c.args.seed c.in_ok-hosts.hosts c.in_ok-rows.rows c.in_ok-hosts.ensures c.in_ok-rows.ensures)) (seeds-have-logs c.args.seed) in
    let none = c.in-None.ensures.valid.1 valid in
    cc

pub returns : goal.returns
returns c = record { log = c.in-Some.ensures.log ∙ built-log c.args.seed c.in_ok-hosts.hosts c.in_ok-rows.rows c.in_ok-hosts.ensures c.in_ok-rows.ensures }
