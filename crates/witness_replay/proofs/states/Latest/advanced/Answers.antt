use Rattle.std.proofs.Common.{◌∙◌, sym}
use Rattle.witness_replay.specs.Timelines.{moment_at}
use Rattle.witness_replay.proofs.LatestLemmas.{after-rest}
use Rattle.witness_replay.proofs.states.Latest.advanced.Goals as goal

pub returns-clause-after : goal.returns-clause-after
returns-clause-after c =
    after-rest c.args.moments.now (moment_at c.args.moments.now c.args.place).time c.loop-proposition.latest.places c.requires.rising (sym c.has_more.ensures ∙ c.loop-proposition-test.false)
