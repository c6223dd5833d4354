use Rattle.std.proofs.Common.{ap, sym}
use Rattle.std.specs.Prelude.{is_some}
use Rattle.witness_replay.proofs.LatestLemmas.{latest-passed}
use Rattle.witness_replay.proofs.states.Latest.extended.Goals as goal

pub returns-in-None-clause-latest : goal.returns-in-None-clause-latest
returns-in-None-clause-latest c =
    latest-passed c.args.log.now c.args.moments.now c.args.proposition.host c.args.proposition.name.now c.args.self c.requires.latest (ap is_some (sym c.in-None.ensures.change)) (sym c.in-None.ensures.pulse)
