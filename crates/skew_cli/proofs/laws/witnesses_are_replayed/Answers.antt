use Rattle.skew_cli.proofs.Replayed.{witnesses-replayed}
use Rattle.skew_cli.proofs.laws.witnesses_are_replayed.Goals as goal

pub returns : goal.returns
returns c = witnesses-replayed c.texts_are_unambiguous.ensures c.logs_are_valid.ensures
