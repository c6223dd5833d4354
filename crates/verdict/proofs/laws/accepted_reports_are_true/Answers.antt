use Rattle.verdict.proofs.Claiming.{accepted_true}
use Rattle.verdict.proofs.laws.accepted_reports_are_true.Goals as goal

pub returns : goal.returns
returns c = record { claims = accepted_true c.conflict_excludes_timings.ensures c.refuted_is_no_value.ensures }
