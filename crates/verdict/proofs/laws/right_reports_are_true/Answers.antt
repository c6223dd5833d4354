use Rattle.verdict.proofs.Claiming.{right_exact}
use Rattle.verdict.proofs.laws.right_reports_are_true.Goals as goal

pub returns : goal.returns
returns c = record {
  claims = λ log f conflicts r valid right. c.accepted_reports_are_true.ensures.claims log f conflicts r valid (c.right_reports_are_accepted.ensures.accepted log f conflicts r right);
  exact = right_exact c.accepted_reports_are_true.ensures.claims;
}
