use Rattle.hint_refutation.proofs.Propagated.{closed-by_clauses}
use Rattle.hint_refutation.proofs.laws.closed_by_clauses.Goals as goal

pub returns : goal.returns
returns g c = record { law = closed-by_clauses g.row.L.Denot }
