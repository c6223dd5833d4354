use Rattle.std.proofs.Common.{◌≡◌, [], None, Some}
use Rattle.proof_check.proofs.KeptLemmas.{empty_tested, empty_where_found}
use Rattle.proof_check.proofs.clauses.ends_empty.Goals as goal

pub returns-in-Some : goal.returns-in-Some
returns-in-Some c =
    let clause = c.in-Some.clause.now in
    let found = empty_where_found c.args.kept.now.closed (Some clause) c.in-Some.ensures.clause in
    let tested = empty_tested clause c.is_empty.result c.is_empty.ensures in
    (λ yes. found.0 (tested.0 yes), λ empty. tested.1 (found.1 empty))

pub returns-in-None : goal.returns-in-None
returns-in-None c =
    let found = empty_where_found c.args.kept.now.closed None c.in-None.ensures.clause in
    (λ no. absurd (cc), λ empty. let none : None ≡ Some [] = found.1 empty in absurd (cc))
