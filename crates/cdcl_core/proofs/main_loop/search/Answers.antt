-- What is found.
use Rattle.cdcl_core.proofs.main_loop.search.Goals as goal

pub returns : goal.returns
returns c =
    let answer = rw c.in-Some.is at c.in_ok-found.ensures.answer in
    record {
      found = answer.found_is;
      bounded = answer.bounded;
      refuted_by_rules = answer.refuted_by_rules;
    }
