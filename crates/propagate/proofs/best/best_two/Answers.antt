use Rattle.std.proofs.Common.{refl}
use Rattle.propagate.proofs.BestLemmas.{no_one}
use Rattle.propagate.proofs.best.best_two.Goals as goal

pub returns-in_err-first-clause-short : goal.returns-in_err-first-clause-short
returns-in_err-first-clause-short c = λ none. no_one c.args.clause.now (c.in_err-first.ensures.none refl)
