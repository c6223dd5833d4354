use Rattle.std.proofs.Common.{◌∙◌}
use Rattle.neg_cycle.proofs.SearchLemmas.{begins, solved_high}
use Rattle.neg_cycle.proofs.search.solve.Goals as goal

pub passes-init : goal.passes-init
passes-init c =
    let start = c.in_ok-labels.ensures.beginning in
    record { labels = begins c.args.edges.now c.args.nodes _ _ start; count = start.numbers_count }

pub returns-in-Kept-clause-high : goal.returns-in-Kept-clause-high
returns-in-Kept-clause-high c b within =
    let kept = c.in_ok-pass.ensures in
    let count = kept.count ∙ c.passes.invariant.count in
    rw c.from_vec.ensures.items (solved_high c.args.nodes b c.args.edges.now c.pass.new.labels.numbers.items c.pass.new.labels.walks.items c.requires count kept.labels within)
