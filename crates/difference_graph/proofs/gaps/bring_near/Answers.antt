use Rattle.std.proofs.Common.{◌≡◌, sym, ◌∙◌, rules, false}
use Rattle.std.proofs.lemmas.Bool.{false≢true}
use Rattle.difference_graph.proofs.LiftLemmas.{lifted_numbers, lifted_met, lifted_same, lifted_near, keeps_both}
use Rattle.difference_graph.proofs.gaps.bring_near.Goals as goal

pub close_gaps-requires-clause-numbers : goal.close_gaps-requires-clause-numbers
close_gaps-requires-clause-numbers c = lifted_numbers c.args.numbers.now c.lift.new.numbers c.lift.ensures.lifted c.requires.numbers

pub returns-then-not-are_near-clause-met : goal.returns-then-not-are_near-clause-met
returns-then-not-are_near-clause-met c =
    let l = c.lift.ensures.lifted in
    keeps_both c.args.numbers.now c.lift.new.numbers c.close_gaps.new.numbers l.count (lifted_met c.args.numbers.now c.lift.new.numbers l) c.close_gaps.ensures.met

-- the numbers were near already
pub returns-then-not-are_near-clause-same : goal.returns-then-not-are_near-clause-same
returns-then-not-are_near-clause-same c narrow =
    let not : c.are_near-2.result ≡ false = search (rules, c.if-not-are_near.true) in
    let near = lifted_near c.args.numbers.now c.lift.new.numbers c.lift.ensures.lifted narrow in
    absurd (false≢true (sym not ∙ c.are_near-2.ensures.near.1 near))

pub returns-else-not-are_near-clause-met : goal.returns-else-not-are_near-clause-met
returns-else-not-are_near-clause-met c = lifted_met c.args.numbers.now c.lift.new.numbers c.lift.ensures.lifted

pub returns-else-not-are_near-clause-same : goal.returns-else-not-are_near-clause-same
returns-else-not-are_near-clause-same c narrow = lifted_same c.args.numbers.now c.lift.new.numbers c.lift.ensures.lifted c.requires.some
