use Rattle.std.proofs.Common.{rules}
use Rattle.proof_check.proofs.AssumedLemmas.{rule_taken}
use Rattle.proof_check.proofs.judge.take_rule.Goals as goal

pub returns-then-branch : goal.returns-then-branch
returns-then-branch c =
    let none = rw c.events.ensures.events at (c.in_ok-find_no_gaps.ensures.none (search rules)) in
    rule_taken c.args.rules.now c.args.rule.now c.in-Some.span c.args.assumed.now c.find_no_gaps.new.self _ c.take.result c.in-Some.ensures none c.find_no_gaps.ensures.kept c.take.ensures.taken
