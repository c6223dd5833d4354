use Rattle.std.proofs.Common.{◌≡◌, length, rules}
use Rattle.std.specs.Prelude.{slice_index_or}
use Rattle.proof_check.proofs.SpanLemmas.{span_or_gap, three_args}
use Rattle.proof_check.proofs.judge.span_in.Goals as goal

pub returns-then-unused-eq0 : goal.returns-then-unused-eq0
returns-then-unused-eq0 c =
    let args = c.args.rule.now.args in
    let size : length args ≡ 4 = search rules in
    let last : slice_index_or args 3 0 ≡ 0 = search rules in
    span_or_gap c.args.rules.now (slice_index_or args 0 0) (slice_index_or args 1 0) (slice_index_or args 2 0) c.args.rule.now (search rules) (three_args args size last)
    (search rules) (search rules) (search rules)
