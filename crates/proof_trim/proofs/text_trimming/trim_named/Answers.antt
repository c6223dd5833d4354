use Rattle.std.proofs.Common.{◌≡◌, ◌≤◌, subst, length, rules}
use Rattle.proof_trim.specs.Needed.{IsFirstForward}
use Rattle.proof_trim.proofs.TrimmedLines.{can-trim, none-ended}
use Rattle.proof_trim.proofs.text_trimming.trim_named.Goals as goal

pub returns-then-is_empty-clause-empty : goal.returns-then-is_empty-clause-empty
returns-then-is_empty-clause-empty c = λ told lines are.
    let none : length c.args.ends.now ≡ 0 = search rules in
    none-ended lines c.args.numbers.now c.args.ends.now are none

pub returns-in-Some-clause-hint : goal.returns-in-Some-clause-hint
returns-in-Some-clause-hint c = λ n told lines are.
    let same : c.in-Some.line ≡ n = cc told in
    subst (IsFirstForward lines) same (rw c.in-Some.is at c.first_forward_in.ensures.first lines are)

pub returns-in_ok-left_text-in-None-clause-trimmed : goal.returns-in_ok-left_text-in-None-clause-trimmed
returns-in_ok-left_text-in-None-clause-trimmed c = λ lines is are.
    c.in_ok-left_text-in-None.ensures.trimmed lines is are (rw c.in-None.is at c.first_forward_in.ensures.first lines are)

pub returns-in_ok-left_text-in-None-clause-can : goal.returns-in_ok-left_text-in-None-clause-can
returns-in_ok-left_text-in-None-clause-can c = λ lines are.
    let some : 1 ≤ length c.args.ends.now = search rules in
    can-trim lines c.args.numbers.now c.args.ends.now are some (rw c.in-None.is at c.first_forward_in.ensures.first lines are)
