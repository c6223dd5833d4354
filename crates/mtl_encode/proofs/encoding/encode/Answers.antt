use Rattle.mtl_encode.proofs.EncodeLemmas.{exact-of, kept-of}
use Rattle.mtl_encode.proofs.encoding.encode.Goals as goal

pub problem_of-requires-clause-small : goal.problem_of-requires-clause-small
problem_of-requires-clause-small c = rw c.in_ok-sought-in-Timing.ensures.rules c.requires.size

-- bounds in conflict exclude every timing
pub unreachable-requires : goal.unreachable-requires
unreachable-requires c =
    let conflict = rw c.in-Conflict.is at c.in_ok-times.ensures.answer in
    c.conflict_excludes_timings.ensures c.args.log.now c.in-Conflict.field-0 c.requires.consistent.timing conflict.bounds conflict.conflict c.requires.consistent.admissible

pub returns-clause-kept : goal.returns-clause-kept
returns-clause-kept c = λ f nodes last.
    let is = c.in_ok-sought-in-Timing.ensures.formula f nodes last in
    kept-of c.args.log.now f c.args.value c.in_ok-tight-in-Timing.tight c.in_ok-problem-in-Timing.problem c.log_is_valid.ensures.valid c.in_ok-tight-in-Timing.ensures.exact
    (rw is at c.in_ok-problem-in-Timing.ensures.lists)

pub returns-clause-exact : goal.returns-clause-exact
returns-clause-exact c = λ f nodes last.
    let is = c.in_ok-sought-in-Timing.ensures.formula f nodes last in
    exact-of c.args.log.now f c.args.value c.in_ok-tight-in-Timing.tight c.in_ok-problem-in-Timing.problem c.log_is_valid.ensures.valid c.in_ok-tight-in-Timing.ensures.exact
    (rw is at c.in_ok-problem-in-Timing.ensures.lists) c.rules_are_exact.ensures c.bounds_are_admissible.ensures (rw is at c.in_ok-problem-in-Timing.ensures.fits) c.len-in-Timing.ensures.once
