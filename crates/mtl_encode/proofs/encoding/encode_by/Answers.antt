-- What is sought is sought of the question's formula, the nodes being its.
use Rattle.mtl_encode.proofs.EncodeLemmas.{exact-of, kept-of}
use Rattle.mtl_encode.proofs.encoding.encode_by.Goals as goal

pub problem_of-requires-clause-small : goal.problem_of-requires-clause-small
problem_of-requires-clause-small c =
    let nodes = rw c.nodes-nodes.ensures.form at c.arena-2.ensures.nodes in
    let last = rw c.nodes-nodes.ensures.form at c.root.ensures.last in
    let is = rw c.log-2.ensures.log at (c.in_ok-sought.ensures.formula c.args.question.form nodes (rw nodes last)) in
    rw is c.requires.small

pub returns-clause-fits : goal.returns-clause-fits
returns-clause-fits c =
    let nodes = rw c.nodes-nodes.ensures.form at c.arena-2.ensures.nodes in
    let last = rw c.nodes-nodes.ensures.form at c.root.ensures.last in
    let is = rw c.log-2.ensures.log at (c.in_ok-sought.ensures.formula c.args.question.form nodes (rw nodes last)) in
    rw is at c.in_ok-problem.ensures.fits

pub returns-clause-kept : goal.returns-clause-kept
returns-clause-kept c =
    let nodes = rw c.nodes-nodes.ensures.form at c.arena-2.ensures.nodes in
    let last = rw c.nodes-nodes.ensures.form at c.root.ensures.last in
    let is = rw c.log-2.ensures.log at (c.in_ok-sought.ensures.formula c.args.question.form nodes (rw nodes last)) in
    kept-of c.args.question.log c.args.question.form c.args.value c.args.tight.now c.in_ok-problem.problem (rw c.log.ensures.log at c.log_is_valid.ensures.valid) c.requires.tight
    (rw is at c.in_ok-problem.ensures.lists)

pub returns-clause-exact : goal.returns-clause-exact
returns-clause-exact c =
    let nodes = rw c.nodes-nodes.ensures.form at c.arena-2.ensures.nodes in
    let last = rw c.nodes-nodes.ensures.form at c.root.ensures.last in
    let is = rw c.log-2.ensures.log at (c.in_ok-sought.ensures.formula c.args.question.form nodes (rw nodes last)) in
    exact-of c.args.question.log c.args.question.form c.args.value c.args.tight.now c.in_ok-problem.problem (rw c.log.ensures.log at c.log_is_valid.ensures.valid) c.requires.tight
    (rw is at c.in_ok-problem.ensures.lists) c.rules_are_exact.ensures c.bounds_are_admissible.ensures (rw is at c.in_ok-problem.ensures.fits) c.len.ensures.once
