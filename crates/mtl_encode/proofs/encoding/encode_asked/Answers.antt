-- What is sought is sought of the question's formula, the nodes being its.
use Rattle.mtl_encode.proofs.encoding.encode_asked.Goals as goal

pub returns-clause-fits : goal.returns-clause-fits
returns-clause-fits c =
    let nodes = rw c.nodes-nodes.ensures.form at c.arena.ensures.nodes in
    let last = rw c.nodes-nodes.ensures.form at c.root.ensures.last in
    let is = rw c.log-2.ensures.log at (c.in_ok-rules.ensures.formula c.args.question.form nodes (rw nodes last)) in
    rw is at c.joined.ensures.fits
