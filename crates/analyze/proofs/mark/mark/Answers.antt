use Rattle.std.proofs.Common.{take, get_or, false}
use Rattle.std.proofs.lemmas.List.{take_more}
use Rattle.clause_db.specs.declared.lit.Lit.{Lit}
use Rattle.analyze.proofs.Marked.{marked_more}
use Rattle.analyze.proofs.mark.mark.Goals as goal

abbrev no_lit : Lit
no_lit = record { var = 0; positive = false }

pub put-requires-clause-assigned : goal.put-requires-clause-assigned
put-requires-clause-assigned c = rw c.var.ensures.variable (c.requires.assigned c.loop-lit.lit-index no_lit c.loop-lit-test.true)

pub loop-lit-preserved : goal.loop-lit-preserved
loop-lit-preserved c =
    let i = c.loop-lit.lit-index in
    let clause = c.args.clause.now in
    rw (take_more clause i no_lit c.loop-lit-test.true)
    (marked_more c.args.trail.now c.args.before (take i clause)
    (get_or clause i no_lit) c.args.marked.now.keys c.loop-lit.marked.keys c.put.new.marked.keys c.loop-lit.invariant
    (rw c.var.ensures.variable at c.in_ok-put.ensures.put))
