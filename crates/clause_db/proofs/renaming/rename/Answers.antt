use Rattle.std.proofs.Common.{false, get_or, arith}
use Rattle.std.proofs.lemmas.List.{get_or_default}
use Rattle.std.proofs.lemmas.List.Edits.{map_over_more}
use Rattle.clause_db.specs.declared.lit.Lit.{Lit}
use Rattle.clause_db.specs.Renaming.{moved}
use Rattle.clause_db.proofs.renaming.rename.Goals as goal

pub loop-lit-preserved : goal.loop-lit-preserved
loop-lit-preserved c =
    let none : Lit = record { var = 0; positive = false } in
    let lit = get_or c.loop-lit.lits c.loop-lit.lit-index none in
    rw c.renamed_lit.ensures.literal
    (map_over_more (moved c.args.places.now) c.args.lits.now c.loop-lit.lits c.loop-lit.lit-index lit c.loop-lit-test.true c.loop-lit.invariant
    (get_or_default c.loop-lit.lits c.loop-lit.lit-index none lit (omega (arith, c.loop-lit-test.true, c.loop-lit.auto.lits))))
