use Rattle.std.proofs.Common.{◌∙◌, ap, sym, length, take, arith}
use Rattle.std.proofs.lemmas.List.{length-take}
use Rattle.mtl_encode.proofs.AtomGrowth.{Keeps, atoms-more, keeps-atom, longer-atoms, read-more}
use Rattle.mtl_encode.proofs.clauses.write_lits.Goals as goal

pub lit_of-requires : goal.lit_of-requires
lit_of-requires c =
    let longer = longer-atoms (take c.loop-place.place c.args.clause.now) c.args.atoms.now in
    let atoms = ap length c.loop-place.invariant.atoms in
    omega (arith, longer, atoms, c.requires, c.loop-place-test.true, length-take c.loop-place.place c.args.clause.now)

pub loop-place-preserved : goal.loop-place-preserved
loop-place-preserved c =
    let keeps : Keeps c.loop-place.atoms c.lit_of.new.atoms = rw c.in_ok-lit.ensures.atoms (keeps-atom c.loop-place.atoms _) in
    record {
      atoms = (rw c.loop-place.invariant.atoms at c.in_ok-lit.ensures.atoms) ∙ sym (atoms-more c.args.atoms.now c.args.clause.now c.loop-place.place _ c.loop-place-test.true);
      read =
          rw c.in_ok-push.ensures.items
          (read-more c.loop-place.atoms c.lit_of.new.atoms
          (c.loop-place.lits).items c.args.clause.now c.loop-place.place _ c.in_ok-lit.lit keeps c.loop-place-test.true c.loop-place.invariant.read c.in_ok-lit.ensures.lit);
    }
