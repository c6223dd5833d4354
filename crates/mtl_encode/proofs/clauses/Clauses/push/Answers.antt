use Rattle.std.proofs.Common.{Ok, Err, arith}
use Rattle.std.specs.Prelude.{OnOk, Result}
use Rattle.mtl_encode.proofs.AtomGrowth.{longer-atoms, vars-once}
use Rattle.mtl_encode.proofs.ClauseGrowth.{gains-one}
use Rattle.mtl_encode.proofs.clauses.Clauses.push.Goals as goal

on-ok : {T E : Type 0} (r : Result T E) (A B : Type 0) → (A → B) → OnOk r A → OnOk r B
on-ok (Ok x) A B f a = f a
on-ok (Err e) A B f a = tt

pub write_lits-requires : goal.write_lits-requires
write_lits-requires c = omega (arith, c.requires.atoms)

pub add-requires-clause-room : goal.add-requires-clause-room
add-requires-clause-room c = omega (arith, c.requires.clauses.count, c.requires.rules)

pub add-requires-clause-once : goal.add-requires-clause-once
add-requires-clause-once c =
    rw c.deref.ensures.value
    (vars-once c.write_lits.new.atoms (c.write_lits.new.lits).items c.args.clause.now c.in_ok-write_lits.ensures.lits
    (c.clauses_have_atoms_once.ensures c.args.rules.now c.args.rule c.args.clause.now c.requires.clause))

pub returns-clause-gains : goal.returns-clause-gains
returns-clause-gains c =
    on-ok c.push.result _ _
    (λ rules. gains-one c.args.rules.now c.args.self.now
    (record { db = c.add.new.self; rules = c.push.new.self; atoms = c.write_lits.new.atoms }) c.args.rule c.args.clause.now (c.write_lits.new.lits).items
    c.requires.clauses c.requires.clause c.in_ok-write_lits.ensures.atoms c.in_ok-write_lits.ensures.lits (rw c.deref.ensures.value at c.in_ok-add.ensures.ok) rules) c.push.ensures.ok

pub returns-clause-atoms : goal.returns-clause-atoms
returns-clause-atoms c = on-ok c.push.result _ _ (λ rules. rw c.in_ok-write_lits.ensures.atoms (longer-atoms c.args.clause.now c.args.self.now.atoms)) c.push.ensures.ok
