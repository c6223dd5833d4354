use Rattle.std.proofs.Common.{sym}
use Rattle.axiom_rules.proofs.IndexLemmas.{with-there}
use Rattle.mtl_encode.proofs.clauses.var_of.Goals as goal

-- an atom that has a variable isn't added
pub returns-then-is_var_of-clause-atoms : goal.returns-then-is_var_of-clause-atoms
returns-then-is_var_of-clause-atoms c = sym (with-there c.args.atoms.now c.args.guess c.args.atom (c.is_var_of.ensures c.if-is_var_of.true))
