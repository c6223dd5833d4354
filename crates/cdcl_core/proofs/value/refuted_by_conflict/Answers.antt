use Rattle.std.proofs.Common.{◌≡◌, [], ◌∷◌, rules}
use Rattle.proof_log.specs.declared.line.Line.TheVariants as line
use Rattle.cdcl_core.proofs.ValueCases.{conflict_refutes}
use Rattle.cdcl_core.proofs.value.refuted_by_conflict.Goals as goal

pub returns-clause-refuted : goal.returns-clause-refuted
returns-clause-refuted c =
    let is : c.push.new.self ≡ line.Cycle c.args.steps ∷ [] = search rules in
    rw is (conflict_refutes c.args.log.now c.log_is_valid.ensures.valid c.args.steps c.requires.conflict)
