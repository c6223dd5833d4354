use Rattle.std.proofs.Common.{arith}
use Rattle.std.proofs.lemmas.Result.{IfOk-from_err}
use Rattle.mtl_encode.proofs.EncodeLemmas.{all-listed, few-atoms, few-listed, lists-of, room-first, room-of}
use Rattle.mtl_encode.specs.Instances.{instances, out_by}
use Rattle.mtl_encode.proofs.encoding.problem_of.Goals as goal

-- there is room for all rules that are kept
pub add_all-requires-clause-room : goal.add_all-requires-clause-room
add_all-requires-clause-room c =
    let s = c.args.sought.now in
    let valid = rw c.log.ensures.log at c.log_is_valid.ensures.valid in
    room-first s c.new-clauses.result.rules (instances s (out_by c.args.tight.now s)) c.new-clauses.ensures.rules
    (room-of c.cores_are_cores.ensures.equality s c.args.tight.now valid c.requires.arena c.requires.tight c.requires.small)

pub in_order-requires-clause-few : goal.in_order-requires-clause-few
in_order-requires-clause-few c =
    let s = c.args.sought.now in
    let valid = rw c.log.ensures.log at c.log_is_valid.ensures.valid in
    few-atoms s (out_by c.args.tight.now s) c.new-clauses.result c.add_all.new.self c.new-clauses.ensures.rules c.in_ok-add_all.ensures
    (room-of c.cores_are_cores.ensures.equality s c.args.tight.now valid c.requires.arena c.requires.tight c.requires.small)

pub joined-requires-clause-few_rules : goal.joined-requires-clause-few_rules
joined-requires-clause-few_rules c =
    let s = c.args.sought.now in
    let valid = rw c.log.ensures.log at c.log_is_valid.ensures.valid in
    few-listed s (out_by c.args.tight.now s) c.in_ok-ordered.ordered.rules
    (all-listed s (out_by c.args.tight.now s) c.new-clauses.result c.add_all.new.self c.in_ok-ordered.ordered.rules c.new-clauses.ensures.rules c.in_ok-add_all.ensures c.in_ok-ordered.ensures.rules)
    (room-of c.cores_are_cores.ensures.equality s c.args.tight.now valid c.requires.arena c.requires.tight c.requires.small)

pub joined-requires-clause-few_atoms : goal.joined-requires-clause-few_atoms
joined-requires-clause-few_atoms c =
    let s = c.args.sought.now in
    let valid = rw c.log.ensures.log at c.log_is_valid.ensures.valid in
    omega (
      arith,
      c.in_ok-ordered.ensures.atoms,
      few-atoms s (out_by c.args.tight.now s) c.new-clauses.result c.add_all.new.self c.new-clauses.ensures.rules c.in_ok-add_all.ensures
          (room-of c.cores_are_cores.ensures.equality s c.args.tight.now valid c.requires.arena c.requires.tight c.requires.small),
    )

pub returns-clause-lists : goal.returns-clause-lists
returns-clause-lists c =
    let s = c.args.sought.now in
    rw c.joined.ensures.rules (lists-of s (out_by c.args.tight.now) c.in_ok-ordered.ordered.rules
    (all-listed s (out_by c.args.tight.now s) c.new-clauses.result c.add_all.new.self c.in_ok-ordered.ordered.rules c.new-clauses.ensures.rules c.in_ok-add_all.ensures c.in_ok-ordered.ensures.rules))

pub returns-in_err-ordered-clause-fits : goal.returns-in_err-ordered-clause-fits
returns-in_err-ordered-clause-fits c = IfOk-from_err _ _ c.from_residual-in_err-ordered.ensures.0

pub returns-in_err-ordered-clause-lists : goal.returns-in_err-ordered-clause-lists
returns-in_err-ordered-clause-lists c = IfOk-from_err _ _ c.from_residual-in_err-ordered.ensures.0
