use Rattle.std.proofs.Common.{◌≡◌, ◌<◌, Err, length, subst, rules}
use Rattle.mt_model.specs.Form.{form_of}
use Rattle.formula_arena.specs.declared.fault.ArenaFault.TheVariants.{TooManyNodes}
use Rattle.formula_arena.specs.declared.arena.TheConstants.{MAX_NODES}
use Rattle.formula_arena.proofs.NodeCounts.{with_nodes-empty}
use Rattle.proof_check.proofs.checker.Checker.new.Goals as goal

pub returns-in_err-root-clause-too_many : goal.returns-in_err-root-clause-too_many
returns-in_err-root-clause-too_many c is =
    let fault : c.intern.result ≡ Err TooManyNodes = search rules in
    let more = c.intern.ensures.too_many fault in
    subst (λ trees. MAX_NODES < length trees) (with_nodes-empty c.new-arena.result (form_of c.args.f.now) c.new-arena.ensures.empty) more
