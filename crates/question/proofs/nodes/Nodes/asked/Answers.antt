use Rattle.std.proofs.Common.{◌≡◌, ◌<◌, None, Err, length, subst, rules}
use Rattle.std.proofs.lemmas.Result.{err_from_is_err_and}
use Rattle.mt_model.specs.Form.{form_of}
use Rattle.mt_model.specs.State.{unknown_host}
use Rattle.formula_arena.specs.declared.arena.TheConstants.{MAX_NODES}
use Rattle.formula_arena.specs.declared.fault.ArenaFault.TheVariants.{TooManyNodes}
use Rattle.formula_arena.proofs.NodeCounts.{with_nodes-empty}
use Rattle.question.proofs.NotAsked.{of_arena}
use Rattle.question.proofs.nodes.Nodes.asked.Goals as goal

pub returns-in_err-root-clause-fault : goal.returns-in_err-root-clause-fault
returns-in_err-root-clause-fault c =
    let p = err_from_is_err_and c.from_residual.result c.from_residual.ensures.1 in
    let hosts : unknown_host c.args.log.now (form_of c.args.formula.now) ≡ None = search rules in
    let many =
    λ (fault : c.intern.result ≡ Err TooManyNodes). subst (λ trees. MAX_NODES < length trees)
    (with_nodes-empty c.new-arena.result (form_of c.args.formula.now) c.new-arena.ensures.empty) (c.intern.ensures.too_many fault) in
    let was : c.intern.result ≡ Err c.in_err-root.field-0.0 = search rules in
    rw p.1 (of_arena c.args.log.now (form_of c.args.formula.now) c.intern.result c.in_err-root.field-0.0 p.0 was hosts many p.2)
