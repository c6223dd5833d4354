use Rattle.std.proofs.Common.{◌≡◌, ◌<◌, Err, length, refl, subst, rules}
use Rattle.mt_model.specs.Form.{form_of}
use Rattle.formula_arena.specs.declared.arena.TheConstants.{MAX_NODES}
use Rattle.formula_arena.specs.declared.fault.ArenaFault.TheVariants.{TooManyNodes}
use Rattle.formula_arena.proofs.NodeCounts.{with_nodes-empty}
use Rattle.skew_commands.proofs.files.few_nodes.Goals as goal

pub returns-in-Err-TooManyNodes-clause-refused : goal.returns-in-Err-TooManyNodes-clause-refused
returns-in-Err-TooManyNodes-clause-refused c =
    let fault : c.intern.result ≡ Err TooManyNodes = search rules in
    (refl, subst (λ trees. MAX_NODES < length trees) (with_nodes-empty c.new-arena.result (form_of c.args.formula.now) c.new-arena.ensures.empty) (c.intern.ensures.too_many fault))
