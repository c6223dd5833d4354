use Rattle.mt_model.specs.Form.{form_of}
use Rattle.skew_commands.proofs.Steps.{unknown-below}
use Rattle.skew_commands.proofs.files.known_hosts.Goals as goal

pub unreachable-requires : goal.unreachable-requires
unreachable-requires c =
    let below = unknown-below c.args.log.now (form_of c.args.formula.now) c.in-Some.number c.in-Some.ensures.number in
    cc ((c.in-None.ensures.found (form_of c.args.formula.now) c.requires.reads).1 below)
