use Rattle.std.proofs.Common.{◌∙◌, ap}
use Rattle.std.specs.Prelude.{find}
use Rattle.mt_model.specs.Bounds.{breaks}
use Rattle.skew_bounds.proofs.FirstBroken.{admissible-none, excluded-some}
use Rattle.skew_bounds.proofs.broken.first_broken.Goals as goal

pub returns-clause-admissible : goal.returns-clause-admissible
returns-clause-admissible c = admissible-none c.unbroken_is_admissible.ensures c.args.log.now c.log_is_valid.ensures.valid c.args.times.now c.requires.count c.first_broken_among.result
    (c.first_broken_among.ensures ∙ ap (find (breaks c.args.log.now c.args.times.now)) c.requires.bounds)

pub returns-clause-excluded : goal.returns-clause-excluded
returns-clause-excluded c = excluded-some c.unbroken_is_admissible.ensures c.args.log.now c.log_is_valid.ensures.valid c.args.times.now c.requires.count c.first_broken_among.result
    (c.first_broken_among.ensures ∙ ap (find (breaks c.args.log.now c.args.times.now)) c.requires.bounds)
