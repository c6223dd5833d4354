use Rattle.skew_bounds.proofs.Near.{times-near}
use Rattle.least_skew.specs.Least.{wide}
use Rattle.least_skew.proofs.ValidWidenings.{wide-valid}
use Rattle.least_skew.proofs.reach.admitted_from.Goals as goal

pub needed-requires : goal.needed-requires
needed-requires c = c.requires.admissible.count

pub admits-requires : goal.admits-requires
admits-requires c = rw c.in_ok-narrow.ensures.wide (record {
  count = c.requires.admissible.count;
  range = times-near (wide c.args.s c.args.log.now) (wide-valid c.args.log.now c.args.s c.log_is_valid.ensures.valid c.requires.skews c.requires.range) c.args.times.now c.requires.admissible;
})
