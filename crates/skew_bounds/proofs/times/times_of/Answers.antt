use Rattle.std.proofs.Common.{◌≡◌, All, drop, take, rules, ◌+◌, ◌-◌, ◌-ℤ◌, arith}
use Rattle.mt_model.specs.Log.{IsWithin}
use Rattle.mt_model.specs.declared.limits.TheConstants.{MAX_TIME}
use Rattle.neg_cycle.specs.Systems.{number_of}
use Rattle.skew_bounds.proofs.Near.{all-of-mapped}
use Rattle.skew_bounds.proofs.times.times_of.Goals as goal

pub relative-requires : goal.relative-requires
relative-requires c =
    let numbers = c.args.numbers.now in
    let near : All (λ x. IsWithin MAX_TIME (x -ℤ number_of numbers 0)) (take c.args.rows (drop 1 numbers)) =
    all-of-mapped (IsWithin MAX_TIME) (λ x. x -ℤ number_of numbers 0) (take c.args.rows (drop 1 numbers)) c.requires.near in
    let count : c.args.rows + 1 - 1 ≡ c.args.rows = omega arith in
    rw count (search (rules, near))
