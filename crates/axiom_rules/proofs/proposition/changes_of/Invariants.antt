use Rattle.std.proofs.Common.{◌≡◌}
use Rattle.std.specs.List.{filter_map, range_with_len}
use Rattle.mt_model.specs.State.{change_at}
use Rattle.axiom_rules.proofs.proposition.changes_of.Given as goal

abbrev pub invariant-loop-e : goal.invariant-loop-e
invariant-loop-e l = l.list ≡ filter_map (change_at l.log l.host l.name) (range_with_len 0 l.e)
