use Rattle.std.proofs.Common.{◌≡◌, take, true}
use Rattle.std.specs.Prelude.{All}
use Rattle.mt_model.specs.Name.{is_name}
use Rattle.mt_model.proofs.reading.are_named.Given as goal

abbrev pub invariant-loop-name : goal.invariant-loop-name
invariant-loop-name l = All (λ n. is_name n ≡ true) (take l.name-index l.names)
