use Rattle.std.proofs.Common.{◌++◌}
use Rattle.proof_check.proofs.AtomLemmas.{sorted_behind}
use Rattle.proof_check.proofs.atoms.merge.Goals as goal

pub returns-clause-moved : goal.returns-clause-moved
returns-clause-moved c =
    sorted_behind c.move_all-moved.result (c.args.sorted.now.items ++ c.args.recent.now.keys) c.move_all-moved.new.atoms.items
    c.move_all-moved.new.set.keys c.sort_unstable.new.self.items
    c.move_all-moved.ensures c.sort_unstable.ensures.permutation
