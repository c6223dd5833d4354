use Rattle.std.proofs.Common.{◌∷◌, ◌++◌}
use Rattle.proof_check.proofs.AtomLemmas.{added_behind}
use Rattle.proof_check.proofs.ThoseLemmas.{those_moved}
use Rattle.proof_check.proofs.atoms.Atoms.add.Goals as goal

pub returns-in_ok-merge : goal.returns-in_ok-merge
returns-in_ok-merge c =
    let sorted = c.self.inside.sorted.items in
    let added = added_behind sorted c.self.inside.recent.keys c.args.self.now c.add_recent.new.recent.keys c.args.atom c.self.view_is c.in_ok-add_recent.ensures in
    record { added = those_moved (c.args.atom ∷ c.args.self.now) (sorted ++ c.add_recent.new.recent.keys) (c.merge.new.sorted.items ++ c.merge.new.recent.keys) added c.in_ok-merge.ensures.moved }

pub returns-else-are_many : goal.returns-else-are_many
returns-else-are_many c = record {
  added = added_behind c.self.inside.sorted.items c.self.inside.recent.keys c.args.self.now c.add_recent.new.recent.keys c.args.atom c.self.view_is c.in_ok-add_recent.ensures;
}
