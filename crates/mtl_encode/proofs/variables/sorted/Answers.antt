use Rattle.std.proofs.lemmas.List.Sorted.{IsPermutation-append, IsPermutation-map}
use Rattle.mtl_encode.proofs.variables.sorted.Goals as goal

pub returns : goal.returns
returns c = IsPermutation-append _ _ _ _ (IsPermutation-map (λ r. r.var) c.args.ranking.orders.items c.sort_unstable.new.self.items c.sort_unstable.ensures.permutation)
    (IsPermutation-map (λ r. r.var) c.args.ranking.others.items c.sort.new.self.items c.sort.ensures.permutation)
