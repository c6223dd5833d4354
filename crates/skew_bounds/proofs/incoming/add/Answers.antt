use Rattle.std.proofs.Common.{[], refl}
use Rattle.std.proofs.lemmas.List.{get_or-map, map-set}
use Rattle.skew_bounds.proofs.incoming.add.Goals as goal

pub returns : goal.returns
returns c =
    let lists = c.args.lists.now in
    rw (get_or-map (λ l. l.items) lists c.args.edge.to c.index-lists-edge.result [] c.requires, map-set (λ l. l.items) lists c.args.edge.to c.push.new.self, c.in_ok-push.ensures.items) refl
