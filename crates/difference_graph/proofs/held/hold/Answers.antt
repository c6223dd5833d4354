use Rattle.std.proofs.Common.{◌≡◌, ◌∙◌, ◌+◌, rules, ap, get_or, length}
use Rattle.std.proofs.lemmas.List.{length_push}
use Rattle.std.proofs.lemmas.Grind.{get_or_default_zero}
use Rattle.difference_graph.proofs.IncomingLemmas.{incoming_push}
use Rattle.difference_graph.proofs.held.hold.Goals as goal

pub returns-clause-incoming : goal.returns-clause-incoming
returns-clause-incoming c =
    let i = c.requires.incoming in
    let pushed = ap length c.push_within.ensures.items ∙ length_push c.args.held.now.before.items c.index.result.now in
    let read : c.index.result.now ≡ get_or c.args.held.now.last.items c.args.edge.to 0 =
    c.index.ensures ∙ get_or_default_zero c.args.held.now.last.items c.args.edge.to c.index.result.now c.requires.end in
    let count : c.len.result ≡ length c.args.held.now.edges.items + 1 = search (rules, c.len.ensures, pushed, i.count) in
    rw (c.push_within-2.ensures.items, c.push_within.ensures.items, read)
    (incoming_push c.args.held.now.edges.items c.args.edge c.args.held.now.last.items c.args.held.now.before.items i c.requires.end
    c.len.result count)
