use Rattle.std.proofs.Common.{◌≡◌, subst, arith, ℤ, to_z, of_z}
use Rattle.std.specs.Int.{w128}
use Rattle.std.proofs.lemmas.Int.{ints}
use Rattle.best_answer.specs.Aims.{Spend}
use Rattle.verdict_span.specs.Spans.{distant}
use Rattle.verdict_span.proofs.turn.turned_by.Goals as goal

pub search_in-requires-clause-hosts : goal.search_in-requires-clause-hosts
search_in-requires-clause-hosts c = rw c.requires.spaced c.args.span.now.aim.hosts

-- the same distance, written in another way
pub returns-in-Spent : goal.returns-in-Spent
returns-in-Spent c =
    let s = c.args.span.now in
    let found = rw (c.in-Spent.is, c.requires.spaced) at c.in_ok-times.ensures.found in
    let from = c.requires.from in
    let to = c.requires.to in
    let low = c.requires.climb.near.low in
    let top = c.requires.climb.top in
    let same : c.args.there.now.c ≡ to_z w128 (of_z w128 c.args.there.now.c) = omega (arith, ints, from, to, low, top) in
    record { turned = subst (λ (x : ℤ). Spend s.aim (distant s x) c.in-Spent.lines) same found }
