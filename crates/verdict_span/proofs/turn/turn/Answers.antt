use Rattle.std.proofs.Common.{arith}
use Rattle.std.proofs.lemmas.Int.{ints}
use Rattle.verdict_span.proofs.turn.turn.Goals as goal

pub turned_by-requires-clause-spaced : goal.turned_by-requires-clause-spaced
turned_by-requires-clause-spaced c = rw c.in_ok-there.ensures.by c.in_ok-there.ensures.spaced

pub turned_by-requires-clause-small : goal.turned_by-requires-clause-small
turned_by-requires-clause-small c = rw c.in_ok-there.ensures.spaced (c.requires.small _)

pub turned_by-requires-clause-from : goal.turned_by-requires-clause-from
turned_by-requires-clause-from c =
    let by = c.in_ok-there.ensures.by in
    let some = c.next.ensures.from in
    let most = c.next.ensures.to in
    let low = c.requires.climb.near.low in
    let top = c.requires.climb.top in
    omega (arith, ints, by, some, most, low, top)

pub turned_by-requires-clause-to : goal.turned_by-requires-clause-to
turned_by-requires-clause-to c =
    let by = c.in_ok-there.ensures.by in
    let some = c.next.ensures.from in
    let most = c.next.ensures.to in
    let low = c.requires.climb.near.low in
    let top = c.requires.climb.top in
    omega (arith, ints, by, some, most, low, top)
