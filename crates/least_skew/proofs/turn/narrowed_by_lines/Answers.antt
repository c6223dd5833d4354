use Rattle.std.proofs.Common.{arith}
use Rattle.least_skew.proofs.Narrowing.{narrowed-above}
use Rattle.least_skew.proofs.turn.narrowed_by_lines.Goals as goal

pub refuted_up_to-requires-clause-few : goal.refuted_up_to-requires-clause-few
refuted_up_to-requires-clause-few c =
    let few = c.requires.refuted.few in
    let most = c.args.aim.now.most in
    rw c.as_slice.ensures.items (omega (arith, few, most))

pub refuted_up_to-requires-clause-refutes : goal.refuted_up_to-requires-clause-refutes
refuted_up_to-requires-clause-refutes c = rw c.as_slice.ensures.items c.requires.refuted.refutes

pub returns : goal.returns
returns c =
    let a = c.args.aim.now in
    let refutes = rw c.as_slice.ensures.items at c.in_ok-r.ensures.refutes in
    let found = rw c.requires.wide at c.requires.refuted in
    let from = c.in_ok-r.ensures.from in
    let to = c.in_ok-r.ensures.to in
    let start = c.requires.from in
    let below = c.requires.below in
    let low = c.above.ensures.low in
    let high = c.above.ensures.high in
    record {
      turned = λ max within bracket. (
        c.above.ensures.bracket a max bracket (narrowed-above a.log.now a.nodes.now a.value c.args.there.now.s c.in_ok-r.r a.budget c.args.lines found refutes),
        rw (low, high) (omega (arith, from, to, start, below)),
      );
    }
