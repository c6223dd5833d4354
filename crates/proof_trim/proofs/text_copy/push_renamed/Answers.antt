use Rattle.std.proofs.Common.{◌+◌, ◌-◌, length, arith}
use Rattle.std.specs.Prelude.{slice_index}
use Rattle.proof_trim.proofs.Renaming.{line-earlier, none-renamed, one-renamed}
use Rattle.proof_trim.proofs.text_copy.push_renamed.Goals as goal

pub loop-next-init : goal.loop-next-init
loop-next-init c = none-renamed (λ n. slice_index c.args.places.now (n - 1)) (length c.args.places.now + 1) c.args.words.now c.args.left.now.items c.requires.earlier c.requires.spaced

pub loop-next-preserved : goal.loop-next-preserved
loop-next-preserved c =
    let next = c.in-Some.next in
    one-renamed (λ n. slice_index c.args.places.now (n - 1))
    (length c.args.places.now + 1) c.args.words.now c.args.left.now.items c.loop-next.left.items c.loop-next.rest.now c.loop-next.invariant next.before.now
    next.line next.after.now c.in-Some.ensures
    c.extend_from_slice.new.self.items c.push_number.new.left.items c.in_ok-extend_from_slice.ensures.items c.in_ok-push_number.ensures

pub loop-next-smaller : goal.loop-next-smaller
loop-next-smaller c = c.in-Some.ensures.shorter

pub bounds-places-next : goal.bounds-places-next
bounds-places-next c =
    let next = c.in-Some.next in
    let is =
    line-earlier (λ n. slice_index c.args.places.now (n - 1))
    (length c.args.places.now + 1) c.args.words.now c.args.left.now.items c.loop-next.left.items c.loop-next.rest.now c.loop-next.invariant next.before.now
    next.line next.after.now c.in-Some.ensures in
    omega (arith, is.0, is.1)
