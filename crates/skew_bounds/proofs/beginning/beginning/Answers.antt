use Rattle.std.proofs.Common.{◌≡◌, ◌<◌, sym, subst, rules, arith, length, ℤ, pos, ◌+ℤ◌, ◌-ℤ◌}
use Rattle.std.specs.Int.{w128}
use Rattle.std.proofs.lemmas.Int.{ints, to_z-of_z}
use Rattle.std.proofs.lemmas.Result.{IfOk-weaker}
use Rattle.mt_model.specs.Log.{IsWithin}
use Rattle.mt_model.specs.declared.limits.TheConstants.{MAX_TIME}
use Rattle.skew_bounds.specs.Beginning.{IsBeginning, IsMoved}
use Rattle.skew_bounds.specs.Incoming.{lists_of}
use Rattle.neg_cycle.specs.Systems.{number_of}
use Rattle.skew_bounds.specs.declared.latest.TheConstants.{UNREACHED}
use Rattle.skew_bounds.specs.declared.column.TheConstants.{FAR}
use Rattle.skew_bounds.proofs.Beginnings.{begun, by-zero, unreached}
use Rattle.skew_bounds.proofs.EdgeLists.{list-at, lists-count}
use Rattle.skew_bounds.proofs.beginning.beginning.Goals as goal
use mir.Val.{SFits, of_z, to_z}

same : (x : ℤ) → IsWithin MAX_TIME x → to_z w128 (of_z w128 x) ≡ x
same x near = let fits : SFits w128 x = search rules in to_z-of_z w128 x fits

node-near : (x : ℤ) → IsWithin MAX_TIME x → IsWithin MAX_TIME (to_z w128 (of_z w128 x))
node-near x near = subst (IsWithin MAX_TIME) (sym (same x near)) near

same-raise : (x : ℤ) → IsWithin (UNREACHED +ℤ FAR) x → to_z w128 (of_z w128 x) ≡ x
same-raise x near = let fits : SFits w128 x = search rules in to_z-of_z w128 x fits

pub beyond-requires : goal.beyond-requires
beyond-requires c =
    let incoming = c.args.incoming.now in
    record { number = node-near _ (c.requires.potential.near c.args.node (pos 0) (omega (arith, c.requires.node, c.requires.potential.solution.count, lists-count incoming))) }

pub moved-requires-in_default-clause-numbers : goal.moved-requires-in_default-clause-numbers
moved-requires-in_default-clause-numbers c =
    λ k d below. let near = c.requires.potential.near k d below in record { low = omega (arith, ints, near.low); high = omega (arith, ints, near.high) }

pub returns-in-Some-Some : goal.returns-in-Some-Some
returns-in-Some-Some c =
    let incoming = lists_of c.args.incoming.now in
    let node = c.args.node in
    let count = lists-count c.args.incoming.now in
    let within : node < length incoming = omega (arith, count, c.requires.node) in
    let zero = c.in-Some-Some.zero.now in
    let bound = c.in-Some-Some.bound in
    let list = list-at c.args.incoming.now node c.index-incoming-node.result c.requires.node c.index-incoming-node.is in
    let known = rw c.in-Some-Some.is-0 at c.requires.zero in
    let found = c.in-Some-Some.ensures in
    let leads = rw (c.as_slice-edges.ensures.value, ← list) at found.bound in
    let same-bound = same-raise bound (record { low = omega (arith, ints, found.near.low); high = omega (arith, ints, found.near.high) }) in
    let moved = rw same-bound at c.moved.ensures in
    IfOk-weaker c.moved.result (λ numbers. IsMoved zero bound node numbers.items) (λ numbers. IsBeginning incoming node numbers.items)
    (λ numbers is. begun incoming c.args.potential.now node c.requires.network c.requires.potential within zero bound
    (by-zero incoming c.args.potential.now node c.requires.network c.requires.potential within zero bound known leads found.near) numbers.items is) moved

pub returns-in_default : goal.returns-in_default
returns-in_default c =
    let incoming = lists_of c.args.incoming.now in
    let node = c.args.node in
    let potential = c.args.potential.now in
    let count = lists-count c.args.incoming.now in
    let within : node < length incoming = omega (arith, count, c.requires.node) in
    let own-near = c.requires.potential.near node (pos 0) (omega (arith, within, c.requires.potential.solution.count)) in
    let raise = rw (same _ own-near) at c.beyond.ensures.raise in
    let moved = rw (same-raise c.beyond.result c.beyond.ensures.small, raise) at c.moved-in_default.ensures in
    IfOk-weaker c.moved-in_default.result (λ numbers. IsMoved potential (UNREACHED -ℤ number_of potential node) node numbers.items) (λ numbers. IsBeginning incoming node numbers.items)
    (λ numbers is. begun incoming potential node c.requires.network c.requires.potential within potential (UNREACHED -ℤ number_of potential node)
    (unreached incoming potential node c.requires.network c.requires.potential within) numbers.items is) moved
