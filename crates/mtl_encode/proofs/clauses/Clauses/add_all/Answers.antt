use Rattle.std.proofs.Common.{◌≡◌, ℕ, subst, arith}
use Rattle.std.specs.List.{flat_map, range_with_len}
use Rattle.mtl_encode.proofs.ClauseGrowth.{gains-next, room-next}
use Rattle.mtl_encode.specs.Growth.{Gains}
use Rattle.mtl_encode.specs.Instances.{of_number, out_by}
use Rattle.mtl_encode.proofs.clauses.Clauses.add_all.Goals as goal

pub add_number-requires-clause-room : goal.add_number-requires-clause-room
add_number-requires-clause-room c =
    room-next c.args.rules.now
    (of_number c.args.rules.now (out_by c.args.tight.now c.args.rules.now)) c.args.self.now c.loop-number.self c.loop-number.number c.loop-number.invariant 29 c.loop-number-test.true c.requires.room

pub loop-number-preserved : goal.loop-number-preserved
loop-number-preserved c =
    gains-next c.args.rules.now
    (of_number c.args.rules.now (out_by c.args.tight.now c.args.rules.now)) c.args.self.now c.loop-number.self c.loop-number.number c.loop-number.invariant
    c.add_number.new.self c.in_ok-add_number.ensures

pub returns : goal.returns
returns c =
    let end : c.loop-number.number ≡ 29 = omega (arith, c.loop-number-test.false, c.loop-number.auto.number-end) in
    subst
    (λ (n : ℕ). Gains c.args.rules.now c.args.self.now c.loop-number.self (flat_map (of_number c.args.rules.now (out_by c.args.tight.now c.args.rules.now)) (range_with_len 0 n)))
    end c.loop-number.invariant
