use Rattle.std.proofs.Common.{rules, arith, length}
use Rattle.mt_port.specs.Calls.{TellsTaken}
use Rattle.mt_port.specs.declared.outside.TheConstants.{TRIES}
use Rattle.mt_port.proofs.BrokenOff.{given_up}
use Rattle.mt_port.proofs.outside.write_next.Goals as goal

pub returns-clause-answer : goal.returns-clause-answer
returns-clause-answer g c =
    let l = c.loop-broken_off in
    given_up (λ a answer b. g.W.Outlet.writes a c.args.piece.now answer b) TRIES (TellsTaken (length c.args.piece.now)) l.broken_off _ l.writer _ (omega arith) (search rules) (search rules) l.invariant.broken (search rules)
