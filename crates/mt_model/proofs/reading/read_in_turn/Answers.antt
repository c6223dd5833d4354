use Rattle.std.proofs.Common.{arith}
use Rattle.mt_model.proofs.ReadingTurns.{read-none, turn-again, turn-all, turn-late, turn-next}
use Rattle.mt_model.proofs.reading.read_in_turn.Goals.{else-clock-next, then-clock-next}
use Rattle.mt_model.proofs.reading.read_in_turn.Goals as goal

pub loop-reading-init : goal.loop-reading-init
loop-reading-init c = read-none

pub returns-then-next-clock : goal.returns-then-next-clock
returns-then-next-clock c =
    turn-late c.args.readings.now c.loop-reading.reading-index c.reading-item.result c.loop-reading-test.true c.reading-item.is
    c.loop-reading.next c.loop-reading.invariant (omega (arith, c.if-next-clock.true, c.get-clock.ensures.number))

pub loop-reading-preserved : goal.loop-reading-preserved
loop-reading-preserved c = elim c.if-clock-next.branch [
  | then-clock-next w ↦
      rw w.next-is
      (turn-next c.args.readings.now c.loop-reading.reading-index c.reading-item.result c.loop-reading-test.true c.reading-item.is
      c.loop-reading.next c.loop-reading.invariant (omega (arith, w.if-clock-next.true, c.get-clock.ensures.number)))
  | else-clock-next w ↦
      rw w.next-is
      (turn-again c.args.readings.now c.loop-reading.reading-index c.reading-item.result c.loop-reading-test.true c.reading-item.is
      c.loop-reading.next c.loop-reading.invariant (omega (arith, w.if-clock-next.false, c.if-next-clock.false, c.get-clock.ensures.number)))
]

pub returns : goal.returns
returns c = turn-all c.args.readings.now c.loop-reading.reading-index c.loop-reading.next c.loop-reading-test.false c.loop-reading.invariant
