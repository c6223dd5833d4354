use Rattle.proof_check.specs.Places.{blank}
use Rattle.std.proofs.Common.{refl}
use Rattle.proof_check.proofs.OnceLemmas.{packed_more, packed_past}
use Rattle.proof_check.proofs.places.keep_marked.Goals as goal
use Rattle.proof_check.proofs.places.keep_marked.Goals.{then-is_kept, else-is_kept}

pub loop-i-preserved : goal.loop-i-preserved
loop-i-preserved c = elim c.if-is_kept.branch [
  | then-is_kept w ↦ rw (w.literals-is, w.end-is, w.copy_within.ensures)
      (packed_more c.args.literals.now.items c.args.start c.args.marks.now c.loop-i.i c.loop-i.end c.loop-i.literals.items _ blank c.loop-i-test.true c.requires
      c.loop-i.invariant w.if-is_kept.true _ refl)
  | else-is_kept w ↦ rw (w.literals-is, w.end-is)
      (packed_past c.args.literals.now.items c.args.start c.args.marks.now c.loop-i.i c.loop-i.end c.loop-i.literals.items _ blank c.loop-i-test.true c.requires c.loop-i.invariant w.if-is_kept.false)
]
