use Rattle.std.proofs.Common.{◌∙◌, arith}
use Rattle.std.proofs.lemmas.Grind.{common_steps}
use Rattle.mt_port.proofs.Pieces.{took_more}
use Rattle.mt_port.proofs.whole.write_all.Goals as goal

pub loop-done-preserved : goal.loop-done-preserved
loop-done-preserved g c =
    let inv = c.loop-done.invariant in
    record {
      within = grind (arith, common_steps, c.in_ok-taken.ensures.count);
      taken = λ told. took_more _ _ _ c.args.bytes.now c.loop-done.done c.in_ok-taken.taken (c.in_ok-taken.ensures.taken (inv.telling ∙ told)) (inv.taken told);
      telling = c.write.ensures.telling ∙ inv.telling;
      quiet = c.in_ok-taken.ensures.cause.quiet ∙ inv.quiet;
    }
