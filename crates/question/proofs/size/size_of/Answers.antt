use Rattle.std.proofs.Common.{inr}
use Rattle.question.proofs.TightExtremes.{tight-consistent, tight-extremes}
use Rattle.question.specs.Extremes.{extremes_of}
use Rattle.question.proofs.size.size_of.Goals as goal

pub returns-in-Some : goal.returns-in-Some
returns-in-Some c =
    let log = c.args.log.now in
    let is = rw c.in-Some.is at c.requires.tight in
    record {
      size = inr (record {
        consistent = tight-consistent log c.in-Some.tight.now is c.log_is_valid.ensures.valid.some_rows;
        extremes = extremes_of c.in-Some.tight.now;
        are = tight-extremes log c.in-Some.tight.now is;
        size = rw (← is.events) c.nodes_size.ensures.size;
      });
    }
