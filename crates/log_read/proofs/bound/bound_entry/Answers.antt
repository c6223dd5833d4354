use Rattle.std.proofs.Common.{◌∙◌, sym}
use Rattle.log_read.proofs.Begun.{bound-clear}
use Rattle.log_read.proofs.bound.bound_entry.Goals as goal

pub returns : goal.returns
returns c =
    let is = sym c.bound_of.ensures.bound ∙ c.in-Some.is in
    let apart = sym c.eq.ensures ∙ c.if-eq.false in
    record { entry = (bound-clear c.args.columns.place c.args.bounds.now c.in-Some.bound c.args.columns.host.now c.args.columns.time.now c.args.columns.name.now is apart c.if-bounds-ge-MAX_WRITTEN_EXTRAS.false, is) }
