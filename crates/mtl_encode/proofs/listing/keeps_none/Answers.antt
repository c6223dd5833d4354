use Rattle.std.proofs.Common.{◌∙◌, sym}
use Rattle.mtl_encode.proofs.ReachRules.{one-nothing}
use Rattle.mtl_encode.proofs.SpanRules.{one-left-out, throughout}
use Rattle.mtl_encode.specs.Instances.{out_by}
use Rattle.question.specs.Extremes.{extremes_of}
use Rattle.mtl_encode.proofs.listing.keeps_none.Goals as goal

pub returns-then-passes_over : goal.returns-then-passes_over
returns-then-passes_over c = λ told d counts.
    one-nothing c.args.rules.now (out_by d c.args.rules.now) c.args.a (c.passes_over.ensures.no_reach c.if-passes_over.true) c.args.number counts (c.passes_over.ensures.of_reach c.if-passes_over.true)

pub returns-else-passes_over : goal.returns-else-passes_over
returns-else-passes_over c = λ told d counts.
    one-left-out c.args.rules.now (out_by d c.args.rules.now) c.args.number counts c.args.a
    (λ i j m. throughout (extremes_of d) c.args.rules.now c.args.number c.args.a i j m (sym c.is_needless_throughout.ensures ∙ told))
