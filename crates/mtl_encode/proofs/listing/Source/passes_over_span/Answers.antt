use Rattle.std.proofs.Common.{◌∙◌, sym}
use Rattle.mtl_encode.proofs.SpanRules.{spanless, three-nothing}
use Rattle.mtl_encode.specs.Instances.{out_by}
use Rattle.question.specs.Extremes.{extremes_of}
use Rattle.mtl_encode.proofs.listing.Source.passes_over_span.Goals as goal

pub returns-then-is_needless_over_span : goal.returns-then-is_needless_over_span
returns-then-is_needless_over_span c = λ told counts.
    let s = c.args.self.rules.now in
    let d = c.args.self.tight.now in
    three-nothing s (out_by d s) c.args.number counts c.args.k c.args.i c.args.j
    (λ m. spanless (extremes_of d) s c.args.k c.args.i c.args.j (sym c.needs_no_span.ensures ∙ told) c.args.number m
    (sym c.is_needless_over_span.ensures ∙ c.if-is_needless_over_span.true))
