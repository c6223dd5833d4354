use Rattle.std.proofs.Common.{◌∙◌, sym, ap}
use Rattle.std.specs.Prelude.{map}
use Rattle.std.proofs.lemmas.List.{take_rest}
use Rattle.mtl_parse.specs.FormulaOf.{begins_with_empty_interval, tokens_in}
use Rattle.mtl_parse.specs.States.{placed_in}
use Rattle.mtl_parse.proofs.Intervals.{no-interval}
use Rattle.mtl_parse.proofs.tokens.first_empty_interval.Goals as goal

pub loop-i-preserved : goal.loop-i-preserved
loop-i-preserved c =
    no-interval c.args.tokens.now c.loop-i.i c.loop-i-test.true
    (ap (λ xs. begins_with_empty_interval (tokens_in (map placed_in xs))) (sym (take_rest c.args.tokens.now c.loop-i.i))
    ∙ sym c.begins_with_empty_interval.ensures ∙ c.if-begins_with_empty_interval.false)
    ∙ c.loop-i.invariant
