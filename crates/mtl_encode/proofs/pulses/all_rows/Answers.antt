use Rattle.std.proofs.Common.{◌≡◌, ◌∙◌, ◌++◌, [], ◌∷◌, ap, sym, ℕ, length, arith}
use Rattle.std.specs.List.{range_with_len}
use Rattle.mtl_encode.proofs.Rankings.{range-next}
use Rattle.mtl_encode.proofs.pulses.all_rows.Goals as goal

pub loop-e-preserved : goal.loop-e-preserved
loop-e-preserved c = c.in_ok-push.ensures.items ∙ ap (λ rows. rows ++ c.loop-e.e ∷ []) c.loop-e.invariant ∙ sym (range-next c.loop-e.e)

pub returns : goal.returns
returns c =
    let end : c.loop-e.e ≡ length c.args.rules.now.log.rows = omega (arith, c.loop-e-test.false, c.loop-e.auto.e-end, c.events-e-end.ensures.events) in
    c.loop-e.invariant ∙ ap (λ (n : ℕ). range_with_len 0 n) end
