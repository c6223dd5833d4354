use Rattle.std.proofs.Common.{◌≡◌, ◌∙◌, refl, ap, length, Option, Some, None, ℤ, pos, rules, arith}
use Rattle.std.specs.Int.{w128}
use Rattle.std.specs.Option.{option_map_or, unwrap_or}
use Rattle.std.proofs.lemmas.Int.{to_z-of_z}
use mir.Val.{SFits}
use Rattle.mt_model.specs.Clocks.{greatest_below}
use Rattle.skew_bounds.proofs.offsets.offset.Goals as goal

unwrapped : (o : Option ℤ) → unwrap_or o (pos 0) ≡ option_map_or (λ x. x) o (pos 0)
unwrapped None = refl
unwrapped (Some x) = refl

pub returns : goal.returns
returns c =
    let log = c.args.log.now in
    let fits : SFits w128 c.unwrap_or.result = search (rules, c.unwrap_or.type_inv) in
    let read = to_z-of_z w128 c.unwrap_or.result fits in
    let end : c.loop-e.e ≡ length log.rows = let most = c.loop-e-test.false in let all = ap length c.rows-e-end.ensures.same in omega (arith, most, all, c.loop-e.auto.e-end) in
    let greatest = c.loop-e.invariant ∙ ap (greatest_below log c.args.times.now c.args.k) end in
    read ∙ c.unwrap_or.ensures ∙ ap (λ o. unwrap_or o (pos 0)) greatest ∙ unwrapped (greatest_below log c.args.times.now c.args.k (length log.rows))
