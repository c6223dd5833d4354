use Rattle.std.proofs.Common.{◌≡◌, ◌∙◌, ◌<◌, ◌++◌, ◌∷◌, [], ap, length, arith, rules, pos}
use Rattle.std.specs.Fmt.{signed_decimal}
use Rattle.std.specs.Int.{w128}
use Rattle.std.proofs.lemmas.Int.{to_z-of_z}
use mir.Val.{SFits}
use Rattle.mt_model.specs.declared.limits.TheConstants.{MAX_TIME}
use Rattle.mt_model.specs.Log.{IsWithin}
use Rattle.report_text.proofs.ItemLists.{items-stopped, one-more}
use Rattle.report_text.proofs.LineTexts.{times-spelled}
use Rattle.report_text.proofs.Sections.{zero-time}
use Rattle.report_text.proofs.items.read_times.Goals as goal

pub returns-in_default : goal.returns-in_default
returns-in_default c =
    let more : length c.loop-rest.times < c.args.count = omega (arith, c.len.ensures.count, c.loop-rest-test.true) in
    items-stopped (IsWithin MAX_TIME) signed_decimal times-spelled
    (pos 0) zero-time c.args.count c.args.bytes.now c.loop-rest.times c.loop-rest.rest.now c.loop-rest.invariant more c.in_default.ensures

pub loop-rest-preserved : goal.loop-rest-preserved
loop-rest-preserved c =
    let more : length c.loop-rest.times < c.args.count = omega (arith, c.len.ensures.count, c.loop-rest-test.true) in
    let fits : SFits w128 c.in-Some.time = search (rules, c.in-Some.ensures.is) in
    let pushed : c.push.new.self ≡ c.loop-rest.times ++ c.in-Some.time ∷ [] = c.in_ok-push.ensures.ok ∙ ap (λ t. c.loop-rest.times ++ t ∷ []) (to_z-of_z w128 c.in-Some.time fits) in
    rw pushed
    (one-more
    (IsWithin MAX_TIME) signed_decimal times-spelled c.args.count c.args.bytes.now c.loop-rest.times c.loop-rest.rest.now c.in-Some.time
    c.in-Some.after.now c.loop-rest.invariant more c.in-Some.ensures)
