use Rattle.std.proofs.Common.{inr, ◌∙◌, ap, sym, Some, ◌≡◌, ◌++◌, ◌∷◌, [], rules}
use Rattle.std.specs.Str.Lines.{lines}
use mir.Syntax.{w128}
use mir.Val.{SFits}
use Rattle.std.proofs.Math.Facts.{to_z-of_z}
use Rattle.std.proofs.lemmas.List.Elements.{All-push}
use Rattle.mt_model.specs.Log.{IsWithin}
use Rattle.mt_model.specs.declared.limits.TheConstants.{MAX_TIME}
use Rattle.times_read.specs.TimesOf.{time_in}
use Rattle.times_read.proofs.Reading.{bad-is, read-more}
use Rattle.times_read.proofs.reader.read_times.Goals as goal

pub returns-in_default-time-clause-answer : goal.returns-in_default-time-clause-answer
returns-in_default-time-clause-answer c =
    let none = sym c.time.ensures.value ∙ c.in_default-time.is in
    inr
    (bad-is (lines c.args.bytes.now) (lines c.loop-number.rest.now)
    (lines c.in-Some.after.now) c.in-Some.line.now c.args.count c.loop-number.number c.loop-number.times c.loop-number.invariant.0 c.loop-number-test.true c.in-Some.ensures none)

pub loop-number-preserved : goal.loop-number-preserved
loop-number-preserved c =
    let read : time_in c.in-Some.line.now ≡ Some c.in-Some-time.time = sym c.time.ensures.value ∙ c.in-Some-time.is in
    let fits : SFits w128 c.in-Some-time.time = search rules in
    let pushed : c.push.new.self ≡ c.loop-number.times ++ c.in-Some-time.time ∷ [] = c.in_ok-push.ensures.ok ∙ ap (λ t. c.loop-number.times ++ t ∷ []) (to_z-of_z fits) in
    rw pushed (
      read-more (lines c.args.bytes.now) (lines c.loop-number.rest.now)
          (lines c.in-Some.after.now) c.in-Some.line.now c.loop-number.number c.loop-number.times c.in-Some-time.time c.loop-number.invariant.0 c.in-Some.ensures read,
      All-push (IsWithin MAX_TIME) c.loop-number.times c.in-Some-time.time c.loop-number.invariant.1 c.in-Some-time.ensures.range,
    )
