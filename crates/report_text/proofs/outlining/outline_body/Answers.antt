use Rattle.std.proofs.Common.{◌∙◌, sym, ap, refl, arith, length, length-append, rules, subst}
use Rattle.std.specs.List.{flat_map}
use Rattle.std.proofs.lemmas.Result.{err_from_is_err_and}
use Rattle.proof_log.specs.Spelled.{IsNumber}
use Rattle.report_text.specs.declared.part.Opening.TheVariants as opening
use Rattle.report_text.specs.declared.report.Report.TheVariants as report
use Rattle.report_text.specs.ReportText.{bound_text}
use Rattle.report_text.specs.Parts.{IsFront, IsOpening, opening_text}
use Rattle.report_text.proofs.Stages.{body-none, body-stopped, walk-read, sections-outlined}
use Rattle.report_text.proofs.Unambiguous.{front-is}
use Rattle.report_text.proofs.outlining.outline_body.Goals as goal

pub returns-in_default : goal.returns-in_default
returns-in_default c =
    let number : IsNumber c.args.events = search rules in
    body-none c.args.events number c.args.bytes.now c.in_default.ensures

pub returns-in_err-after-in-Inconsistent : goal.returns-in_err-after-in-Inconsistent
returns-in_err-after-in-Inconsistent c =
    let p = err_from_is_err_and c.from_residual.result c.from_residual.ensures.1 in
    let number : IsNumber c.args.events = search rules in
    let rest = c.in-Some.rest.now in
    let count = c.in-Inconsistent.count in
    let front = subst (λ o. IsFront IsOpening opening_text c.args.bytes.now o rest) c.in-Inconsistent.is c.in-Some.ensures in
    rw (p.1, p.2) (body-stopped c.args.events number c.args.bytes.now rest (opening.Inconsistent count) c.in_err-after-in-Inconsistent.field-0.0 front c.in_err-after-in-Inconsistent.ensures)

pub returns-in-OnTrue : goal.returns-in-OnTrue
returns-in-OnTrue c =
    let number : IsNumber c.args.events = search rules in
    let rest = c.in-Some.rest.now in
    let front = subst (λ o. IsFront IsOpening opening_text c.args.bytes.now o rest) c.in-OnTrue.is c.in-Some.ensures in
    sections-outlined c.args.events number c.in-OnTrue.kind c.args.bytes.now rest c.outline_verdicts.result front c.outline_verdicts.ensures

pub before-text-requires : goal.before-text-requires
before-text-requires c = let p = c.in_ok-after-in-Inconsistent.ensures in omega (arith, ap length p.read.split, length-append (flat_map bound_text p.items) c.in_ok-after-in-Inconsistent.after.now)

pub returns-in_ok-after-in-Inconsistent : goal.returns-in_ok-after-in-Inconsistent
returns-in_ok-after-in-Inconsistent c =
    let number : IsNumber c.args.events = search rules in
    let rest = c.in-Some.rest.now in
    let after = c.in_ok-after-in-Inconsistent.after.now in
    let p = c.in_ok-after-in-Inconsistent.ensures in
    let text = sym (c.before-text.ensures ∙ front-is rest (flat_map bound_text p.items) after (length after) p.read.split refl) in
    let front = subst (λ o. IsFront IsOpening opening_text c.args.bytes.now o rest) c.in-Inconsistent.is c.in-Some.ensures in
    record {
      value = report.Inconsistent c.args.events p.items;
      outlined = record { steps = p.items; is = refl; full = p.read.full; are = text };
      front = walk-read c.args.events number c.in-Inconsistent.count p.items c.args.bytes.now rest after front p.read;
    }
