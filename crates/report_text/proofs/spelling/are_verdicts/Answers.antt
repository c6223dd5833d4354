use Rattle.std.proofs.Common.{rules}
use Rattle.proof_log.specs.Spelled.{IsNumber}
use Rattle.report_text.proofs.Spellings.{by-second}
use Rattle.report_text.proofs.spelling.are_verdicts.Goals as goal

pub returns-then-first : goal.returns-then-first
returns-then-first c =
    let few : IsNumber c.args.events = search rules in
    by-second c.args.events c.args.on_true.now c.args.on_false.now c.is_section-then-first.result few (c.in_ok-first.ensures.0 c.if-first.true) c.is_section-then-first.ensures
