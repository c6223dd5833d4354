use Rattle.mt_model.specs.Texts.{step_text}
use Rattle.report_text.specs.Spelled.{IsSpelledBound}
use Rattle.report_text.proofs.LineTexts.{bounds-spelled}
use Rattle.report_text.proofs.Lined.{unspelled}
use Rattle.report_text.proofs.front.next_bound.Goals as goal

pub returns-in_err-step : goal.returns-in_err-step
returns-in_err-step c =
    rw c.from_residual-in_err-step.ensures (unspelled IsSpelledBound step_text bounds-spelled c.args.bytes.now c.in_ok-line.line.now c.in_ok-line.rest.now c.in_ok-line.ensures c.in_err-step.ensures)
