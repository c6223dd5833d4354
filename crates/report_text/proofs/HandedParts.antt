-- A bound that is handed out from its text, and a line that is passed over.
use Rattle.std.proofs.Common.{◌≡◌, ◌∙◌, sym, ℕ, List, ◌++◌, Option, Some, None, Result, Ok, Err, Bor}
use Rattle.std.specs.Prelude.{IfOk, MatchOption}
use Rattle.mt_model.specs.declared.step.Step.{Step}
use Rattle.mt_model.specs.Texts.{step_text}
use Rattle.proof_log.specs.declared.line.Line.{Line}
use Rattle.proof_log.specs.LinesOf.{BeginsWithLine, IsFrontLine}
use Rattle.proof_log.specs.LinesText.{line_text}
use Rattle.proof_log.specs.Spelled.{IsSpelled as IsSpelledLine}
use Rattle.report_text.specs.Parts.{IsFront, NoFront}
use Rattle.report_text.specs.ReportText.{bound_text}
use Rattle.report_text.specs.Spelled.{IsSpelledBound}
use Rattle.report_text.proofs.LineTexts.{bounds-spelled}
use Rattle.report_text.proofs.Lined.{same-front}

-- the bound that is read is the one whose text comes first
pub bound-handed : (bytes : List ℕ) (found : Option (Step × Bor (List ℕ))) → MatchOption found (NoFront IsSpelledBound bound_text bytes) (λ r. IsFront IsSpelledBound bound_text bytes r.0 r.1.now)
    → (s : Step) (after : List ℕ) → IsSpelledBound s → bytes ≡ bound_text s ++ after → MatchOption found ⊥ (λ r. (r.0 ≡ s) × (r.1.now ≡ after))
bound-handed bytes None none s after is text = none s after is text
bound-handed bytes (Some r) front s after is text = same-front IsSpelledBound step_text bounds-spelled r.0 s r.1.now after front.is is (sym front.split ∙ text)

-- what follows a line, in the words of this crate
pub line-passed : {E : Type 0} (bytes : List ℕ) (r : Result (Option (Bor (List ℕ))) E) → IfOk r (λ o. MatchOption o (BeginsWithLine bytes → ⊥) (λ rest. (l : Line) × IsFrontLine bytes l rest.now))
    → IfOk r (λ o. MatchOption o (NoFront IsSpelledLine line_text bytes) (λ rest. (l : Line) × IsFront IsSpelledLine line_text bytes l rest.now))
line-passed bytes (Ok None) none = λ l rest is split. none (record { line = l; spelled = is; after = rest; text = split })
line-passed bytes (Ok (Some rest)) front = (front.0, record { is = front.1.spelled; split = front.1.split })
line-passed bytes (Err e) front = tt
