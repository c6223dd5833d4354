-- The text of lines is theirs alone.
use Rattle.std.proofs.Common.{◌≡◌, sym, refl, List, append_assoc, Ok}
use Rattle.std.specs.Prelude.{Result}
use Rattle.mt_model.specs.declared.step.Step.TheVariants as step
use Rattle.proof_log.specs.declared.fault.LineFault.{LineFault}
use Rattle.proof_log.specs.declared.line.Line.{Line}
use Rattle.proof_log.specs.Laws.{StepsReadAlike, TextsReadBack, TextsTellApart}
use Rattle.proof_log.specs.LinesText.{lines_text}
use Rattle.proof_log.proofs.ReadingLines.{one-reading}

pub read-back : TextsReadBack
read-back lines spelled = record { spelled = spelled; text = refl }

ok_same : (xs ys : List Line) → (let r : Result (List Line) LineFault = Ok xs in r) ≡ Ok ys → xs ≡ ys
ok_same xs ys same = cc

pub tell-apart : TextsTellApart
tell-apart xs ys spelled_xs spelled_ys same =
    ok_same xs ys (one-reading (lines_text ys) (Ok xs) (Ok ys) (record { spelled = spelled_xs; text = sym same }) (record { spelled = spelled_ys; text = refl }))

pub read-alike : StepsReadAlike
read-alike (step.Low e) = refl
read-alike (step.High e) = refl
read-alike (step.Rise e) = refl
read-alike (step.Message e) = refl
read-alike (step.Late e) = refl
read-alike (step.Under e) = refl
read-alike (step.Over e) = refl
read-alike (step.Extra k) = refl
read-alike (step.Order e f c) = simp append_assoc
