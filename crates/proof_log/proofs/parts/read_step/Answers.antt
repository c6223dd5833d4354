use Rattle.proof_log.specs.LinesText.{step_words}
use Rattle.proof_log.specs.Reading.{step_in, words_after}
use Rattle.proof_log.specs.Spelled.{IsSpelledStep}
use Rattle.proof_log.proofs.HandedWords.{handed}
use Rattle.proof_log.proofs.WrittenItems.{step-written}
use Rattle.proof_log.proofs.parts.read_step.Goals as goal

pub returns : goal.returns
returns c = record { step = handed step_in step_words IsSpelledStep step-written (words_after c.args.words.now) c.next_step.result c.next_step.ensures }
