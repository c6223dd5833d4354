use Rattle.proof_log.specs.LinesText.{hint_words}
use Rattle.proof_log.specs.Reading.{hint_in, words_after}
use Rattle.proof_log.specs.Spelled.{IsSpelledHint}
use Rattle.proof_log.proofs.HandedWords.{handed}
use Rattle.proof_log.proofs.WrittenItems.{hint-written}
use Rattle.proof_log.proofs.parts.read_hint.Goals as goal

pub returns : goal.returns
returns c = record { hint = handed hint_in hint_words IsSpelledHint hint-written (words_after c.args.words.now) c.next_hint.result c.next_hint.ensures }
