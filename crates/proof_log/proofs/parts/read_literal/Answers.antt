use Rattle.proof_log.specs.LinesText.{literal_words}
use Rattle.proof_log.specs.Reading.{literal_in, words_after}
use Rattle.proof_log.specs.Spelled.{IsSpelledLiteral}
use Rattle.proof_log.proofs.HandedWords.{handed}
use Rattle.proof_log.proofs.WrittenItems.{literal-written}
use Rattle.proof_log.proofs.parts.read_literal.Goals as goal

pub returns : goal.returns
returns c = record { literal = handed literal_in literal_words IsSpelledLiteral literal-written (words_after c.args.words.now) c.next_literal.result c.next_literal.ensures }
