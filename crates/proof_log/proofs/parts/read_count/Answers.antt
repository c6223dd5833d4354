use Rattle.std.proofs.Common.{ℕ}
use Rattle.proof_log.specs.Reading.{number_in, words_after}
use Rattle.proof_log.specs.Spelled.{IsNumber}
use Rattle.proof_log.proofs.HandedWords.{handed}
use Rattle.proof_log.proofs.ReadItems.{one_word}
use Rattle.proof_log.proofs.WrittenItems.{number-written}
use Rattle.proof_log.proofs.parts.read_count.Goals as goal

pub returns-in-Some : goal.returns-in-Some
returns-in-Some c = record {
  number = λ n after is text.
      let read = handed {X = ℕ} number_in one_word IsNumber number-written (words_after c.args.words.now) c.next_number.result c.next_number.ensures n after is text in
      rw c.in-Some.is at read;
}

pub returns-in-None : goal.returns-in-None
returns-in-None c = record {
  number = λ n after is text.
      let read = handed {X = ℕ} number_in one_word IsNumber number-written (words_after c.args.words.now) c.next_number.result c.next_number.ensures n after is text in
      absurd (rw c.in-None.is at read);
}
