use Rattle.std.proofs.Common.{◌∙◌, ◌-◌, length, length-append, take, drop, ap, arith}
use Rattle.proof_log.proofs.FirstWords.{rest-shorter, words-rest}
use Rattle.proof_log.proofs.HandedWords.{words-spaced}
use Rattle.proof_log.proofs.word.next_word.Goals as goal

pub returns-in-len1-up : goal.returns-in-len1-up
returns-in-len1-up c =
    let words = c.args.words.now in
    let some = c.in-len1-up.len_at_least in
    let rest = take (length words - 1) (drop 1 words) in
    let cut = c.cut_word.ensures in
    let word = c.cut_word.result.0.now in
    let after = c.cut_word.result.1.now in
    record {
      word = words-rest words some ∙ cut.words;
      shorter = omega (arith, ap length cut.bytes, length-append word after, rest-shorter words some);
      bytes = λ text. words-spaced rest word after cut.words cut.bytes;
    }
