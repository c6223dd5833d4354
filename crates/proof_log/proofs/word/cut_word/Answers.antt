use Rattle.proof_log.proofs.FirstWords.{word-bytes, word-split}
use Rattle.proof_log.proofs.word.cut_word.Goals as goal

pub returns : goal.returns
returns c =
    let words = c.args.words.now in
    let end = c.word_end-end.result in
    let at = c.word_end-end.ensures in
    record { words = word-split words end at.within at.none at.here; bytes = word-bytes words end }
