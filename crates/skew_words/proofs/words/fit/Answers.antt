use Rattle.std.proofs.Common.{◌∙◌, sym}
use Rattle.skew_words.specs.Called.{words_in}
use Rattle.skew_words.proofs.TableLemmas.{fits-count}
use Rattle.skew_words.proofs.words.fit.Goals as goal

pub returns-then-count-operands : goal.returns-then-count-operands
returns-then-count-operands c =
    sym (fits-count c.args.operands.now (words_in c.args.words.now) (λ same. c.if-count-operands.true (c.count.ensures.count ∙ sym same)))
