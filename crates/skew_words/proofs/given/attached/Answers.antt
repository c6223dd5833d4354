use Rattle.std.proofs.Common.{◌∙◌, ap, codes}
use Rattle.skew_words.specs.Words.{after}
use Rattle.skew_words.proofs.OperandLemmas.{stripped-after}
use Rattle.skew_words.proofs.given.attached.Goals as goal

pub returns : goal.returns
returns c =
    stripped-after (codes "--conflicts=") c.as_str.result.now c.strip_prefix.result c.strip_prefix.ensures.cases ∙ ap (after (codes "--conflicts=")) c.as_str.ensures.value
