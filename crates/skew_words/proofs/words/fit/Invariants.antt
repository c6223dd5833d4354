use Rattle.skew_words.specs.Called.{words_in}
use Rattle.skew_words.proofs.TableLemmas.{FitsFrom}
use Rattle.skew_words.proofs.words.fit.Given as goal

abbrev pub invariant-loop-place : goal.invariant-loop-place
invariant-loop-place l = FitsFrom l.operands (words_in l.words) l.place
