use Rattle.std.specs.Prelude.{string_bytes}
use Rattle.skew_words.proofs.OperandLemmas.{GivenUpTo}
use Rattle.skew_words.proofs.given.split_at_option.Given as goal

abbrev pub invariant-loop-i : goal.invariant-loop-i
invariant-loop-i l = GivenUpTo string_bytes l.words l.i
