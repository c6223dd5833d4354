use Rattle.std.specs.Prelude.{string_bytes}
use Rattle.skew_words.proofs.OperandLemmas.{ReadUpTo}
use Rattle.skew_words.proofs.operands.Operands.among.Given as goal

abbrev pub invariant-loop-i : goal.invariant-loop-i
invariant-loop-i l = ReadUpTo string_bytes l.words l.i
