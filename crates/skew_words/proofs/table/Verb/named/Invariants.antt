use Rattle.std.proofs.Common.{◌≡◌, drop}
use Rattle.std.specs.Prelude.{bytes_eq}
use Rattle.std.specs.List.{find}
use Rattle.skew_words.specs.Table.{row_of, verb_named}
use Rattle.skew_words.proofs.table.Verb.named.Given as goal

abbrev pub invariant-loop-verb : goal.invariant-loop-verb
invariant-loop-verb l = verb_named l.word ≡ find (λ v. bytes_eq (row_of v).word l.word) (drop l.verb-index l.verb-items)
