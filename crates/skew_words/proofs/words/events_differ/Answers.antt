use Rattle.std.proofs.Common.{◌≡◌, true}
use Rattle.skew_words.specs.Called.{words_in}
use Rattle.skew_words.specs.Table.{are_operands, row_of}
use Rattle.skew_words.specs.declared.table.Verb.TheVariants as verb
use Rattle.skew_words.proofs.CommandLemmas.{command-some, span-decided}
use Rattle.skew_words.proofs.words.events_differ.Goals as goal

pub returns-in-Span : goal.returns-in-Span
returns-in-Span c = λ n.
    let fits : are_operands (row_of verb.Span).operands (words_in c.args.words.now) ≡ true = rw c.in-Span.is at c.requires in
    rw (c.in-Span.is, c.is_some.ensures, c.two_events.ensures.events, c.word.ensures.word, c.word-in-Span.ensures.word) (span-decided n (words_in c.args.words.now) fits)

pub returns-in_default : goal.returns-in_default
returns-in_default c = λ n. command-some c.args.verb n (words_in c.args.words.now) c.requires c.in_default.not-Span
