use Rattle.std.proofs.Common.{◌∙◌, sym, ap}
use Rattle.std.specs.Prelude.{bytes_eq}
use Rattle.skew_words.specs.Table.{row_of}
use Rattle.skew_words.proofs.TableLemmas.{find-next}
use Rattle.skew_words.proofs.table.Verb.named.Goals as goal

pub loop-verb-preserved : goal.loop-verb-preserved
loop-verb-preserved c =
    let fails = ap (λ w. bytes_eq w c.args.word.now) (sym c.row.ensures.word) ∙ sym c.eq.ensures ∙ c.if-eq.false in
    c.loop-verb.invariant ∙ find-next (λ v. bytes_eq (row_of v).word c.args.word.now) _ _ _ c.loop-verb-test.true fails
