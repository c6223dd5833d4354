use Rattle.std.proofs.lemmas.Result.{err_from_is_err_and}
use Rattle.report_text.proofs.Stages.{events-none, events-stopped, last-none, marked-read}
use Rattle.report_text.proofs.outlining.outline_marked.Goals as goal

pub returns-in_default : goal.returns-in_default
returns-in_default c = events-none c.args.bytes.now c.in_default.ensures

pub returns-in_err-outline : goal.returns-in_err-outline
returns-in_err-outline c =
    let p = err_from_is_err_and c.from_residual.result c.from_residual.ensures.1 in
    rw (p.1, p.2) (events-stopped c.args.bytes.now c.in-Some.rest.now c.in-Some.events c.in_err-outline.field-0.0 c.in-Some.ensures c.in_err-outline.ensures)

pub returns-in_default-after_words : goal.returns-in_default-after_words
returns-in_default-after_words c =
    last-none c.args.bytes.now c.in-Some.rest.now c.in_ok-outline.rest.now c.in-Some.events c.in_ok-outline.ensures.value c.in-Some.ensures
    c.in_ok-outline.ensures.front c.in_default-after_words.ensures

pub returns : goal.returns
returns c =
    let o = c.in_ok-outline.ensures in
    record {
      value = o.value;
      outlined = o.outlined;
      front = marked-read c.args.bytes.now c.in-Some.rest.now c.in_ok-outline.rest.now c.in-Some-after_words.after.now c.in-Some.events o.value c.in-Some.ensures o.front c.in-Some-after_words.ensures;
    }
