use Rattle.std.proofs.Common.{◌∙◌, ◌∷◌, inl, inr}
use Rattle.std.proofs.lemmas.Result.{err_from_is_err_and}
use Rattle.mt_model.specs.Form.{form_of}
use Rattle.skew_commands.specs.Reads.{NoThird}
use Rattle.skew_commands.specs.Stops.{NoAnswer}
use Rattle.skew_commands.proofs.Holding.{log-held}
use Rattle.skew_commands.proofs.Opening.{formula-passed}
use Rattle.skew_commands.proofs.Possible.{some-formula-faulty, some-formula-long, some-log_file-faulty, some-log_file-long}
use Rattle.skew_commands.proofs.Steps.{question-formula_faulty, question-log_faulty, question-log_long, reason-weaker}
use Rattle.skew_commands.proofs.formula_and_log.read_question.Goals as goal

pub returns-in_err-formula-clause-refused : goal.returns-in_err-formula-clause-refused
returns-in_err-formula-clause-refused g c = λ tells.
    let p = err_from_is_err_and c.from_residual-in_err-formula.result c.from_residual-in_err-formula.ensures.1 in
    let refused = rw c.deref.ensures.value at c.in_err-formula.ensures.refused in
    rw (p.1, p.2)
    (question-formula_faulty (g.S.Shelf.files c.args.shelf.now) c.args.formula.now c.args.log.now NoAnswer c.in_ok-text.text.items
    (c.in_ok-text.ensures.whole tells) c.in_ok-text.ensures.within c.in_err-formula.field-0.0 refused)

pub returns-in_err-file-clause-refused : goal.returns-in_err-file-clause-refused
returns-in_err-file-clause-refused g c = λ tells.
    let p = err_from_is_err_and c.from_residual-in_err-file.result c.from_residual-in_err-file.ensures.1 in
    let reads = rw c.deref.ensures.value at c.in_ok-formula.ensures.formula in
    rw (p.1, p.2)
    (question-log_long (g.S.Shelf.files c.args.shelf.now) c.args.formula.now c.args.log.now NoAnswer c.in_ok-text.text.items
    (c.in_ok-text.ensures.whole tells) c.in_ok-text.ensures.within (form_of c.in_ok-formula.formula) reads c.in_err-file.field-0.0
    (reason-weaker c.in_err-file.field-0.0 _ _ (λ r why. (why.0, rw c.in_ok-text.ensures.files at (why.1 (c.in_ok-text.ensures.telling ∙ tells)))) c.in_err-file.ensures.refused))

pub returns-in_err-log-clause-refused : goal.returns-in_err-log-clause-refused
returns-in_err-log-clause-refused g c = λ tells.
    let p = err_from_is_err_and c.from_residual-in_err-log.result c.from_residual-in_err-log.ensures.1 in
    let reads = rw c.deref.ensures.value at c.in_ok-formula.ensures.formula in
    let held = rw c.in_ok-text.ensures.files at (c.in_ok-file.ensures.whole (c.in_ok-text.ensures.telling ∙ tells)) in
    let refused = rw c.deref-2.ensures.value at c.in_err-log.ensures.refused in
    rw (p.1, p.2)
    (question-log_faulty (g.S.Shelf.files c.args.shelf.now) c.args.formula.now c.args.log.now NoAnswer c.in_ok-text.text.items
    (c.in_ok-text.ensures.whole tells) c.in_ok-text.ensures.within
    (form_of c.in_ok-formula.formula) reads c.in_ok-file.file.items c.in_err-log.field-0.0 held c.in_ok-file.ensures.within refused)

pub returns-clause-read : goal.returns-clause-read
returns-clause-read g c = λ tells.
    let reads = rw c.deref.ensures.value at c.in_ok-formula.ensures.formula in
    let held = rw c.in_ok-text.ensures.files at (c.in_ok-file.ensures.whole (c.in_ok-text.ensures.telling ∙ tells)) in
    let log = rw c.deref-2.ensures.value at c.in_ok-log.ensures.log in
    record {
      text_held = c.in_ok-text.ensures.whole tells;
      text_within = c.in_ok-text.ensures.within;
      formula_read = reads;
      file = c.in_ok-file.file.items;
      file_held = held;
      file_within = c.in_ok-file.ensures.within;
      log_read = log;
    }

pub returns-in_err-file-clause-never : goal.returns-in_err-file-clause-never
returns-in_err-file-clause-never g c = λ steady tells holds failed.
    let p = err_from_is_err_and c.from_residual-in_err-file.result c.from_residual-in_err-file.ensures.1 in
    let reads = rw c.deref.ensures.value at c.in_ok-formula.ensures.formula in
    let some =
    log-held (g.S.Shelf.files c.args.shelf.now) c.args.formula.now c.args.log.now NoThird c.in_ok-text.text.items (form_of c.in_ok-formula.formula)
    (c.in_ok-text.ensures.whole tells) c.in_ok-text.ensures.within reads holds in
    c.in_err-file.ensures.never (c.in_ok-text.ensures.steady steady) (c.in_ok-text.ensures.telling ∙ tells) (rw c.in_ok-text.ensures.files some) (cc)

pub returns-in_err-text-clause-some_refused : goal.returns-in_err-text-clause-some_refused
returns-in_err-text-clause-some_refused g c =
    let p = err_from_is_err_and c.from_residual.result c.from_residual.ensures.1 in
    rw (p.1, p.2) (some-formula-long c.in_err-text.field-0.0 c.in_err-text.ensures.too_long)

pub returns-in_err-formula-clause-some_refused : goal.returns-in_err-formula-clause-some_refused
returns-in_err-formula-clause-some_refused g c =
    let p = err_from_is_err_and c.from_residual-in_err-formula.result c.from_residual-in_err-formula.ensures.1 in
    let refused = rw c.deref.ensures.value at c.in_err-formula.ensures.refused in
    rw (p.1, p.2) (some-formula-faulty c.in_ok-text.text.items c.in_ok-text.ensures.within c.in_err-formula.field-0.0 refused)

pub returns-in_err-file-clause-some_refused : goal.returns-in_err-file-clause-some_refused
returns-in_err-file-clause-some_refused g c =
    let p = err_from_is_err_and c.from_residual-in_err-file.result c.from_residual-in_err-file.ensures.1 in
    let reads = rw c.deref.ensures.value at c.in_ok-formula.ensures.formula in
    rw (p.1, p.2) (some-log_file-long c.in_ok-text.text.items c.in_ok-text.ensures.within (form_of c.in_ok-formula.formula) reads c.in_err-file.field-0.0 c.in_err-file.ensures.too_long)

pub returns-in_err-log-clause-some_refused : goal.returns-in_err-log-clause-some_refused
returns-in_err-log-clause-some_refused g c =
    let p = err_from_is_err_and c.from_residual-in_err-log.result c.from_residual-in_err-log.ensures.1 in
    let reads = rw c.deref.ensures.value at c.in_ok-formula.ensures.formula in
    let refused = rw c.deref-2.ensures.value at c.in_err-log.ensures.refused in
    rw (p.1, p.2)
    (some-log_file-faulty c.in_ok-text.text.items c.in_ok-text.ensures.within
    (form_of c.in_ok-formula.formula) reads c.in_ok-file.file.items c.in_err-log.field-0.0 c.in_ok-file.ensures.within refused)

pub returns-clause-some_read : goal.returns-clause-some_read
returns-clause-some_read g c =
    let reads = rw c.deref.ensures.value at c.in_ok-formula.ensures.formula in
    let log = rw c.deref-2.ensures.value at c.in_ok-log.ensures.log in
    record {
      text_within = c.in_ok-text.ensures.within;
      formula_read = reads;
      file = c.in_ok-file.file.items;
      file_within = c.in_ok-file.ensures.within;
      log_read = log;
    }

pub returns-in_err-text-clause-in_turn : goal.returns-in_err-text-clause-in_turn
returns-in_err-text-clause-in_turn g c = λ _. inl (1, c.in_err-text.ensures.once)

pub returns-in_err-formula-clause-in_turn : goal.returns-in_err-formula-clause-in_turn
returns-in_err-formula-clause-in_turn g c = λ _. inl (1, c.in_ok-text.ensures.once)

pub returns-in_err-file-clause-in_turn : goal.returns-in_err-file-clause-in_turn
returns-in_err-file-clause-in_turn g c = λ tells.
    let reads = rw c.deref.ensures.value at c.in_ok-formula.ensures.formula in
    inr (formula-passed _ _ c.in_ok-text.text.items (form_of c.in_ok-formula.formula) (c.in_ok-text.ensures.whole tells) c.in_ok-text.ensures.within reads)

pub returns-in_err-log-clause-in_turn : goal.returns-in_err-log-clause-in_turn
returns-in_err-log-clause-in_turn g c = λ tells.
    let reads = rw c.deref.ensures.value at c.in_ok-formula.ensures.formula in
    inr (formula-passed _ _ c.in_ok-text.text.items (form_of c.in_ok-formula.formula) (c.in_ok-text.ensures.whole tells) c.in_ok-text.ensures.within reads)

pub returns-clause-in_turn : goal.returns-clause-in_turn
returns-clause-in_turn g c = λ tells.
    let reads = rw c.deref.ensures.value at c.in_ok-formula.ensures.formula in
    inr (formula-passed _ _ c.in_ok-text.text.items (form_of c.in_ok-formula.formula) (c.in_ok-text.ensures.whole tells) c.in_ok-text.ensures.within reads)

pub returns-clause-both : goal.returns-clause-both
returns-clause-both g c = λ past told. c.in_ok-file.ensures.once (c.args.formula.now ∷ past) (c.in_ok-text.ensures.once past told)

pub returns-in_err-text-clause-openings : goal.returns-in_err-text-clause-openings
returns-in_err-text-clause-openings g c = (1, c.in_err-text.ensures.once)

pub returns-in_err-formula-clause-openings : goal.returns-in_err-formula-clause-openings
returns-in_err-formula-clause-openings g c = (1, c.in_ok-text.ensures.once)

pub returns-in_err-file-clause-openings : goal.returns-in_err-file-clause-openings
returns-in_err-file-clause-openings g c = (2, λ past told. c.in_err-file.ensures.once (c.args.formula.now ∷ past) (c.in_ok-text.ensures.once past told))

pub returns-in_err-log-clause-openings : goal.returns-in_err-log-clause-openings
returns-in_err-log-clause-openings g c = (2, λ past told. c.in_ok-file.ensures.once (c.args.formula.now ∷ past) (c.in_ok-text.ensures.once past told))

pub returns-clause-openings : goal.returns-clause-openings
returns-clause-openings g c = (2, λ past told. c.in_ok-file.ensures.once (c.args.formula.now ∷ past) (c.in_ok-text.ensures.once past told))
