use Rattle.std.proofs.Common.{◌≡◌, sym, subst, Ok}
use Rattle.std.proofs.lemmas.Result.{IfOk-weaker}
use Rattle.mt_model.specs.Form.{form_of}
use Rattle.mtl_parse.specs.FormulaOf.{FormulaOf}
use Rattle.mtl_parse.specs.FormulaText.{formula_text}
use Rattle.mtl_parse.proofs.PrintedFormulas.{texts-read-back}
use Rattle.mtl_parse.proofs.printer.print_formula.Goals as goal

pub returns-clause-reads_back : goal.returns-clause-reads_back
returns-clause-reads_back c =
    let f = form_of c.args.f.now in
    let text = rw c.tree.ensures.same at c.text_of.ensures in
    IfOk-weaker c.text_of.result (λ v. v.items ≡ formula_text f) (λ v. FormulaOf v.items (Ok f))
    (λ v same. subst (λ bytes. FormulaOf bytes (Ok f)) (sym same) (texts-read-back f c.tree.ensures.valid)) text
