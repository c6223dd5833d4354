use Rattle.std.proofs.Common.{◌≡◌, ◌∙◌, ap, Ok}
use Rattle.std.proofs.lemmas.Result.{IfOk-weaker}
use Rattle.log_read.specs.LogOf.{log_of}
use Rattle.log_read.specs.LogText.{log_text}
use Rattle.log_read.proofs.ReadBack.{texts-read-back}
use Rattle.log_read.proofs.writer.write_log.Goals as goal

pub returns-clause-reads_back : goal.returns-clause-reads_back
returns-clause-reads_back c =
    let log = c.args.log.now in
    IfOk-weaker c.text_of.result (λ v. v.items ≡ log_text log) (λ v. log_of v.items ≡ Ok log) (λ v same. ap log_of same ∙ texts-read-back log c.text_of.ensures.valid c.requires) c.text_of.ensures.text
