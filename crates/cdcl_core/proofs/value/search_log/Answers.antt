use Rattle.std.proofs.Common.{subst}
use Rattle.std.proofs.lemmas.Result.{IfOk-weaker as if_ok_more}
use Rattle.cdcl_core.specs.Values.{IsSearched}
use Rattle.cdcl_core.proofs.value.search_log.Goals as goal

pub returns-in-Conflict : goal.returns-in-Conflict
returns-in-Conflict c =
    let form = c.args.question.form in
    record {
      found = if_ok_more c.refuted.result _ (IsSearched c.args.question.log form c.args.value c.args.budget)
          (λ searched found. subst (λ log. IsSearched log form c.args.value c.args.budget searched) c.log.ensures.log (found form c.args.value))
          c.refuted.ensures.found;
    }
