-- What is found.
use Rattle.std.proofs.Common.{◌∙◌, sym, Option, Some, None}
use Rattle.std.specs.Prelude.{IfNone}
use Rattle.std.proofs.lemmas.Bool.{false≢true}
use Rattle.std.proofs.lemmas.Option.{IfSome_then}
use Rattle.std.proofs.lemmas.Result.{IfOk-weaker as if_ok_more}
use Rattle.cdcl_core.proofs.main_loop.search_by.Goals as goal

none_then : {X P Q : Type 0} (o : Option X) → IfNone o P → (P → Q) → IfNone o Q
none_then None p f = f p
none_then (Some x) p f = tt

pub returns : goal.returns
returns c =
    let start = c.in_ok-state.ensures in
    record {
      answer = if_ok_more c.run.result _ _ (λ o answer. IfSome_then o answer (λ found is. is c.args.problem start.begun)) c.run.ensures.answer;
      none = if_ok_more c.run.result _ _ (λ o none. none_then o none (λ part empty. false≢true (sym part ∙ start.whole empty))) c.run.ensures.none;
    }
