use Rattle.std.proofs.Common.{◌∙◌, sym, ap, length, ◌+◌}
use Rattle.proof_log.specs.Derivations.{clause_of_hint}
use Rattle.proof_check.specs.Keeping.{lines_with}
use Rattle.proof_check.proofs.HintLemmas.{cited_taken, none_taken}
use Rattle.proof_check.proofs.judge.take_hint.Goals as goal

pub returns-in-Some : goal.returns-in-Some
returns-in-Some c = cited_taken c.args.rules.now (lines_with c.args.kept.now.closed) (length c.args.kept.now.closed + 1) c.args.hint c.args.assumed.now _ _
    (ap (clause_of_hint c.args.rules.now (lines_with c.args.kept.now.closed) (length c.args.kept.now.closed + 1)) c.in-Line.is ∙ sym (c.in-Some.ensures c.args.rules.now))
    c.take_cited.result c.take_cited.ensures

pub returns-in-None : goal.returns-in-None
returns-in-None c = none_taken c.args.rules.now (lines_with c.args.kept.now.closed) (length c.args.kept.now.closed + 1) c.args.hint c.args.assumed.now
    (ap (clause_of_hint c.args.rules.now (lines_with c.args.kept.now.closed) (length c.args.kept.now.closed + 1)) c.in-Line.is ∙ sym (c.in-None.ensures c.args.rules.now))
