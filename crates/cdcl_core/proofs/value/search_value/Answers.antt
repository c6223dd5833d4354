use Rattle.std.proofs.Common.{◌∙◌}
use Rattle.cdcl_core.proofs.value.search_value.Goals as goal

pub search_whole-requires-clause-small : goal.search_whole-requires-clause-small
search_whole-requires-clause-small c =
    let again = c.in_ok-again-in-None.ensures in
    rw (again.log ∙ c.log-log.ensures.log, again.form ∙ c.nodes-nodes.ensures.form) c.requires.small
