use Rattle.std.proofs.Common.{◌∙◌, sym, ap, Ok}
use Rattle.axiom_rules.proofs.EachLemmas.{new-at-end}
use Rattle.axiom_rules.proofs.clause.add_new.Goals as goal

pub returns-in_ok-push-in-Says : goal.returns-in_ok-push-in-Says
returns-in_ok-push-in-Says c = rw c.in-Says.is (new-at-end c.args.clause.now.items c.in-Says.literal (rw c.in-Says.is at c.requires) ∙ ap Ok (sym c.in_ok-push-in-Says.ensures.ok))
