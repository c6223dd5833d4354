use Rattle.std.proofs.Common.{◌∙◌, sym, rules, tests}
use Rattle.std.proofs.lemmas.Bool.{false≢true}
use Rattle.axiom_rules.specs.Literals.{negated}
use Rattle.logic_table.proofs.FreshLines.{missed_by}
use Rattle.logic_table.proofs.fresh.misses.Goals as goal

pub returns : goal.returns
returns c = λ is.
    let a = c.args in
    missed_by negated a.clauses.now a.held.now a.others.now a.first (c.is_closed.ensures is) (c.are_denied.ensures (search (rules, tests)))
    (λ there. false≢true (sym c.if-has.false ∙ c.has.ensures.1 there))
