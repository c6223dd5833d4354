use Rattle.std.proofs.Common.{rules}
use Rattle.logic_table.proofs.KnownClauses.{known_parts}
use Rattle.logic_table.proofs.known.known.Goals as goal

pub returns : goal.returns
returns c =
    let a = c.args in
    known_parts a.sought.now a.rules.now a.lines.now a.place c.in_ok-named.named.items c.add_clauses.new.clauses.items c.add_clauses-2.new.clauses.items
    c.add_learnt.new.clauses.items c.in_ok-named.ensures
    (search rules) (search rules) (search rules)
