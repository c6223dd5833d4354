use Rattle.std.proofs.Common.{rules}
use Rattle.hint_refutation.proofs.Pieces.{pieces_count}
use Rattle.clause_db.proofs.db.Db.len.Goals as goal

pub returns : goal.returns
returns c =
    let count = pieces_count 0 c.self.inside.lits.items c.self.inside.ends.items in
    record { count = rw (← c.self.view_is) (search (rules, count)) }
