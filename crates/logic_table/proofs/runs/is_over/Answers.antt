use Rattle.std.proofs.Common.{◌≡◌, ◌<◌, ◌≤◌, [], length, true, arith, rules}
use Rattle.std.specs.List.{All}
use Rattle.std.proofs.lemmas.List.{take_all}
use Rattle.std.proofs.lemmas.List.Elements.{All-more}
use Rattle.clause_db.specs.declared.lit.Lit.{Lit}
use Rattle.logic_table.proofs.runs.is_over.Goals as goal

pub loop-c-preserved : goal.loop-c-preserved
loop-c-preserved c =
    let below : c.loop-c.c < length c.args.db.now = omega (arith, c.loop-c-test.true, c.len-c-end.ensures.count) in
    let yes : c.are_below.result ≡ true = search rules in
    let clause = rw (c.lits.ensures.clause, c.new-clause.ensures.place) at (c.are_below.ensures yes) in
    All-more (All (λ (x : Lit). x.var < c.args.vars)) c.args.db.now c.loop-c.c [] below c.loop-c.invariant clause

pub returns : goal.returns
returns c = λ _.
    let end : length c.args.db.now ≤ c.loop-c.c = omega (arith, c.loop-c-test.false, c.len-c-end.ensures.count) in
    rw (take_all c.loop-c.c c.args.db.now end) at c.loop-c.invariant
