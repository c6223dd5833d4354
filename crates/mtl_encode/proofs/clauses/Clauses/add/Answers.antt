use Rattle.std.proofs.Common.{◌∙◌, sym, arith}
use Rattle.mtl_encode.proofs.ClauseGrowth.{few-rules, kept-room, literals-one, some-literal}
use Rattle.mtl_encode.proofs.RuleLengths.{few-in}
use Rattle.mtl_encode.specs.Instances.{out_by}
use Rattle.mtl_encode.proofs.clauses.Clauses.add.Goals as goal

-- a rule that is kept has room
pub push-requires-clause-atoms : goal.push-requires-clause-atoms
push-requires-clause-atoms c =
    let s = c.args.rules.now in
    let clause = c.in-Ok.ensures.clause in
    let room = kept-room s (out_by c.args.tight.now s) c.args.self.now.rules c.args.rule _ c.in-Ok.ensures.clause (sym c.is_needless.ensures ∙ c.if-is_needless.false) c.requires.room in
    rw c.as_slice.ensures (omega (arith, c.requires.clauses.few, room, literals-one s c.args.self.now.rules c.args.rule, few-in s c.args.rule _ clause))

pub push-requires-clause-rules : goal.push-requires-clause-rules
push-requires-clause-rules c =
    let s = c.args.rules.now in
    let room = kept-room s (out_by c.args.tight.now s) c.args.self.now.rules c.args.rule _ c.in-Ok.ensures.clause (sym c.is_needless.ensures ∙ c.if-is_needless.false) c.requires.room in
    omega (arith, room, few-rules s c.args.self.now.rules, literals-one s c.args.self.now.rules c.args.rule, some-literal s c.args.rule)
