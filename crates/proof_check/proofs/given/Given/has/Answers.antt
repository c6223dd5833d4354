use Rattle.proof_check.proofs.GivenLemmas.{no_told, yes_told}
use Rattle.proof_check.proofs.given.Given.has.Goals as goal

pub returns-then-literal : goal.returns-then-literal
returns-then-literal c =
    record {
      stands = yes_told c.self.inside.positive c.self.inside.negative c.args.literal.now c.args.self.now c.self.view_is c.has.result
          c.if-literal.true c.has.ensures.stands;
    }

pub returns-else-literal : goal.returns-else-literal
returns-else-literal c = record {
  stands = no_told c.self.inside.positive c.self.inside.negative c.args.literal.now c.args.self.now c.self.view_is c.has-else-literal.result c.if-literal.false c.has-else-literal.ensures.stands;
}
