use Rattle.std.proofs.lemmas.Result.{on_ok_weaker}
use Rattle.proof_check.proofs.GivenLemmas.{no_added, yes_added}
use Rattle.proof_check.proofs.given.Given.add.Goals as goal

pub returns-then-literal : goal.returns-then-literal
returns-then-literal c = record {
  added = on_ok_weaker c.add.result (yes_added c.self.inside.positive c.self.inside.negative c.args.literal c.args.self.now c.self.view_is c.add.new.self c.if-literal.true) c.add.ensures.added;
}

pub returns-else-literal : goal.returns-else-literal
returns-else-literal c = record {
  added = on_ok_weaker c.add-else-literal.result (no_added c.self.inside.positive c.self.inside.negative c.args.literal c.args.self.now c.self.view_is c.add-else-literal.new.self c.if-literal.false)
      c.add-else-literal.ensures.added;
}
