use Rattle.std.proofs.lemmas.Result.{IfOk-weaker}
use Rattle.best_answer.proofs.aim.Aim.is_refuted_in.Goals as goal

pub returns : goal.returns
returns c =
    let a = c.args.self.now in
    record { refutes = IfOk-weaker c.check_refutes.result _ _ (λ b told. told c.args.log.now a.nodes.now a.value c.in_ok-checker.ensures.sought) c.check_refutes.ensures.refutes }
