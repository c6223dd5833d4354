use Rattle.std.proofs.Common.{◌∙◌, ap, sym, arith}
use Rattle.clause_db.specs.declared.lit.Lit.{Lit}
use Rattle.analyze.proofs.Order.{assigned_at}
use Rattle.cdcl_core.proofs.sight.Sight.reason.Goals as goal

pub reason-requires : goal.reason-requires
reason-requires c =
    let is = c.var.ensures.variable ∙ ap (λ (l : Lit). l.var) c.lit.ensures.literal in
    record { assigned = assigned_at c.args.self.now.trail.now.entries c.args.place c.var.result (omega (arith, c.if-place-len.true, c.len.ensures.count)) (sym is) }
