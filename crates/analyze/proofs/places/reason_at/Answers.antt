use Rattle.std.proofs.Common.{◌≡◌, ◌∙◌, ap, sym}
use Rattle.clause_db.specs.declared.lit.Lit.{Lit}
use Rattle.propagate.specs.declared.entry.Entry.{Entry}
use Rattle.analyze.proofs.Order.{assigned_at, entry_of_place}
use Rattle.analyze.proofs.places.reason_at.Goals as goal

pub reason-requires : goal.reason-requires
reason-requires c =
    let is = c.var.ensures.variable ∙ ap (λ (l : Lit). l.var) c.lit.ensures.literal in
    record { assigned = assigned_at c.args.trail.now.entries c.args.place c.var.result c.requires.in_range (sym is) }

pub returns : goal.returns
returns c =
    let is = c.var.ensures.variable ∙ ap (λ (l : Lit). l.var) c.lit.ensures.literal in
    record { reason = sym (entry_of_place c.args.trail.now c.requires.trail c.args.place c.var.result c.requires.in_range is (λ (e : Entry). e.reason ≡ c.reason.result) c.reason.ensures.reason) }
