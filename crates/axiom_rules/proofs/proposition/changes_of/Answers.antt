use Rattle.std.proofs.Common.{◌∙◌, sym}
use Rattle.axiom_rules.proofs.ShapeLemmas.{changes-none, changes-some}
use Rattle.axiom_rules.proofs.proposition.changes_of.Goals.{in-Some+in_ok-push, in_default}
use Rattle.axiom_rules.proofs.proposition.changes_of.Goals as goal

pub loop-e-preserved : goal.loop-e-preserved
loop-e-preserved c = elim c.match-change.branch [
  | in-Some+in_ok-push w ↦ changes-some c.args.log.now c.args.host c.args.name.now c.loop-e.e w.in-Some.change c.loop-e.list c.match-change.list c.loop-e.invariant
      (sym w.in-Some.is ∙ c.change.ensures) (w.list-is ∙ w.in_ok-push.ensures.ok)
  | in_default w ↦ rw w.list-is (changes-none c.args.log.now c.args.host c.args.name.now c.loop-e.e c.loop-e.list c.loop-e.invariant (sym w.in_default.is ∙ c.change.ensures))
]
