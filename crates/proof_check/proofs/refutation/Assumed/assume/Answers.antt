use Rattle.std.proofs.Common.{◌++◌, ◌∷◌, map, subst}
use Rattle.axiom_rules.specs.Literals.{negated}
use Rattle.proof_check.specs.Refutation.{AreThose}
use Rattle.proof_check.proofs.AssumedLemmas.{right_given, right_listed}
use Rattle.proof_check.proofs.ThoseLemmas.{those_behind}
use Rattle.proof_check.proofs.refutation.Assumed.assume.Goals as goal

pub invariant_of-self : goal.invariant_of-self
invariant_of-self c =
    rw c.in_ok-push-in-Ok.ensures.items
    (right_listed c.self.inside.denied.now c.self.inside.places.items c.args.literal c.self.inside.given c.add.new.self c.self.inside.list.items c.self.inside.gapless c.self.invariant c.in-Ok.ensures.added)

pub invariant_of-self-in_err-push-in-Ok : goal.invariant_of-self-in_err-push-in-Ok
invariant_of-self-in_err-push-in-Ok c =
    rw c.in_err-push-in-Ok.ensures.items
    (right_given c.self.inside.denied.now c.self.inside.places.items c.args.literal c.self.inside.given c.add.new.self c.self.inside.list.items c.self.inside.gapless c.self.invariant c.in-Ok.ensures.added)

pub invariant_of-self-else-self : goal.invariant_of-self-else-self
invariant_of-self-else-self c =
    right_given c.self.inside.denied.now c.self.inside.places.items c.args.literal c.self.inside.given c.add.new.self c.self.inside.list.items c.self.inside.gapless c.self.invariant c.in-Ok.ensures.added

pub returns-in_ok-push-in-Ok : goal.returns-in_ok-push-in-Ok
returns-in_ok-push-in-Ok c =
    let denied = map negated c.self.inside.denied.now in
    record {
      assumed = subst (λ ls. AreThose (c.args.literal ∷ ls) (denied ++ c.add.new.self)) c.self.view_is (those_behind denied c.self.inside.given c.add.new.self c.args.literal c.in-Ok.ensures.added);
    }

pub returns-else-self : goal.returns-else-self
returns-else-self c =
    let denied = map negated c.self.inside.denied.now in
    record {
      assumed = subst (λ ls. AreThose (c.args.literal ∷ ls) (denied ++ c.add.new.self)) c.self.view_is (those_behind denied c.self.inside.given c.add.new.self c.args.literal c.in-Ok.ensures.added);
    }
