use Rattle.std.proofs.Common.{map, refl, subst, inl, inr}
use Rattle.std.specs.Prelude.{Contains}
use Rattle.std.proofs.lemmas.List.Elements.{Contains-append_cases, Contains-append_left, Contains-append_right}
use Rattle.std.proofs.lemmas.Bool.{iff_false}
use Rattle.axiom_rules.specs.Literals.{negated}
use Rattle.proof_check.proofs.refutation.Assumed.has.Goals as goal

pub returns-then-is_denied : goal.returns-then-is_denied
returns-then-is_denied c =
    let denied = map negated c.self.inside.denied.now in
    let there = Contains-append_left denied c.self.inside.given c.args.literal.now (c.is_denied.ensures.0 c.if-is_denied.true) in
    (λ _. subst (λ ls. Contains ls c.args.literal.now) c.self.view_is there, λ _. refl)

pub returns : goal.returns
returns c =
    let denied = map negated c.self.inside.denied.now in
    let given = c.self.inside.given in
    let l = c.args.literal.now in (
      λ yes. subst (λ ls. Contains ls l) c.self.view_is (Contains-append_right denied given l (c.has.ensures.stands.0 yes)),
      λ has. elim (Contains-append_cases denied given l (rw c.self.view_is has)) [
        | inl there ↦ absurd (iff_false c.is_denied.ensures c.if-is_denied.false there)
        | inr there ↦ c.has.ensures.stands.1 there
      ],
    )
