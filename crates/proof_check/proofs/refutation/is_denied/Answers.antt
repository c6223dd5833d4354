use Rattle.std.proofs.Common.{refl, subst, sym}
use Rattle.std.specs.Prelude.{Contains}
use Rattle.axiom_rules.specs.declared.literal.Literal.{Literal}
use Rattle.proof_check.proofs.PlaceLemmas.{first_stands}
use Rattle.proof_check.proofs.TakeLemmas.{denied_has, has_denied}
use Rattle.proof_check.proofs.refutation.is_denied.Goals as goal

pub returns-in-Some : goal.returns-in-Some
returns-in-Some c =
    let denied = c.args.denied.now in
    let l = c.args.literal.now in
    let stands = first_stands denied c.negated.result c.in-Some.field-0 c.in-Some.ensures in
    (λ _. denied_has denied l (subst (λ (m : Literal). Contains denied m) c.negated.ensures.literal stands), λ _. refl)

pub returns-in-None : goal.returns-in-None
returns-in-None c =
    let denied = c.args.denied.now in
    let l = c.args.literal.now in
    (λ no. absurd (cc), λ has. absurd (c.in-None.ensures (subst (λ (m : Literal). Contains denied m) (sym c.negated.ensures.literal) (has_denied denied l has))))
