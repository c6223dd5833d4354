use Rattle.std.proofs.Common.{map, subst}
use Rattle.std.specs.Prelude.{Contains}
use Rattle.std.proofs.lemmas.List.Elements.{All-contains, Contains-append_left, Contains-append_right}
use Rattle.hint_refutation.proofs.Lists.{contains_map}
use Rattle.axiom_rules.specs.Literals.{negated}
use Rattle.proof_check.proofs.refutation.Assumed.denies_at.Goals as goal

pub returns-then-place-self : goal.returns-then-place-self
returns-then-place-self c = λ yes.
    let denied = c.self.inside.denied.now in
    let l = c.args.literal.now in
    subst (λ ls. Contains ls (negated l)) c.self.view_is (Contains-append_left (map negated denied) c.self.inside.given (negated l) (contains_map negated denied l (c.is_at.ensures yes)))

pub returns-else-place-self : goal.returns-else-place-self
returns-else-place-self c = λ yes.
    let given = c.self.inside.given in
    let l = c.args.literal.now in
    let listed = rw (c.deref.ensures.value, c.negated.ensures.literal) at (c.is_at-else-place-self.ensures yes) in
    subst (λ ls. Contains ls (negated l)) c.self.view_is
    (Contains-append_right (map negated c.self.inside.denied.now) given (negated l) (All-contains (Contains given) c.self.inside.list.items (negated l) c.self.invariant.listed listed))
