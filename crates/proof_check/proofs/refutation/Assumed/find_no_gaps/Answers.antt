use Rattle.std.proofs.Common.{◌++◌, map, refl, rules, subst, sym}
use Rattle.std.proofs.lemmas.List.Elements.{All-contains}
use Rattle.axiom_rules.specs.declared.literal.Atom.TheVariants.{Gap}
use Rattle.axiom_rules.specs.Literals.{negated}
use Rattle.proof_check.specs.Standing.{AreNoGaps, IsGapless}
use Rattle.proof_check.proofs.AssumedLemmas.{right_found}
use Rattle.proof_check.proofs.refutation.Assumed.find_no_gaps.Goals as goal

pub returns-then-has-clause-none : goal.returns-then-has-clause-none
returns-then-has-clause-none c = λ yes.
    let assumed = map negated c.self.inside.denied.now ++ c.self.inside.given in
    let found = All-contains (IsGapless assumed) c.self.inside.gapless (Gap c.args.k c.args.i c.args.count) c.self.invariant.found (c.has.ensures.stands.0 c.if-has.true) in
    subst (λ ls. AreNoGaps ls c.args.k c.args.i c.args.count) c.self.view_is (found c.args.k c.args.i c.args.count refl)

pub invariant_of-self-2 : goal.invariant_of-self-2
invariant_of-self-2 c =
    let none = subst (λ ls. AreNoGaps ls c.args.k c.args.i c.args.count) (sym c.self.view_is) (c.are_no_gaps.ensures (search rules)) in
    right_found c.self.inside.denied.now c.self.inside.places.items c.self.inside.given c.self.inside.list.items c.self.inside.gapless c.add_or_forget.new.atoms
    c.args.k c.args.i c.args.count c.self.invariant none c.in_ok-add_or_forget.ensures.added
