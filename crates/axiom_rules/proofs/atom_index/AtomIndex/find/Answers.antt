use Rattle.std.proofs.Common.{◌≡◌, ◌∙◌, sym, subst, ◌-◌, ◌<◌, length, arith}
use Rattle.std.specs.Prelude.{pos, slice_index, slice_index_or}
use Rattle.std.proofs.lemmas.List.{get_or_default}
use Rattle.axiom_rules.specs.declared.literal.Atom.TheVariants.{Order}
use Rattle.axiom_rules.specs.Atoms.{IsVar}
use Rattle.axiom_rules.proofs.PartLemmas.{atoms_same}
use Rattle.axiom_rules.proofs.IndexLemmas.{at-place, before-head, before-link, link-lower, none-found}
use Rattle.axiom_rules.proofs.atom_index.AtomIndex.find.Goals as goal

pub loop-link-init : goal.loop-link-init
loop-link-init c =
    let at : c.index-link.result.now ≡ slice_index c.args.self.now.heads.items c.bucket.result =
    c.index-link.ensures ∙ get_or_default c.args.self.now.heads.items c.bucket.result _ 0 c.bucket.ensures.in_range in
    rw at
    (before-head c.args.atoms.now c.args.self.now.heads.items c.args.self.now.links.items c.args.atom
    (Order 0 0 (pos 0)) c.requires.index c.requires.all c.bucket.result c.bucket.ensures.bucket c.bucket.ensures.in_range)

pub returns-then-are_equal-clause-found : goal.returns-then-are_equal-clause-found
returns-then-are_equal-clause-found c =
    let some : 0 < c.loop-link.link = omega (arith, c.loop-link-test.true) in
    let at = at-place c.args.atoms.now (c.loop-link.link - 1) (Order 0 0 (pos 0)) (omega (arith, some, c.loop-link.invariant.low)) in
    subst (IsVar c.args.atoms.now (c.loop-link.link - 1))
    (atoms_same (slice_index_or c.args.atoms.now (c.loop-link.link - 1) (Order 0 0 (pos 0))) c.args.atom (sym c.are_equal.ensures ∙ c.if-are_equal.true)) at

pub loop-link-smaller : goal.loop-link-smaller
loop-link-smaller c =
    let low : c.loop-link.link - 1 < length c.args.self.now.links.items = omega (arith, c.loop-link-test.true, c.loop-link.invariant.low, c.requires.all) in
    let at : c.index-link-in-loop-link.result.now ≡ slice_index c.args.self.now.links.items (c.loop-link.link - 1) =
    c.index-link-in-loop-link.ensures ∙ get_or_default c.args.self.now.links.items (c.loop-link.link - 1) _ 0 low in
    rw at
    (link-lower c.args.atoms.now c.args.self.now.heads.items c.args.self.now.links.items c.args.atom
    (Order 0 0 (pos 0)) c.requires.index c.requires.all c.loop-link.link (omega (arith, c.loop-link-test.true)) c.loop-link.invariant)

pub loop-link-preserved : goal.loop-link-preserved
loop-link-preserved c =
    let low : c.loop-link.link - 1 < length c.args.self.now.links.items = omega (arith, c.loop-link-test.true, c.loop-link.invariant.low, c.requires.all) in
    let at : c.index-link-in-loop-link.result.now ≡ slice_index c.args.self.now.links.items (c.loop-link.link - 1) =
    c.index-link-in-loop-link.ensures ∙ get_or_default c.args.self.now.links.items (c.loop-link.link - 1) _ 0 low in
    rw at
    (before-link c.args.atoms.now c.args.self.now.heads.items c.args.self.now.links.items c.args.atom
    (Order 0 0 (pos 0)) c.requires.index c.requires.all c.loop-link.link (omega (arith, c.loop-link-test.true)) c.loop-link.invariant
    (sym c.are_equal.ensures ∙ c.if-are_equal.false))

pub returns-clause-none : goal.returns-clause-none
returns-clause-none c = λ none. none-found c.args.atoms.now c.args.atom (λ v there. let low = c.loop-link.invariant.before v there in omega (arith, low, c.loop-link-test.false))
