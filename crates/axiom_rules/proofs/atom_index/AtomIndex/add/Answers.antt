use Rattle.std.proofs.Common.{◌≡◌, ◌∙◌, arith}
use Rattle.std.specs.Prelude.{pos, slice_index, slice_index_or}
use Rattle.std.proofs.lemmas.List.{get_or_default}
use Rattle.std.proofs.lemmas.Option.{slice_get-get_or}
use Rattle.axiom_rules.specs.declared.literal.Atom.TheVariants.{Order}
use Rattle.axiom_rules.proofs.IndexLemmas.{chains-added}
use Rattle.axiom_rules.proofs.atom_index.AtomIndex.add.Goals as goal

pub returns-clause-index : goal.returns-clause-index
returns-clause-index c =
    let heads = c.args.self.now.heads.items in
    let links = c.args.self.now.links.items in
    let x = slice_index_or c.args.atoms.now c.args.place (Order 0 0 (pos 0)) in
    let at : c.index.result.now ≡ slice_index heads c.bucket-bucket.result = c.index.ensures ∙ get_or_default heads c.bucket-bucket.result _ 0 c.bucket-bucket.ensures.in_range in
    rw (c.in_ok-push.ensures.items, at, c.requires.next)
    (chains-added c.args.atoms.now heads links x c.bucket-bucket.result c.requires.index
    (rw (← c.requires.next) (slice_get-get_or c.args.atoms.now c.args.place (Order 0 0 (pos 0)) c.requires.in_range))
    (omega (arith, c.requires.next, c.requires.in_range)) c.bucket-bucket.ensures.bucket c.bucket-bucket.ensures.in_range)
