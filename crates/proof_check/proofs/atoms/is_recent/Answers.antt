use Rattle.std.proofs.Common.{◌∙◌, sym}
use Rattle.axiom_rules.specs.contracts.literal.AtomOrd.TheImpl.Laws.{total-law}
use Rattle.proof_log.proofs.AtomsApart.{atoms_told}
use Rattle.proof_log.proofs.OrderedSets.{has as has_key}
use Rattle.proof_check.proofs.atoms.is_recent.Goals as goal

pub returns : goal.returns
returns c =
    let at = has_key total-law atoms_told c.args.recent.now c.args.atom.now in
    (λ is. at.0 (sym c.contains.ensures ∙ is), λ stands. c.contains.ensures ∙ at.1 stands)
