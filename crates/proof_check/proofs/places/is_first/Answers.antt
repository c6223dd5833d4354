use Rattle.std.proofs.Common.{subst}
use Rattle.axiom_rules.specs.declared.literal.Literal.{Literal}
use Rattle.proof_check.specs.Places.{StandsFirst}
use Rattle.proof_check.proofs.OnceLemmas.{first_here}
use Rattle.proof_check.proofs.places.is_first.Goals as goal

pub returns-in-Some : goal.returns-in-Some
returns-in-Some c =
    first_here c.args.lits.now c.args.place c.requires.within c.in-Some.first (subst (λ (l : Literal). StandsFirst c.args.lits.now l c.in-Some.first) c.literal_at.ensures c.in-Some.ensures)
