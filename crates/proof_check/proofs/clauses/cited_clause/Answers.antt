use Rattle.std.proofs.Common.{◌≡◌, ◌∙◌, ◌+◌, sym, subst, suc, length, arith}
use Rattle.std.specs.Prelude.{option_copied}
use Rattle.proof_log.specs.declared.line.Hint.TheVariants as hint
use Rattle.proof_log.specs.Derivations.{clause_of_hint}
use Rattle.proof_check.specs.Keeping.{lines_with}
use Rattle.proof_check.proofs.KeptLemmas.{cites}
use Rattle.proof_check.proofs.clauses.cited_clause.Goals as goal

pub returns : goal.returns
returns c = λ s.
    let place = c.in_ok-place.field-0 in
    let next : c.args.m ≡ suc place = omega (arith, c.in_ok-place.ensures) in
    subst (λ k. option_copied c.get.result ≡ clause_of_hint s (lines_with c.args.kept.now.closed) (length c.args.kept.now.closed + 1) (hint.Line k)) (sym next)
    (c.get.ensures.clause ∙ sym (cites c.args.kept.now.closed s place))
