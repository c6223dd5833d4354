use Rattle.std.proofs.Common.{◌∙◌, sym, refl, arith, true≢false}
use Rattle.axiom_rules.specs.contracts.literal.AtomOrd.TheImpl.Laws.{total-law}
use Rattle.proof_log.proofs.AtomsApart.{all_apart, atoms_equal, atoms_told, equal_atoms, met_next, next_apart}
use Rattle.proof_log.proofs.atoms.are_apart.Goals as goal

pub returns-then-eq : goal.returns-then-eq
returns-then-eq c = (
  λ no. absurd (cc),
  λ apart. absurd
      (met_next total-law atoms_told c.args.atoms.now c.sort_unstable.new.self c.loop-next.next _ c.sort_unstable.ensures.permutation
      (omega (arith, c.loop-next.auto.next)) (omega (arith, c.loop-next-test.true)) (atoms_equal _ _ (sym c.eq.ensures ∙ c.if-eq.true)) apart),
)

pub loop-next-preserved : goal.loop-next-preserved
loop-next-preserved c =
    next_apart c.sort_unstable.new.self c.loop-next.next _ c.loop-next.invariant (omega (arith, c.loop-next.auto.next)) (omega (arith, c.loop-next-test.true))
    (λ same. true≢false (sym (equal_atoms _ _ same) ∙ sym c.eq.ensures ∙ c.if-eq.false))

pub returns : goal.returns
returns c = (
  λ yes. all_apart total-law atoms_told c.args.atoms.now c.sort_unstable.new.self c.sort_unstable.ensures.permutation c.sort_unstable.ensures.sorted
      (λ k d within. c.loop-next.invariant k d (omega (arith, within, c.loop-next-test.false))),
  λ apart. refl,
)
