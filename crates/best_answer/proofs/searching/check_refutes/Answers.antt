use Rattle.std.proofs.Common.{◌≡◌, ◌∙◌, sym, refl, ℕ}
use Rattle.proof_check.specs.declared.check.Check.TheVariants as check
use Rattle.best_answer.proofs.searching.check_refutes.Goals as goal

no_derives : check.Derives ≡ check.Refutes → ⊥
no_derives same = absurd (cc)

no_wrong : (n : ℕ) → check.Wrong n ≡ check.Refutes → ⊥
no_wrong n same = absurd (cc)

pub returns-in-Refutes : goal.returns-in-Refutes
returns-in-Refutes c = record { refutes = λ log f v sought. (λ is. (c.in_ok-check.ensures.refutes log f v sought).0 c.in-Refutes.is, λ is. refl) }

pub returns-in-Derives : goal.returns-in-Derives
returns-in-Derives c = record {
  refutes = λ log f v sought. (λ no. absurd (cc), λ told. absurd (no_derives (sym c.in-Derives.is ∙ (c.in_ok-check.ensures.refutes log f v sought).1 told)));
}

pub returns-in-Wrong : goal.returns-in-Wrong
returns-in-Wrong c = record {
  refutes = λ log f v sought. (λ no. absurd (cc), λ told. absurd (no_wrong _ (sym c.in-Wrong.is ∙ (c.in_ok-check.ensures.refutes log f v sought).1 told)));
}
