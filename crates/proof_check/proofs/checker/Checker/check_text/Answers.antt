use Rattle.std.proofs.Common.{◌≡◌, ◌∙◌, ◌↔◌, ap, subst, ℕ}
use Rattle.mt_model.specs.Log.{IsLog}
use Rattle.mt_model.specs.Truth.{IsValue}
use Rattle.proof_log.specs.Derivations.{Derives, FirstWrong, Refutes}
use Rattle.proof_check.specs.declared.check.Check.TheVariants as check
use Rattle.proof_check.proofs.AnswerLemmas.{answered_text}
use Rattle.proof_check.proofs.checker.Checker.check_text.Goals as goal

pub returns-clause-refutes : goal.returns-clause-refutes
returns-clause-refutes c = answered_text c.self.inside.rules c.args.self.now c.self.view_is c.args.text.now c.check_lines_of.result c.check_lines_of.ensures.answer
    (λ lines log f v found. (found ≡ check.Refutes) ↔ Refutes log f v lines) (λ lines log f v found sought answer. answer.refutes)

pub returns-clause-derives : goal.returns-clause-derives
returns-clause-derives c = answered_text c.self.inside.rules c.args.self.now c.self.view_is c.args.text.now c.check_lines_of.result c.check_lines_of.ensures.answer
    (λ lines log f v found. (found ≡ check.Derives) ↔ Derives log f v lines) (λ lines log f v found sought answer. answer.derives)

pub returns-clause-wrong : goal.returns-clause-wrong
returns-clause-wrong c = answered_text c.self.inside.rules c.args.self.now c.self.view_is c.args.text.now c.check_lines_of.result c.check_lines_of.ensures.answer
    (λ lines log f v found. (n : ℕ) → (found ≡ check.Wrong n) ↔ FirstWrong log f v lines n) (λ lines log f v found sought answer. answer.wrong)

pub returns-clause-excludes : goal.returns-clause-excludes
returns-clause-excludes c = answered_text c.self.inside.rules c.args.self.now c.self.view_is c.args.text.now c.check_lines_of.result c.check_lines_of.ensures.answer
    (λ lines log f v found. found ≡ check.Refutes → IsValue log f v → ⊥)
    (λ lines log f v found sought answer refutes value.
    c.refuted_is_no_value.ensures log f v lines (subst IsLog (ap (λ s. s.log) (c.self.view_is ∙ sought)) c.rules_have_a_log.ensures) (answer.refutes.0 refutes) value)
