-- What encoding and searching ask for, and what is found.
use Rattle.std.proofs.Common.{◌≡◌, ◌∙◌, ℕ, Bool, List, length, ℤ}
use Rattle.std.proofs.lemmas.Result.{IfOk-weaker as if_ok_more}
use Rattle.mt_model.specs.Form.{Form}
use Rattle.mt_model.specs.Log.{Logged}
use Rattle.mt_model.specs.Timing.{Admissible}
use Rattle.mt_model.specs.Truth.{truth}
use Rattle.skew_bounds.specs.RowTimes.{times_of}
use Rattle.question.proofs.TightExtremes.{tight-consistent}
use Rattle.axiom_rules.specs.Sought.{sought_of}
use Rattle.mtl_encode.specs.declared.problem.Problem.{Problem}
use Rattle.mtl_encode.specs.Kept.{Kept}
use Rattle.mtl_encode.specs.Models.{IsModel}
use Rattle.mtl_encode.specs.Problems.{Fits}
use Rattle.cdcl_core.specs.declared.found.Found.{Found}
use Rattle.cdcl_core.specs.Founds.{IsFound}
use Rattle.cdcl_core.specs.Values.{IsFoundFor}
use Rattle.cdcl_core.proofs.Posing.{posed}
use Rattle.cdcl_core.proofs.value.found_by.Goals as goal

found_for : (log : Logged) (f : Form) (v : Bool) (budget : ℕ) (p : Problem) (found : Found) → Fits (sought_of log f v) p → Kept log f v p.rules
    → ((values : List Bool) (numbers : List ℤ) → IsModel p values numbers → Admissible log (times_of (length log.rows) numbers) × (truth log (times_of (length log.rows) numbers) 0 f ≡ v))
    → IsFound p budget log f v found → IsFoundFor log f v budget found
found_for log f v budget p found fits kept exact is = record {
  problem = p;
  fits = fits;
  kept = kept;
  exact = λ values numbers model. let both = exact values numbers model in record { admissible = both.0; value = both.1 };
  found_is = is;
}

pub search_by-requires-clause-posed : goal.search_by-requires-clause-posed
search_by-requires-clause-posed c =
    let log = c.args.question.log in
    let valid = rw c.log.ensures.log at c.log_is_valid.ensures.valid in
    let consistent = tight-consistent log c.args.tight.now c.requires.tight valid.some_rows in
    posed c.bounds_are_admissible.ensures log c.args.question.form c.args.value c.in_ok-problem.problem consistent.timing
    valid (rw c.formula.ensures.form at c.tree.ensures.valid) consistent.admissible c.in_ok-problem.ensures.fits

pub returns-in-Some : goal.returns-in-Some
returns-in-Some c =
    let log = c.args.question.log in
    let f = c.args.question.form in
    let valid = rw c.log.ensures.log at c.log_is_valid.ensures.valid in
    let made = c.in_ok-problem.ensures in
    let answer = rw c.in-Some.is at c.in_ok-found.ensures.answer in
    let is = rw c.get.ensures.conflicts at (answer.found_is log f c.args.value valid made.fits) in
    record { found = found_for log f c.args.value c.args.budget c.in_ok-problem.problem c.in-Some.found made.fits made.kept made.exact is }

pub encode_by-requires-in-None-clause-small : goal.encode_by-requires-in-None-clause-small
encode_by-requires-in-None-clause-small c =
    let again = c.in_ok-again-in-None.ensures in
    rw (again.log ∙ c.log-log.ensures.log, again.form ∙ c.nodes-nodes.ensures.form) c.requires.small

pub search-requires-clause-posed : goal.search-requires-clause-posed
search-requires-clause-posed c =
    let log = c.args.question.log in
    let again = c.in_ok-again-in-None.ensures in
    let valid = rw c.log.ensures.log at c.log_is_valid.ensures.valid in
    let consistent = tight-consistent log c.args.tight.now c.requires.tight valid.some_rows in
    let fits = rw (again.log ∙ c.log-log.ensures.log, again.form ∙ c.nodes-nodes.ensures.form) at c.in_ok-problem-in-None.ensures.fits in
    posed c.bounds_are_admissible.ensures log c.args.question.form c.args.value c.in_ok-problem-in-None.problem consistent.timing
    valid (rw c.formula.ensures.form at c.tree.ensures.valid) consistent.admissible fits

pub returns : goal.returns
returns c =
    let log = c.args.question.log in
    let f = c.args.question.form in
    let p = c.in_ok-problem-in-None.problem in
    let again = c.in_ok-again-in-None.ensures in
    let log_is = again.log ∙ c.log-log.ensures.log in
    let form_is = again.form ∙ c.nodes-nodes.ensures.form in
    let valid = rw c.log.ensures.log at c.log_is_valid.ensures.valid in
    let fits = rw (log_is, form_is) at c.in_ok-problem-in-None.ensures.fits in
    let kept = rw (log_is, form_is) at c.in_ok-problem-in-None.ensures.kept in
    let exact = rw (log_is, form_is) at c.in_ok-problem-in-None.ensures.exact in
    record {
      found = if_ok_more c.search.result _ _
          (λ found is. found_for log f c.args.value c.args.budget p found fits kept exact (rw c.get-in-None.ensures.conflicts at (is log f c.args.value valid fits)))
          c.search.ensures.found;
    }
