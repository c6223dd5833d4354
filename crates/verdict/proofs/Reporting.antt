-- Reports that are right.
use Rattle.std.proofs.Common.{◌≡◌, sym, refl, subst, arith, ℕ, ◌^◌, ◌<◌, true, false, List, length, ℤ}
use Rattle.std.specs.Prelude.{◌||◌, IsTrue}
use Rattle.mt_model.specs.declared.step.Step.{Step}
use Rattle.mt_model.specs.Form.{Form}
use Rattle.mt_model.specs.Log.{IsLog, Logged}
use Rattle.mt_model.specs.Timing.{Admissible}
use Rattle.mt_model.specs.Truth.{truth}
use Rattle.skew_bounds.specs.Consistency.{IsConflict}
use Rattle.report_text.specs.declared.report.Section.{Section}
use Rattle.report_text.specs.declared.report.Section.TheVariants as section
use Rattle.report_text.specs.declared.report.Report.TheVariants as report
use Rattle.report_text.specs.Spelled.{IsSpelledSection}
use Rattle.verdict.specs.Right.{IsRight, IsRightSection, is_witness}
use Rattle.verdict.proofs.Spelling.{bounds_spelled, witness_spelled}

second_witness : (s : Section) → IsTrue (is_witness s || true)
second_witness (section.Witness t) = refl
second_witness (section.Refuted lines) = refl
second_witness (section.Unknown lines) = refl

module _ (log : Logged) (f : Form) (conflicts events : ℕ) (valid : IsLog log) (same : events ≡ length log.rows) where
  few_events : events < 2 ^ 32
  few_events = omega (arith, same, valid.few_rows)

  pub inconsistent_right : (steps : List Step) → IsConflict log steps → IsRight log f conflicts (report.Inconsistent events steps)
  inconsistent_right steps conflict = record {
    spelled = record { few = few_events; walk = bounds_spelled log valid steps conflict };
    events = same;
    says = record { bounds = conflict.bounds; conflict = conflict.conflict };
  }

  module _ (t : List ℤ) (admissible : Admissible log t) (other : Section) (spelled : IsSpelledSection (length log.rows) other) where
    there : IsSpelledSection events other
    there = subst (λ n. IsSpelledSection n other) (sym same) spelled

    pub true_witnessed : truth log t 0 f ≡ true → IsRightSection log f conflicts false other → IsRight log f conflicts (report.Verdicts events (section.Witness t) other)
    true_witnessed value right = record {
      spelled = record { few = few_events; true_spelled = witness_spelled log t events valid admissible same; false_spelled = there };
      events = same;
      says = record {
        consistent = record { timing = t; admissible = admissible };
        witnessed = refl;
        true_right = record { admissible = admissible; value = value };
        false_right = right;
      };
    }

    pub false_witnessed : truth log t 0 f ≡ false → IsRightSection log f conflicts true other → IsRight log f conflicts (report.Verdicts events other (section.Witness t))
    false_witnessed value right = record {
      spelled = record { few = few_events; true_spelled = there; false_spelled = witness_spelled log t events valid admissible same };
      events = same;
      says = record {
        consistent = record { timing = t; admissible = admissible };
        witnessed = second_witness other;
        true_right = right;
        false_right = record { admissible = admissible; value = value };
      };
    }
