-- The status of a report, by the values that the formula can have.
use Rattle.std.proofs.Common.{◌≡◌, refl, ℕ, Bool, true, false, List, ℤ}
use Rattle.mt_model.specs.Form.{Form}
use Rattle.mt_model.specs.Log.{Logged}
use Rattle.mt_model.specs.Timing.{Admissible}
use Rattle.mt_model.specs.Truth.{IsValue, truth}
use Rattle.skew_bounds.specs.Tight.{IsConsistent}
use Rattle.report_text.specs.declared.report.Section.TheVariants as section
use Rattle.report_text.specs.declared.report.Report.{Report}
use Rattle.report_text.specs.declared.report.Report.TheVariants as report
use Rattle.verdict.specs.Claims.{Claims}
use Rattle.verdict.specs.Right.{SaysRight}
use Rattle.skew_answers.specs.declared.status.Status.{Status}
use Rattle.skew_answers.specs.declared.status.Status.TheVariants as status
use Rattle.skew_cli.specs.CheckOutcome.{IsReportStatus, is_undecided}
use Rattle.skew_cli.specs.Laws.{IsNoValue, IsStatusOfValues}

module _ (log : Logged) (f : Form) (r : Report) (s : Status) where
  -- no timing is admissible
  no-timing : ((v : Bool) → IsNoValue log f v) → (t : List ℤ) → Admissible log t → ⊥
  no-timing none t admissible = none (truth log t 0 f) (record { timing = t; admissible = admissible; value = refl })

  inconsistent-status : ((v : Bool) → IsNoValue log f v) → is_undecided r ≡ false → s ≡ status.Inconsistent → IsStatusOfValues log f r s
  inconsistent-status none decided is = record {
    zero = (λ e. let never : ⊥ = cc in absurd never, λ d. absurd (none true d.on_true));
    one = (λ e. let never : ⊥ = cc in absurd never, λ d. absurd (none false d.on_false));
    two = (λ e. let never : ⊥ = cc in absurd never, λ d. absurd (none true d.on_true));
    inconsistent = (λ e. no-timing none, λ h. is);
    unknown = (λ e. let never : ⊥ = cc in absurd never, λ u. let never : ⊥ = cc in absurd never);
  }

  module _ (some : IsConsistent log) where
    zero-status : IsValue log f true → IsNoValue log f false → is_undecided r ≡ false → s ≡ status.Zero → IsStatusOfValues log f r s
    zero-status can cannot decided is = record {
      zero = (λ e. record { decided = decided; on_true = can; on_false = cannot }, λ d. is);
      one = (λ e. let never : ⊥ = cc in absurd never, λ d. absurd (d.on_true can));
      two = (λ e. let never : ⊥ = cc in absurd never, λ d. absurd (cannot d.on_false));
      inconsistent = (λ e. let never : ⊥ = cc in absurd never, λ none. absurd (none some.timing some.admissible));
      unknown = (λ e. let never : ⊥ = cc in absurd never, λ u. let never : ⊥ = cc in absurd never);
    }

    one-status : IsNoValue log f true → IsValue log f false → is_undecided r ≡ false → s ≡ status.One → IsStatusOfValues log f r s
    one-status cannot can decided is = record {
      zero = (λ e. let never : ⊥ = cc in absurd never, λ d. absurd (cannot d.on_true));
      one = (λ e. record { decided = decided; on_true = cannot; on_false = can }, λ d. is);
      two = (λ e. let never : ⊥ = cc in absurd never, λ d. absurd (cannot d.on_true));
      inconsistent = (λ e. let never : ⊥ = cc in absurd never, λ none. absurd (none some.timing some.admissible));
      unknown = (λ e. let never : ⊥ = cc in absurd never, λ u. let never : ⊥ = cc in absurd never);
    }

    two-status : IsValue log f true → IsValue log f false → is_undecided r ≡ false → s ≡ status.Two → IsStatusOfValues log f r s
    two-status can also decided is = record {
      zero = (λ e. let never : ⊥ = cc in absurd never, λ d. absurd (d.on_false also));
      one = (λ e. let never : ⊥ = cc in absurd never, λ d. absurd (d.on_true can));
      two = (λ e. record { decided = decided; on_true = can; on_false = also }, λ d. is);
      inconsistent = (λ e. let never : ⊥ = cc in absurd never, λ none. absurd (none some.timing some.admissible));
      unknown = (λ e. let never : ⊥ = cc in absurd never, λ u. let never : ⊥ = cc in absurd never);
    }

    unknown-status : is_undecided r ≡ true → s ≡ status.Unknown → IsStatusOfValues log f r s
    unknown-status undecided is = record {
      zero = (λ e. let never : ⊥ = cc in absurd never, λ d. let never : ⊥ = cc (undecided, d.decided) in absurd never);
      one = (λ e. let never : ⊥ = cc in absurd never, λ d. let never : ⊥ = cc (undecided, d.decided) in absurd never);
      two = (λ e. let never : ⊥ = cc in absurd never, λ d. let never : ⊥ = cc (undecided, d.decided) in absurd never);
      inconsistent = (λ e. let never : ⊥ = cc in absurd never, λ none. absurd (none some.timing some.admissible));
      unknown = (λ e. undecided, λ u. is);
    }

pub exact-status : (log : Logged) (f : Form) (conflicts : ℕ) (r : Report) (s : Status) → SaysRight log f conflicts r → Claims log f r → IsReportStatus r s → IsStatusOfValues log f r s
exact-status log f conflicts (report.Inconsistent events steps) s right claims is = inconsistent-status log f (report.Inconsistent events steps) s claims refl is
exact-status log f conflicts (report.Verdicts events (section.Witness t) (section.Witness u)) s right claims is =
    two-status log f (report.Verdicts events (section.Witness t) (section.Witness u)) s right.consistent claims.0 claims.1 refl is
exact-status log f conflicts (report.Verdicts events (section.Witness t) (section.Refuted lines)) s right claims is =
    zero-status log f (report.Verdicts events (section.Witness t) (section.Refuted lines)) s right.consistent claims.0 claims.1 refl is
exact-status log f conflicts (report.Verdicts events (section.Witness t) (section.Unknown lines)) s right claims is =
    unknown-status log f (report.Verdicts events (section.Witness t) (section.Unknown lines)) s right.consistent refl is
exact-status log f conflicts (report.Verdicts events (section.Refuted lines) (section.Witness t)) s right claims is =
    one-status log f (report.Verdicts events (section.Refuted lines) (section.Witness t)) s right.consistent claims.0 claims.1 refl is
exact-status log f conflicts (report.Verdicts events (section.Refuted lines) (section.Refuted others)) s right claims is = absurd is
exact-status log f conflicts (report.Verdicts events (section.Refuted lines) (section.Unknown others)) s right claims is =
    unknown-status log f (report.Verdicts events (section.Refuted lines) (section.Unknown others)) s right.consistent refl is
exact-status log f conflicts (report.Verdicts events (section.Unknown lines) (section.Witness t)) s right claims is =
    unknown-status log f (report.Verdicts events (section.Unknown lines) (section.Witness t)) s right.consistent refl is
exact-status log f conflicts (report.Verdicts events (section.Unknown lines) (section.Refuted others)) s right claims is =
    unknown-status log f (report.Verdicts events (section.Unknown lines) (section.Refuted others)) s right.consistent refl is
exact-status log f conflicts (report.Verdicts events (section.Unknown lines) (section.Unknown others)) s right claims is =
    unknown-status log f (report.Verdicts events (section.Unknown lines) (section.Unknown others)) s right.consistent refl is
