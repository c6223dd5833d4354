-- Which answers are right for a log, a formula, a value, two rows and a budget of conflicts for each search.
use Rattle.std.specs.Prelude.{◌≡◌, ℕ, Bool, List, Option, Some, None, ℤ, pos, ◌+ℤ◌, ◌≤ℤ◌}
use Rattle.mt_model.specs.Form.{Form}
use Rattle.mt_model.specs.Log.{Logged}
use Rattle.mt_model.specs.Timing.{Admissible}
use Rattle.mt_model.specs.Truth.{truth}
use Rattle.skew_bounds.specs.Consistency.{IsConflict}
use Rattle.skew_bounds.specs.Tight.{IsConsistent, difference}
use Rattle.proof_log.specs.declared.line.Line.{Line}
use Rattle.cdcl_core.specs.Values.{GivesValue, RefutesWithin, SpendsWithin}
use Rattle.verdict_span.specs.declared.greatest.Widest.{Widest}
use Rattle.verdict_span.specs.declared.greatest.Widest.TheVariants as widest
use Rattle.verdict_span.specs.Spaced.{spaced}

module _ (log : Logged) (f : Form) (v : Bool) (e to : ℕ) where
  -- the log itself, or the log in which row `to` comes at least c after row e
  abbrev pub searched : Option ℤ → Logged
  searched None = log
  searched (Some c) = spaced e to c log

  -- the timing gives the value, row `to` comes d after row e in it, and the lines refute the value where it comes at least d + 1 after
  pub record IsGreatest (budget : ℕ) (d : ℤ) (times : List ℤ) (beyond : List Line) : Type 0 where
    pub gives : GivesValue log f v times
    pub distance : difference times e to ≡ d
    pub refuted : RefutesWithin (spaced e to (d +ℤ pos 1) log) f v budget beyond

  -- some timing is admissible, and the lines refute the value
  pub record IsNever (budget : ℕ) (lines : List Line) : Type 0 where
    pub consistent : IsConsistent log
    pub refuted : RefutesWithin log f v budget lines

  -- the answer is right
  abbrev pub WidestRight : ℕ → Widest → Type 0
  WidestRight budget (widest.Greatest d times beyond) = IsGreatest budget d times beyond
  WidestRight budget (widest.Never lines) = IsNever budget lines
  WidestRight budget (widest.Inconsistent steps) = IsConflict log steps
  WidestRight budget (widest.Unknown least lines) = SpendsWithin (searched least) f v budget lines

  -- in some admissible timing that gives the value row `to` comes d after row e, and in none it comes later
  pub record IsGreatestDistance (d : ℤ) : Type 0 where
    pub timing : List ℤ
    pub admissible : Admissible log timing
    pub value : truth log timing 0 f ≡ v
    pub distance : difference timing e to ≡ d
    pub bound : (t : List ℤ) → Admissible log t → truth log t 0 f ≡ v → difference t e to ≤ℤ d
