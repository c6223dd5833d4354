-- Laws of extra bounds, and of answers.
use Rattle.std.specs.Prelude.{◌≡◌, ◌↔◌, ℕ, ◌≤◌, Bool, List, ℤ, ◌-ℤ◌, ◌≤ℤ◌}
use Rattle.mt_model.specs.declared.log.Extra.{Extra}
use Rattle.mt_model.specs.Form.{Form}
use Rattle.mt_model.specs.Log.{IsLog, Logged, with_extra}
use Rattle.mt_model.specs.Timing.{Admissible, time_of}
use Rattle.mt_model.specs.Truth.{truth}
use Rattle.skew_bounds.specs.Tight.{difference}
use Rattle.verdict_span.specs.declared.greatest.Widest.{Widest}
use Rattle.verdict_span.specs.Spaced.{CanBeSpaced, spaced}
use Rattle.verdict_span.specs.Told.{IsInconsistentExactly, Tells}
use Rattle.verdict_span.specs.Widest.{WidestRight}

-- a log with an extra bound more admits the timings that it admits without it and that meet the bound
pub record ExtrasOnlyExclude : Type 0 where
  pub admits : (log : Logged) (x : Extra) (t : List ℤ) → Admissible (with_extra log x) t ↔ (Admissible log t × ((time_of t x.e -ℤ time_of t x.f) ≤ℤ x.c))
  -- so the log with the bound that row `to` comes at least c after row e admits those in which it does
  pub spaces : (log : Logged) (e to : ℕ) (c : ℤ) (t : List ℤ) → Admissible (spaced e to c log) t ↔ (Admissible log t × (c ≤ℤ difference t e to))

-- what a formula's truth is in a timing doesn't depend on the extra bounds
abbrev pub ExtrasKeepTruth : Type 0
ExtrasKeepTruth = (log : Logged) (x : Extra) (t : List ℤ) (i : ℕ) (f : Form) → truth (with_extra log x) t i f ≡ truth log t i f

-- so a right answer tells how far apart the rows can be
pub record RightSpansAreGreatest : Type 0 where
  pub tells : (log : Logged) (f : Form) (v : Bool) (e to budget : ℕ) (answer : Widest) → IsLog log → CanBeSpaced log e to → 1 ≤ budget → WidestRight log f v e to budget answer
      → Tells log f v e to budget answer
  pub exactly : (log : Logged) (f : Form) (v : Bool) (e to budget : ℕ) (answer : Widest) → WidestRight log f v e to budget answer → IsInconsistentExactly log answer
