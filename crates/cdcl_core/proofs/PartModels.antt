-- What satisfies a problem gives an admissible timing, whichever rules it has.
use Rattle.std.proofs.Common.{◌∙◌, subst, ◌<◌, Bool, List, length, All, ℤ, arith}
use Rattle.mt_model.specs.Bounds.{BoundsAreAdmissible}
use Rattle.mt_model.specs.Form.{Form}
use Rattle.mt_model.specs.Log.{IsLog, Logged}
use Rattle.mt_model.specs.Timing.{Admissible}
use Rattle.neg_cycle.specs.Systems.{IsEdge}
use Rattle.skew_bounds.specs.RowTimes.{times_of}
use Rattle.skew_bounds.proofs.Settled.{timing-of}
use Rattle.axiom_rules.specs.Sought.{sought_of}
use Rattle.mtl_encode.specs.declared.problem.Problem.{Problem}
use Rattle.mtl_encode.specs.Models.{IsModel}
use Rattle.mtl_encode.specs.Problems.{Fits}

module _ (log : Logged) (f : Form) (v : Bool) (p : Problem) (values : List Bool) (numbers : List ℤ) (valid : IsLog log)
    (fits : Fits (sought_of log f v) p) (model : IsModel p values numbers) where
  pub part-admissible : BoundsAreAdmissible → Admissible log (times_of (length log.rows) numbers)
  part-admissible law = timing-of law log valid p.bounds p.edges numbers fits.bounds fits.edges (subst (λ n. All (IsEdge n) p.edges) fits.nodes fits.system.each)
      (record { count = model.numbers_count ∙ fits.nodes; meets = model.edges })

  pub part-nodes : length log.rows < length numbers
  part-nodes = omega (arith, model.numbers_count, fits.nodes)
