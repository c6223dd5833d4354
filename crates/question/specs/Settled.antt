-- What is known of a log's bounds.
use Rattle.mt_model.specs.Log.{Logged}
use Rattle.mt_model.specs.Timing.{Admissible}
use Rattle.skew_bounds.specs.Consistency.{IsConflict}
use Rattle.skew_bounds.specs.Tight.{IsTight}
use Rattle.question.specs.declared.settled.Settled.{Settled}
use Rattle.question.specs.declared.settled.Settled.TheVariants as settled

-- an admissible timing with the least and greatest differences over all of these, or bounds in conflict
abbrev pub IsSettled : Logged → Settled → Type 0
IsSettled log (settled.Timing times tight) = Admissible log times × IsTight log tight
IsSettled log (settled.Conflict steps) = IsConflict log steps
