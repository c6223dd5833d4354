-- Where the problem of a log is small enough, that of one that admits no more is.
use Rattle.std.proofs.Common.{refl, arith, ℕ, List, length, inr, ℤ}
use Rattle.mt_model.specs.Form.{Form}
use Rattle.mt_model.specs.Log.{Logged}
use Rattle.mt_model.specs.Timing.{Admissible}
use Rattle.skew_bounds.specs.Differences.{Differences}
use Rattle.skew_bounds.specs.Tight.{IsTight}
use Rattle.formula_arena.specs.Nodes.{nodes_of}
use Rattle.question.specs.Extremes.{extremes_of}
use Rattle.question.specs.Size.{IsSize, IsSmall, size_by}
use Rattle.question.specs.SizesFall.{AdmitsNoMore, SizesFall}
use Rattle.question.proofs.TightExtremes.{tight-extremes}

pub small-within : SizesFall → (log other : Logged) (f : Form) (times : List ℤ) (d : Differences) → Admissible other times → IsTight other d → IsSmall other (nodes_of f) → AdmitsNoMore log other → IsSmall log (nodes_of f)
small-within fall log other f times d admissible tight small no_more n is =
    let size : IsSize other (nodes_of f) (size_by (extremes_of d) (length other.rows) (nodes_of f)) =
    inr (record { consistent = record { timing = times; admissible = admissible }; extremes = extremes_of d; are = tight-extremes other d tight; size = refl }) in
    let le = fall log other (nodes_of f) n _ no_more is size in
    let most = small _ size in
    omega (arith, le, most)
