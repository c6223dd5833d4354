-- A log whose skews a file may state stays valid when it is widened.
use Rattle.std.proofs.Common.{ℕ, ◌≤◌, pos, ◌≤ℤ◌, arith}
use Rattle.std.proofs.lemmas.Int.{ints}
use Rattle.mt_model.specs.Log.{IsLog, Logged}
use Rattle.mt_model.proofs.GreaterSkews.{log-widened}
use Rattle.least_skew.specs.Least.{HasWrittenSkews, wide}
use Rattle.least_skew.specs.declared.widening.TheConstants.{MAX_WIDENING}

at-least : (s : ℕ) → pos 0 ≤ℤ pos s
at-least s = omega (arith, ints)

pub wide-valid : (log : Logged) (s : ℕ) → IsLog log → HasWrittenSkews log → s ≤ MAX_WIDENING → IsLog (wide s log)
wide-valid log s valid written range =
    log-widened (pos s) (at-least s) log valid
    (λ k d below. let one = written.hosts k d below in omega (arith, ints, one, range))
    (λ k d below. let one = written.resyncs k d below in omega (arith, ints, one, range))
