-- The times of the rows, and behind them the offsets of the clocks.
use Rattle.std.proofs.Common.{◌≡◌, ◌∙◌, sym, ap, ℕ, ◌+◌, ◌<◌, List, ◌++◌, length, ℤ, pos, arith}
use Rattle.std.specs.Prelude.{slice_index_or}
use Rattle.std.proofs.lemmas.List.{get_or-append-add, get_or_append_left}
use Rattle.mt_model.specs.Log.{Logged}
use Rattle.mt_model.specs.Timing.{time_of}

module _ (log : Logged) (t offsets : List ℤ) (count : length t ≡ length log.rows) where
  pub row-time : (e : ℕ) → e < length log.rows → time_of (t ++ offsets) e ≡ time_of t e
  row-time e within = get_or_append_left t offsets (pos 0) e (omega (arith, count, within))

  pub clock-time : (k : ℕ) → time_of (t ++ offsets) (length log.rows + k) ≡ time_of offsets k
  clock-time k = ap (λ n. slice_index_or (t ++ offsets) (n + k) (pos 0)) (sym count) ∙ get_or-append-add t offsets k (pos 0)
