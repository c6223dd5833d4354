-- That a problem is no larger where no more timings are admissible.
use Rattle.std.specs.Prelude.{◌≡◌, ℕ, ◌≤◌, List, length, ℤ}
use Rattle.mt_model.specs.Form.{Form}
use Rattle.mt_model.specs.Log.{Logged}
use Rattle.mt_model.specs.Timing.{Admissible}
use Rattle.question.specs.Size.{IsSize}

-- one log has as many rows as another, and each timing that it admits the other one admits too
pub record AdmitsNoMore (log other : Logged) : Type 0 where
  pub rows : length log.rows ≡ length other.rows
  pub admits : (t : List ℤ) → Admissible log t → Admissible other t

-- the size of the problem of a log isn't above that of one that admits what it admits
abbrev pub SizesFall : Type 0
SizesFall = (log other : Logged) (trees : List Form) (m n : ℕ) → AdmitsNoMore log other → IsSize log trees m → IsSize other trees n → m ≤ n
