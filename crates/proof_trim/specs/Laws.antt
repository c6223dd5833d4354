-- Laws of trimmed lines.
use Rattle.std.specs.Prelude.{◌≡◌, ℕ, Bool, List, []}
use Rattle.mt_model.specs.Form.{Form}
use Rattle.mt_model.specs.Log.{Logged}
use Rattle.proof_log.specs.declared.line.Line.{Line}
use Rattle.proof_log.specs.Derivations.{Refutes}
use Rattle.proof_trim.specs.Needed.{IsFirstForward}
use Rattle.proof_trim.specs.Trimmed.{IsTrimOf, KeepsRefuting}

-- what lines refute, the needed ones of them refute
abbrev pub TrimsKeepRefuting : Type 0
TrimsKeepRefuting = (lines trimmed : List Line) → IsTrimOf lines trimmed → KeepsRefuting lines trimmed

-- lines can be trimmed: there is one, and no hint names a line that does not come before its own
pub record CanBeTrimmed (lines : List Line) : Type 0 where
  pub some : lines ≡ [] → ⊥
  pub back : (n : ℕ) → IsFirstForward lines n → ⊥

-- lines that refute a value can be trimmed
abbrev pub RefutingCanBeTrimmed : Type 0
RefutingCanBeTrimmed = (log : Logged) (f : Form) (v : Bool) (lines : List Line) → Refutes log f v lines → CanBeTrimmed lines
