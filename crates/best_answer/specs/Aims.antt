-- What searches for an aim find.
use Rattle.std.specs.Prelude.{List, ℤ}
use Rattle.mt_model.specs.Log.{Logged}
use Rattle.proof_log.specs.declared.line.Line.{Line}
use Rattle.proof_log.specs.Derivations.{Refutes}
use Rattle.cdcl_core.specs.declared.value.Searched.{Searched}
use Rattle.cdcl_core.specs.Values.{GivesValue, IsSearched, RefutesWithin, SpendsWithin}
use Rattle.best_answer.specs.declared.aim.Aim.{Aim}

-- of a log, which is that of the aim or one made of it
module _ (a : Aim) (log : Logged) where
  -- the timing is admissible, and gives the value
  abbrev pub Gives : List ℤ → Type 0
  Gives t = GivesValue log a.nodes.now a.value t

  -- the lines refute the value
  abbrev pub AreRefuting : List Line → Type 0
  AreRefuting lines = Refutes log a.nodes.now a.value lines

  -- they refute it within the budget
  abbrev pub RefuteWithin : List Line → Type 0
  RefuteWithin lines = RefutesWithin log a.nodes.now a.value a.budget lines

  -- the lines spend the budget
  abbrev pub Spend : List Line → Type 0
  Spend lines = SpendsWithin log a.nodes.now a.value a.budget lines

  -- a search found this
  abbrev pub IsFound : Searched → Type 0
  IsFound found = IsSearched log a.nodes.now a.value a.budget found
