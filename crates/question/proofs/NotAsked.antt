-- Formulas that aren't asked.
use Rattle.std.proofs.Common.{◌≡◌, ◌<◌, length, None, Err}
use Rattle.std.specs.Prelude.{Result}
use Rattle.mt_model.specs.Form.{Form}
use Rattle.mt_model.specs.Log.{Logged}
use Rattle.mt_model.specs.State.{unknown_host}
use Rattle.formula_arena.specs.declared.arena.TheConstants.{MAX_NODES}
use Rattle.formula_arena.specs.declared.fault.ArenaFault.{ArenaFault}
use Rattle.formula_arena.specs.declared.fault.ArenaFault.TheVariants as arena
use Rattle.formula_arena.specs.Nodes.{nodes_of}
use Rattle.question.specs.declared.fault.QuestionFault.{QuestionFault}
use Rattle.question.specs.Faults.{IsFault, IsOfArena}

-- where a formula whose hosts are known gets a fault of the arena, the fault says why it isn't asked
pub of_arena : {X : Type 0} (log : Logged) (f : Form) (r : Result X ArenaFault) (a : ArenaFault) (v : QuestionFault) → r ≡ Err a → unknown_host log f ≡ None
    → (r ≡ Err arena.TooManyNodes → MAX_NODES < length (nodes_of f)) → IsOfArena a v → IsFault log f v
of_arena log f r arena.TooManyNodes v fault hosts many is = rw is (record { hosts = hosts; many = many fault })
of_arena log f r arena.Memory v fault hosts many is = rw is tt
