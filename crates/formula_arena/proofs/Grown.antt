-- What an arena answers, where trees are added to it one after another.
use Rattle.std.proofs.Common.{◌≡◌, ℕ, ◌<◌, List, [], length, Result, Ok, Err, IfOk, IsErr, sym, subst}
use Rattle.std.proofs.lemmas.List.{append-nil}
use Rattle.mt_model.specs.Form.{Form}
use Rattle.formula_arena.specs.declared.fault.ArenaFault.{ArenaFault}
use Rattle.formula_arena.specs.declared.fault.ArenaFault.TheVariants.{TooManyNodes}
use Rattle.formula_arena.specs.declared.arena.TheConstants.{MAX_NODES}
use Rattle.formula_arena.specs.Growth.{IsGrown, with_tree}
use Rattle.formula_arena.specs.Nodes.{IsAt}

-- a tree that is there
pub known : {old : List Form} {f : Form} {k : ℕ} → IsAt old k f → old ≡ with_tree old f → IsGrown old (with_tree old f) f (Ok k) old
known {old} at nodes = record { at = at; nodes = nodes; too_many = λ e. absurd (cc); kept = ([], sym (append-nil old)) }

-- a fault that leaves the trees as they were
pub unchanged : {old all : List Form} {f : Form} (s : Result ℕ ArenaFault) → IsErr s → (s ≡ Err TooManyNodes → MAX_NODES < length all) → IsGrown old all f s old
unchanged (Ok k) fault too_many = absurd (cc)
unchanged {old} (Err e) fault too_many = record { at = tt; nodes = tt; too_many = too_many; kept = ([], sym (append-nil old)) }

-- the same of an equal tree
pub same_tree : {old new : List Form} {f g : Form} {r : Result ℕ ArenaFault} → f ≡ g → IsGrown old (with_tree old f) f r new → IsGrown old (with_tree old g) g r new
same_tree {old} {new} {r = r} e grown = subst (λ h. IsGrown old (with_tree old h) h r new) e grown

-- the node that was answered is that of the tree
pub node_at : {old all new : List Form} {f : Form} {r : Result ℕ ArenaFault} {k : ℕ} → IsGrown old all f r new → r ≡ Ok k → IsAt new k f
node_at {new = new} {f = f} grown was = subst (λ x. IfOk x (λ id. IsAt new id f)) was grown.at
