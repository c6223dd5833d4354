-- Clauses that grow by those of further rules.
use Rattle.std.specs.Prelude.{◌≡◌, ℕ, ◌+◌, ◌^◌, ◌≤◌, List, [], ◌∷◌, ◌++◌, length, sum_by, All, Any, Some, slice_get}
use Rattle.std.specs.Option.{option_map_or}
use Rattle.clause_db.specs.Clauses.{clause_at}
use Rattle.axiom_rules.specs.declared.literal.Atom.{Atom}
use Rattle.axiom_rules.specs.declared.literal.Literal.{Literal}
use Rattle.axiom_rules.specs.declared.rule.Rule.{Rule}
use Rattle.axiom_rules.specs.Atoms.{with_atom}
use Rattle.axiom_rules.specs.Clauses.{EachEvent, EachPulse, Five, Two, Width, arg, width_of}
use Rattle.axiom_rules.specs.NodeShapes.{pulses_in, shape_at}
use Rattle.axiom_rules.specs.Sought.{Sought}
use Rattle.mtl_encode.specs.declared.clauses.Clauses.{Clauses}
use Rattle.mtl_encode.specs.Problems.{IsClauseOf, StandsIn}

-- the atoms, and those of these literals that aren't among them, in order
abbrev pub with_atoms : List Atom → List Literal → List Atom
with_atoms atoms [] = atoms
with_atoms atoms (l ∷ ls) = with_atoms (with_atom atoms l.atom) ls

-- how many pulses the proposition of a number has
abbrev pub pulse_count : Sought → ℕ → ℕ
pulse_count s k = option_map_or (λ pulses. length pulses) (pulses_in (shape_at s k)) 0

-- a clause of this width has no more literals, where its node is this one
abbrev pub most_of : Sought → ℕ → Width → ℕ
most_of s k Two = 2
most_of s k Five = 5
most_of s k EachPulse = pulse_count s k + 5
most_of s k EachEvent = length s.log.rows + 5

-- the clause of a rule has no more literals
abbrev pub most_in : Sought → Rule → ℕ
most_in s rule = option_map_or (most_of s (arg rule.args 0)) (width_of rule.number) 5

-- no more literals than this are in the clauses of these rules together
unfoldable pub most_literals_of : Sought → List Rule → ℕ
most_literals_of s rules = sum_by (most_in s) rules

-- the clauses of these rules have so few literals that there are variables for all their atoms
abbrev pub HasRoom : Sought → List Rule → Type 0
HasRoom s rules = most_literals_of s rules ≤ 2 ^ 29

-- the clauses are those of the rules, over the atoms in them
pub record AreClauses (s : Sought) (held : Clauses) : Type 0 where
  pub count : length held.rules ≡ length held.db
  pub clauses : (n : ℕ) (rule : Rule) → slice_get held.rules n ≡ Some rule → IsClauseOf s held.atoms rule (clause_at held.db n)
  pub atoms : All (λ a. Any (StandsIn s a) held.rules) held.atoms
  pub few : length held.atoms ≤ most_literals_of s held.rules

-- the clauses have become those of further rules too
pub record Gains (s : Sought) (old new : Clauses) (gained : List Rule) : Type 0 where
  pub rules : new.rules ≡ old.rules ++ gained
  pub clauses : AreClauses s new
