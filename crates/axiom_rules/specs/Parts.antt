-- What rules write, part by part, and the clause of it.
use Rattle.std.specs.Prelude.{ℕ, ◌==◌, Bool, true, false, not, ◌||◌, if◌then◌else◌, List, [], ◌∷◌, filter, Option, Some, None, Result, Ok, Err, ℤ, pos, ◌-ℤ◌, neg_ℤ, int_le}
use Rattle.std.specs.List.{filter_map, list_any}
use Rattle.axiom_rules.specs.declared.fault.RuleFault.{RuleFault}
use Rattle.axiom_rules.specs.declared.fault.RuleFault.TheVariants.{Trivial}
use Rattle.axiom_rules.specs.declared.literal.Literal.{Literal}
use Rattle.axiom_rules.specs.declared.part.Part.{Part}
use Rattle.axiom_rules.specs.declared.part.Part.TheVariants.{Says, Known}
use Rattle.axiom_rules.specs.Literals.{has_literal, negated, no, one_instant, order_literal, same_literal, yes}

-- t_e - t_f <= c; of one event twice it is known
abbrev pub order : ℕ → ℕ → ℤ → Part
order e f c = if e == f then Known (int_le (pos 0) c) else Says (order_literal e f c)

-- not t_e - t_f <= c, which is t_f - t_e <= -c - 1
abbrev pub not_order : ℕ → ℕ → ℤ → Part
not_order e f c = order f e (neg_ℤ c -ℤ pos 1)

-- t_e <= t_f
abbrev pub not_after : ℕ → ℕ → Part
not_after e f = order e f (pos 0)

-- not t_e <= t_f
abbrev pub after : ℕ → ℕ → Part
after e f = not_order e f (pos 0)

-- t_e = t_x; of one event twice it is known
abbrev pub same : ℕ → ℕ → Part
same e x = if e == x then Known true else Says (yes (one_instant e x))

-- not t_e = t_x
abbrev pub not_same : ℕ → ℕ → Part
not_same e x = if e == x then Known false else Says (no (one_instant e x))

abbrev pub literal_in : Part → Option Literal
literal_in (Says l) = Some l
literal_in (Known b) = None

abbrev pub is_true : Part → Bool
is_true (Says l) = false
is_true (Known b) = b

-- the literals in the order written; constants are left out
abbrev pub literals_in : List Part → List Literal
literals_in parts = filter_map literal_in parts

-- a literal and its negation both stand in the list
abbrev pub opposes_itself : List Literal → Bool
opposes_itself ls = list_any (λ l. has_literal ls (negated l)) ls

-- each literal of a list once, where it first stands
abbrev pub each_once : List Literal → List Literal
each_once [] = []
each_once (l ∷ ls) = l ∷ filter (λ m. not (same_literal m l)) (each_once ls)

-- the clause of what is written; it is trivial where a constant is true or a literal meets its negation
abbrev pub clause_of_parts : List Part → Result (List Literal) RuleFault
clause_of_parts parts = if list_any is_true parts || opposes_itself (literals_in parts) then Err Trivial else Ok (each_once (literals_in parts))

-- what a rule writes, or its fault
abbrev pub Written : Type 0
Written = Result (List Part) RuleFault

-- the clause of what a rule writes
abbrev pub clause_of_written : Written → Result (List Literal) RuleFault
clause_of_written (Ok parts) = clause_of_parts parts
clause_of_written (Err fault) = Err fault
