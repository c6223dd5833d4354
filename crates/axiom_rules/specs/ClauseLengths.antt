-- How many literals the clause of a rule has at most.
use Rattle.std.specs.Prelude.{ℕ, ◌+◌, Bool, true, false, if◌then◌else◌, length}
use Rattle.std.specs.Option.{option_map_or}
use Rattle.axiom_rules.specs.Clauses.{EachEvent, EachPulse, Five, Two, Width, width_of}
use Rattle.axiom_rules.specs.Sought.{Sought}

-- whether clauses of this width may have a literal for each event: a proposition has at most one pulse a row
abbrev pub is_wide : Width → Bool
is_wide Two = false
is_wide Five = false
is_wide EachPulse = true
is_wide EachEvent = true

-- whether the clauses of the rules of a number may
abbrev pub is_of_each_event : ℕ → Bool
is_of_each_event number = option_map_or is_wide (width_of number) false

-- no clause of a rule of a number has more literals
abbrev pub most_literals : Sought → ℕ → ℕ
most_literals s number = if is_of_each_event number then length s.log.rows + 5 else 5
