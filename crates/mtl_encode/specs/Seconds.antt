-- Which second arguments of rules are gone through.
use Rattle.std.specs.Prelude.{◌≡◌, ◌≤◌, ℕ, List, length, map, Some, option_map}
use Rattle.std.specs.List.{range_with_len}
use Rattle.axiom_rules.specs.Clauses.{row_of}
use Rattle.axiom_rules.specs.Sought.{Sought}
use Rattle.mtl_encode.specs.declared.pulses.Events.{Events}
use Rattle.mtl_encode.specs.Instances.{count_of, pulse_rows}

-- the events of the log, of which there are some, and its pulses
pub record AreEvents (s : Sought) (events : Events) : Type 0 where
  pub some : 1 ≤ length s.log.rows
  pub all : events.all.items ≡ range_with_len 0 (length s.log.rows)
  pub pulses : events.pulses.items ≡ pulse_rows s

-- the numbers below which the arguments of the rules of a number are
abbrev pub AreCounts : Sought → ℕ → List ℕ → Type 0
AreCounts s number counts = Some counts ≡ option_map (λ row. map (count_of s) row.arguments) (row_of number)
