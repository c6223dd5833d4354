-- The rules that are kept, in the order of their numbers and their arguments.
use Rattle.std.specs.Prelude.{ℕ, ◌+◌, Bool, true, false, not, ◌&&◌, if◌then◌else◌, List, [], ◌∷◌, filter, length, map, is_ok, slice_index}
use Rattle.std.specs.List.{flat_map, range_with_len}
use Rattle.std.specs.Option.{option_map_or}
use Rattle.skew_bounds.specs.Differences.{Differences}
use Rattle.axiom_rules.specs.declared.rule.Argument.{Argument}
use Rattle.axiom_rules.specs.declared.rule.Argument.TheVariants.{ANode, AnEvent, AChange, APulse, Unused}
use Rattle.axiom_rules.specs.declared.rule.Rule.{Rule}
use Rattle.axiom_rules.specs.declared.rule.Subject.{Subject}
use Rattle.axiom_rules.specs.declared.rule.Subject.TheVariants as about
use Rattle.axiom_rules.specs.declared.rule.TheConstants.{MAX_RULE}
use Rattle.axiom_rules.specs.Clauses.{clause_of, row_of, subject_of}
use Rattle.axiom_rules.specs.Rules.{is_pulse_row}
use Rattle.axiom_rules.specs.Sought.{Sought}
use Rattle.question.specs.Extremes.{extremes_of}
use Rattle.mtl_encode.specs.Needless.{is_needless}

-- the rule of a number with four arguments
abbrev pub rule_at : ℕ → ℕ → ℕ → ℕ → ℕ → Rule
rule_at number a b c d = record { number = number; args = a ∷ b ∷ c ∷ d ∷ [] }

-- a rule, if it has a clause and isn't left out
abbrev pub kept : Sought → (Rule → Bool) → Rule → List Rule
kept s out rule = if is_ok (clause_of s rule) && not (out rule) then rule ∷ [] else []

-- what a table of differences leaves out
abbrev pub out_by : Differences → Sought → Rule → Bool
out_by d s = is_needless (extremes_of d) s

-- whether a rule is about an until or a since
abbrev pub is_reach : Subject → Bool
is_reach about.Reach = true
is_reach _ = false

abbrev pub is_of_reach : ℕ → Bool
is_of_reach number = option_map_or is_reach (subject_of number) false

-- whether a rule is about pairs of events of which one is a pulse
abbrev pub is_instant : Subject → Bool
is_instant about.Instant = true
is_instant _ = false

abbrev pub is_of_pulses : ℕ → Bool
is_of_pulses number = option_map_or is_instant (subject_of number) false

-- the pulse rows of the log, of whatever proposition
abbrev pub pulse_rows : Sought → List ℕ
pulse_rows s = filter (is_pulse_row s.log) (range_with_len 0 (length s.log.rows))

-- one more than the greatest argument of its kind; a proposition has at most one change or pulse a row
abbrev pub count_of : Sought → Argument → ℕ
count_of s ANode = length s.trees
count_of s AnEvent = length s.log.rows
count_of s AChange = length s.log.rows
count_of s APulse = length s.log.rows
count_of s Unused = 1

-- the rules of a number that are kept, with their last arguments below these counts
module _ (s : Sought) (out : Rule → Bool) (number : ℕ) (counts : List ℕ) where
  abbrev pub with_three : ℕ → ℕ → ℕ → List Rule
  with_three a b c = flat_map (λ d. kept s out (rule_at number a b c d)) (range_with_len 0 (slice_index counts 3))

  abbrev pub with_two : ℕ → ℕ → List Rule
  with_two a b = flat_map (with_three a b) (range_with_len 0 (slice_index counts 2))

  abbrev pub with_one : ℕ → List Rule
  with_one a = flat_map (with_two a) (range_with_len 0 (slice_index counts 1))

  abbrev pub with_none : List Rule
  with_none = flat_map with_one (range_with_len 0 (slice_index counts 0))

-- the rules of a number that a table of differences leaves, with arguments below these counts
abbrev pub left_by : Differences → Sought → ℕ → List ℕ → List Rule
left_by d s number counts = with_none s (out_by d s) number counts

-- the same of those with these first three arguments
abbrev pub three_left_by : Differences → Sought → ℕ → List ℕ → ℕ → ℕ → ℕ → List Rule
three_left_by d s number counts a b c = with_three s (out_by d s) number counts a b c

-- the rules of a number that are kept
abbrev pub of_number : Sought → (Rule → Bool) → ℕ → List Rule
of_number s out number = option_map_or (λ row. with_none s out number (map (count_of s) row.arguments)) (row_of number) []

-- all rules that are kept
abbrev pub instances : Sought → (Rule → Bool) → List Rule
instances s out = flat_map (of_number s out) (range_with_len 0 (MAX_RULE + 1))
