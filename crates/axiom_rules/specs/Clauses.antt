-- The table of the rules, and the clause of a rule, by its number and its arguments.
use Rattle.std.specs.Prelude.{ℕ, zero, suc, ◌==◌, nat_lt, Bool, true, false, ◌&&◌, if◌then◌else◌, List, [], ◌∷◌, length, count_by, Option, None, Result, Err, slice_get, slice_index_or, map, option_map}
use Rattle.std.specs.Option.{option_map_or}
use Rattle.axiom_rules.specs.declared.fault.RuleFault.{RuleFault}
use Rattle.axiom_rules.specs.declared.fault.RuleFault.TheVariants.{NoRule, Range}
use Rattle.axiom_rules.specs.declared.literal.Literal.{Literal}
use Rattle.axiom_rules.specs.declared.needless.Needless.{Needless}
use Rattle.axiom_rules.specs.declared.needless.Needless.TheVariants.{Never, NeverLater, NeverFirst, Reaches}
use Rattle.axiom_rules.specs.declared.needless.OfReach.TheVariants.{AlwaysFrom, AlwaysUpTo, Dead, DeadOrFree, NotWithin, NotPast, FreeOrNotBefore, Free}
use Rattle.axiom_rules.specs.declared.rule.Argument.{Argument}
use Rattle.axiom_rules.specs.declared.rule.Argument.TheVariants.{ANode, AnEvent, AChange, APulse, Unused}
use Rattle.axiom_rules.specs.declared.rule.Arguments.{Arguments}
use Rattle.axiom_rules.specs.declared.rule.Rule.{Rule}
use Rattle.axiom_rules.specs.declared.rule.Subject.{Subject}
use Rattle.axiom_rules.specs.declared.rule.Subject.TheVariants as about
use Rattle.axiom_rules.specs.Parts.{Written, clause_of_written}
use Rattle.axiom_rules.specs.Sought.{Sought}
use Rattle.axiom_rules.specs.Rules.{rule_1, rule_2, rule_3, rule_4, rule_5, rule_6, rule_7, rule_8, rule_9, rule_10, rule_11, rule_12, rule_13, rule_14, rule_15, rule_16, rule_17, rule_18, rule_19, rule_20, rule_21, rule_22, rule_23, rule_24, rule_25, rule_26, rule_27, rule_28}

-- a row of the table: what the four arguments are, and what is written for them
pub record Row : Type 0 where
  pub arguments : List Argument
  pub writes : Sought → List ℕ → Written

-- how many literals the clauses of a rule have at most: two, five, five and one for each pulse of their proposition, five and one for each event
pub data Width : Type 0 where
  Two : Width
  Five : Width
  EachPulse : Width
  EachEvent : Width

-- a rule: what it is about, its row, how many literals its clauses have at most, and which of its instances are needless
pub record Schema : Type 0 where
  pub subject : Subject
  pub row : Row
  pub width : Width
  pub needless : Needless

abbrev pub schema : Subject → Row → Width → Needless → Schema
schema subject row width needless = record { subject = subject; row = row; width = width; needless = needless }

-- an argument by its place
abbrev pub arg : List ℕ → ℕ → ℕ
arg args place = slice_index_or args place 0

-- rows without an argument, of an event, of two events
abbrev pub of_nothing : (Sought → Written) → Row
of_nothing write = record { arguments = Unused ∷ Unused ∷ Unused ∷ Unused ∷ []; writes = λ s args. write s }

abbrev pub of_event : (Sought → ℕ → Written) → Row
of_event write = record { arguments = AnEvent ∷ Unused ∷ Unused ∷ Unused ∷ []; writes = λ s args. write s (arg args 0) }

abbrev pub of_events : (Sought → ℕ → ℕ → Written) → Row
of_events write = record { arguments = AnEvent ∷ AnEvent ∷ Unused ∷ Unused ∷ []; writes = λ s args. write s (arg args 0) (arg args 1) }

-- rows of a node and an event, two or three events, an event and a change, an event and a pulse
abbrev pub of_node_event : (Sought → ℕ → ℕ → Written) → Row
of_node_event write = record { arguments = ANode ∷ AnEvent ∷ Unused ∷ Unused ∷ []; writes = λ s args. write s (arg args 0) (arg args 1) }

abbrev pub of_node_events : (Sought → ℕ → ℕ → ℕ → Written) → Row
of_node_events write = record { arguments = ANode ∷ AnEvent ∷ AnEvent ∷ Unused ∷ []; writes = λ s args. write s (arg args 0) (arg args 1) (arg args 2) }

abbrev pub of_node_three_events : (Sought → ℕ → ℕ → ℕ → ℕ → Written) → Row
of_node_three_events write = record { arguments = ANode ∷ AnEvent ∷ AnEvent ∷ AnEvent ∷ []; writes = λ s args. write s (arg args 0) (arg args 1) (arg args 2) (arg args 3) }

abbrev pub of_node_event_change : (Sought → ℕ → ℕ → ℕ → Written) → Row
of_node_event_change write = record { arguments = ANode ∷ AnEvent ∷ AChange ∷ Unused ∷ []; writes = λ s args. write s (arg args 0) (arg args 1) (arg args 2) }

abbrev pub of_node_event_pulse : (Sought → ℕ → ℕ → ℕ → Written) → Row
of_node_event_pulse write = record { arguments = ANode ∷ AnEvent ∷ APulse ∷ Unused ∷ []; writes = λ s args. write s (arg args 0) (arg args 1) (arg args 2) }

-- the rules by their numbers, which count from 1
abbrev pub table : List Schema
table =
    schema about.Proposition (of_node_event rule_1) EachPulse Never
    ∷ schema about.Proposition (of_node_event_change rule_2) EachPulse Never
    ∷ schema about.Constant (of_node_event rule_3) Two Never
    ∷ schema about.Negation (of_node_event rule_4) Two Never
    ∷ schema about.Negation (of_node_event rule_5) Two Never
    ∷ schema about.Conjunction (of_node_event rule_6) Two Never
    ∷ schema about.Conjunction (of_node_event rule_7) Two Never
    ∷ schema about.Conjunction (of_node_event rule_8) Five Never
    ∷ schema about.First (of_events rule_9) Two NeverLater
    ∷ schema about.First (of_event rule_10) EachEvent NeverFirst
    ∷ schema about.First (of_nothing rule_11) EachEvent Never
    ∷ schema about.Reach (of_node_events rule_12) Two (Reaches AlwaysFrom)
    ∷ schema about.Reach (of_node_events rule_13) Two (Reaches AlwaysUpTo)
    ∷ schema about.Reach (of_node_events rule_14) Two (Reaches Dead)
    ∷ schema about.Reach (of_node_events rule_15) Two (Reaches DeadOrFree)
    ∷ schema about.Reach (of_node_events rule_16) Five (Reaches DeadOrFree)
    ∷ schema about.Reach (of_node_event rule_17) EachEvent Never
    ∷ schema about.Reach (of_node_events rule_18) Two (Reaches Dead)
    ∷ schema about.Reach (of_node_three_events rule_19) Five (Reaches NotWithin)
    ∷ schema about.Reach (of_node_events rule_20) EachEvent (Reaches DeadOrFree)
    ∷ schema about.Reach (of_node_three_events rule_21) Five (Reaches NotPast)
    ∷ schema about.Reach (of_node_events rule_22) Two (Reaches FreeOrNotBefore)
    ∷ schema about.Reach (of_node_events rule_23) Two (Reaches Free)
    ∷ schema about.Value (of_event rule_24) Two NeverFirst
    ∷ schema about.Instant (of_events rule_25) Two Never
    ∷ schema about.Instant (of_events rule_26) Five Never
    ∷ schema about.Proposition (of_node_event_pulse rule_27) Two Never
    ∷ schema about.Reach (of_node_events rule_28) Five (Reaches Dead)
    ∷ []

abbrev pub schema_of : ℕ → Option Schema
schema_of zero = None
schema_of (suc n) = slice_get table n

-- what a rule of a number is about, how many literals its clauses have at most, and which of its instances are needless
abbrev pub subject_of : ℕ → Option Subject
subject_of number = option_map (λ rule. rule.subject) (schema_of number)

abbrev pub width_of : ℕ → Option Width
width_of number = option_map (λ rule. rule.width) (schema_of number)

abbrev pub needless_of : ℕ → Option Needless
needless_of number = option_map (λ rule. rule.needless) (schema_of number)

-- arguments in order
abbrev pub arguments_in : Arguments → List Argument
arguments_in arguments = arguments.0 ∷ arguments.1 ∷ arguments.2 ∷ arguments.3 ∷ []

-- the rows by their numbers
abbrev pub rows : List Row
rows = map (λ rule. rule.row) table

-- the row of a number
abbrev pub row_of : ℕ → Option Row
row_of zero = None
row_of (suc n) = slice_get rows n

-- whether an argument is used
abbrev pub is_used : Argument → Bool
is_used ANode = true
is_used AnEvent = true
is_used AChange = true
is_used APulse = true
is_used Unused = false

-- how many arguments the rule of a number uses, which are its first ones; none where there is no such rule
abbrev pub argument_count : ℕ → ℕ
argument_count number = option_map_or (λ row. count_by is_used row.arguments) (row_of number) 0

-- a node or an event is there, and an argument that is not used is 0; a change or a pulse is looked for by the rule
abbrev pub is_there : Sought → Argument → ℕ → Bool
is_there s ANode k = nat_lt k (length s.trees)
is_there s AnEvent e = nat_lt e (length s.log.rows)
is_there s AChange place = true
is_there s APulse place = true
is_there s Unused n = n == 0

-- each argument is there
abbrev pub are_there : Sought → List Argument → List ℕ → Bool
are_there s [] [] = true
are_there s [] (n ∷ args) = false
are_there s (a ∷ as_) [] = false
are_there s (a ∷ as_) (n ∷ args) = is_there s a n && are_there s as_ args

-- what the row of a rule's number writes for its arguments
abbrev pub written_by : Sought → Rule → Written
written_by s rule = option_map_or (λ row. row.writes s rule.args) (row_of rule.number) (Err NoRule)

-- the clause of a rule, or why it has none
abbrev pub clause_of : Sought → Rule → Result (List Literal) RuleFault
clause_of s rule = option_map_or (λ row. if are_there s row.arguments rule.args then clause_of_written (row.writes s rule.args) else Err Range) (row_of rule.number) (Err NoRule)
