-- Clauses of small logs, worked out by hand.
use Rattle.std.proofs.Common.{◌≡◌, refl, ℕ, Bool, true, false, List, [], ◌∷◌, Some, None, Ok, Err, codes, ℤ, pos, negsuc}
use Rattle.std.specs.Prelude.{Result}
use Rattle.mt_model.specs.declared.log.Act.TheVariants as act
use Rattle.mt_model.specs.declared.tree.Interval.{Interval}
use Rattle.mt_model.specs.Form.{Form, True, Prop, Not, And, Until, Since}
use Rattle.mt_model.specs.Log.{Logged, plain_log}
use Rattle.axiom_rules.specs.declared.fault.RuleFault.{RuleFault}
use Rattle.axiom_rules.specs.declared.fault.RuleFault.TheVariants.{NoRule, Range, Kind, Trivial}
use Rattle.axiom_rules.specs.declared.literal.Atom.TheVariants.{Order, Node, First, Wit, Span, Gap}
use Rattle.axiom_rules.specs.declared.literal.Literal.{Literal}
use Rattle.axiom_rules.specs.Clauses.{clause_of}
use Rattle.axiom_rules.specs.Sought.{sought_of}
use Rattle.axiom_rules.specs.Holds.{clause_holds}
use Rattle.axiom_rules.specs.Literals.{no, order_literal, yes}
use Rattle.formula_arena.specs.Nodes.{nodes_of}

-- One host with an exact clock, and one row.

abbrev single : Logged
single =
    plain_log (record { name = codes "a"; skew = pos 0; gap = pos 0; least = 1; most = None } ∷ [])
    (record { host = 0; local = pos 10; act = act.Note (codes "n") } ∷ [])

abbrev single_clause : ℕ → List ℕ → Result (List Literal) RuleFault
single_clause number args = clause_of (sought_of single True false) (record { number = number; args = args })

single_true : single_clause 3 (0 ∷ 0 ∷ 0 ∷ 0 ∷ []) ≡ Ok (yes (Node 0 0) ∷ [])
single_true = refl

single_first : single_clause 11 (0 ∷ 0 ∷ 0 ∷ 0 ∷ []) ≡ Ok (yes (First 0) ∷ [])
single_first = refl

single_value : single_clause 24 (0 ∷ 0 ∷ 0 ∷ 0 ∷ []) ≡ Ok (no (First 0) ∷ no (Node 0 0) ∷ [])
single_value = refl

-- an event is not after itself
single_trivial : single_clause 9 (0 ∷ 0 ∷ 0 ∷ 0 ∷ []) ≡ Err Trivial
single_trivial = refl

single_kind : single_clause 4 (0 ∷ 0 ∷ 0 ∷ 0 ∷ []) ≡ Err Kind
single_kind = refl

single_range : single_clause 3 (1 ∷ 0 ∷ 0 ∷ 0 ∷ []) ≡ Err Range
single_range = refl

single_no_rule : single_clause 29 (0 ∷ 0 ∷ 0 ∷ 0 ∷ []) ≡ Err NoRule
single_no_rule = refl

-- no row is a pulse
no_pulse : single_clause 25 (0 ∷ 0 ∷ 0 ∷ 0 ∷ []) ≡ Err NoRule
no_pulse = refl

-- there is no rule 0, and the number is tested before the arguments
no_rule_0 : single_clause 0 (9 ∷ 9 ∷ 9 ∷ 9 ∷ []) ≡ Err NoRule
no_rule_0 = refl

-- an unused argument that is not 0
unused : single_clause 11 (0 ∷ 0 ∷ 0 ∷ 1 ∷ []) ≡ Err Range
unused = refl

-- an event that is not there
no_event : single_clause 9 (0 ∷ 1 ∷ 0 ∷ 0 ∷ []) ≡ Err Range
no_event = refl

-- Three rows of one host: a proposition is set, then cleared, and then there is a note. The nodes are 0 the
-- proposition, 1 its negation, 2 an until, 3 a since, 4 `true`, 5 the conjunction of 3 and 4, 6 that of 2 and 5.

abbrev three : Logged
three =
    plain_log (record { name = codes "a"; skew = pos 0; gap = pos 0; least = 1; most = None } ∷ [])
    (record { host = 0; local = pos 10; act = act.Set (codes "p") } ∷ record { host = 0; local = pos 11; act = act.Clear (codes "p") } ∷ record { host = 0; local = pos 12; act = act.Note (codes "p") } ∷ [])

abbrev p : Form
p = Prop (codes "a") (codes "p")

abbrev both_ways : Interval → Form
both_ways I = And (Until I p (Not p)) (And (Since I p (Not p)) True)

-- from 1 to 2
abbrev bounded : Interval
bounded = record { low = 1; high = Some 2 }

-- from 1 on
abbrev unbounded : Interval
unbounded = record { low = 1; high = None }

nodes : nodes_of (both_ways bounded) ≡ p ∷ Not p ∷ Until bounded p (Not p) ∷ Since bounded p (Not p) ∷ True ∷ And (Since bounded p (Not p)) True ∷ both_ways bounded ∷ []
nodes = refl

abbrev clause : ℕ → List ℕ → Result (List Literal) RuleFault
clause number args = clause_of (sought_of three (both_ways bounded) true) (record { number = number; args = args })

abbrev clause_from : ℕ → List ℕ → Result (List Literal) RuleFault
clause_from number args = clause_of (sought_of three (both_ways unbounded) false) (record { number = number; args = args })

-- t_e <= t_f where e is the smaller event, and where it is the greater one
smaller_first : order_literal 0 2 (pos 0) ≡ yes (Order 0 2 (pos 0))
smaller_first = refl

greater_first : order_literal 2 0 (pos 0) ≡ no (Order 0 2 (negsuc 0))
greater_first = refl

-- true only after the first change
first_change : clause 1 (0 ∷ 2 ∷ 0 ∷ 0 ∷ []) ≡ Ok (no (Node 0 2) ∷ yes (Order 0 2 (pos 0)) ∷ [])
first_change = refl

-- at the first change itself there is nothing to say
at_first_change : clause 1 (0 ∷ 0 ∷ 0 ∷ 0 ∷ []) ≡ Err Trivial
at_first_change = refl

-- a proposition that no row changes
never_changed : clause_of (sought_of single (Prop (codes "a") (codes "n")) true) (record { number = 1; args = 0 ∷ 0 ∷ 0 ∷ 0 ∷ [] }) ≡ Ok (no (Node 0 0) ∷ [])
never_changed = refl

-- a set with a later change
change_set : clause 2 (0 ∷ 2 ∷ 0 ∷ 0 ∷ []) ≡ Ok (no (Order 0 2 (pos 0)) ∷ yes (Order 1 2 (pos 0)) ∷ yes (Node 0 2) ∷ [])
change_set = refl

-- at the change itself, which is not after itself, the first part is left out
change_here : clause 2 (0 ∷ 0 ∷ 0 ∷ 0 ∷ []) ≡ Ok (no (Order 0 1 (negsuc 0)) ∷ yes (Node 0 0) ∷ [])
change_here = refl

-- a clear that is the last change
change_clear : clause 2 (0 ∷ 2 ∷ 1 ∷ 0 ∷ []) ≡ Ok (no (Order 1 2 (pos 0)) ∷ no (Node 0 2) ∷ [])
change_clear = refl

-- there are two changes
change_range : clause 2 (0 ∷ 2 ∷ 2 ∷ 0 ∷ []) ≡ Err Range
change_range = refl

-- the kind of the node is tested before the change
change_kind : clause 2 (1 ∷ 2 ∷ 2 ∷ 0 ∷ []) ≡ Err Kind
change_kind = refl

truth : clause 3 (4 ∷ 1 ∷ 0 ∷ 0 ∷ []) ≡ Ok (yes (Node 4 1) ∷ [])
truth = refl

not_both : clause 4 (1 ∷ 1 ∷ 0 ∷ 0 ∷ []) ≡ Ok (no (Node 1 1) ∷ no (Node 0 1) ∷ [])
not_both = refl

one_of_both : clause 5 (1 ∷ 1 ∷ 0 ∷ 0 ∷ []) ≡ Ok (yes (Node 1 1) ∷ yes (Node 0 1) ∷ [])
one_of_both = refl

left_of_and : clause 6 (6 ∷ 1 ∷ 0 ∷ 0 ∷ []) ≡ Ok (no (Node 6 1) ∷ yes (Node 2 1) ∷ [])
left_of_and = refl

right_of_and : clause 7 (6 ∷ 1 ∷ 0 ∷ 0 ∷ []) ≡ Ok (no (Node 6 1) ∷ yes (Node 5 1) ∷ [])
right_of_and = refl

and_of_both : clause 8 (6 ∷ 1 ∷ 0 ∷ 0 ∷ []) ≡ Ok (yes (Node 6 1) ∷ no (Node 2 1) ∷ no (Node 5 1) ∷ [])
and_of_both = refl

-- an equal literal stands once, where it first stands
and_of_same : clause_of (sought_of single (And True True) true) (record { number = 8; args = 1 ∷ 0 ∷ 0 ∷ 0 ∷ [] }) ≡ Ok (yes (Node 1 0) ∷ no (Node 0 0) ∷ [])
and_of_same = refl

first_before : clause 9 (1 ∷ 2 ∷ 0 ∷ 0 ∷ []) ≡ Ok (no (First 1) ∷ yes (Order 1 2 (pos 0)) ∷ [])
first_before = refl

first_before_earlier : clause 9 (2 ∷ 1 ∷ 0 ∷ 0 ∷ []) ≡ Ok (no (First 2) ∷ no (Order 1 2 (negsuc 0)) ∷ [])
first_before_earlier = refl

-- some other event is earlier
first_or_after : clause 10 (1 ∷ 0 ∷ 0 ∷ 0 ∷ []) ≡ Ok (yes (First 1) ∷ yes (Order 0 1 (negsuc 0)) ∷ no (Order 1 2 (pos 0)) ∷ [])
first_or_after = refl

some_first : clause 11 (0 ∷ 0 ∷ 0 ∷ 0 ∷ []) ≡ Ok (yes (First 0) ∷ yes (First 1) ∷ yes (First 2) ∷ [])
some_first = refl

-- Until at node 2, and since at node 3.

near_until : clause 12 (2 ∷ 0 ∷ 1 ∷ 0 ∷ []) ≡ Ok (no (Wit 2 0 1) ∷ yes (Order 0 1 (negsuc 0)) ∷ [])
near_until = refl

near_since : clause 12 (3 ∷ 0 ∷ 1 ∷ 0 ∷ []) ≡ Ok (no (Wit 3 0 1) ∷ no (Order 0 1 (pos 0)) ∷ [])
near_since = refl

-- an event is at least 1 from itself: known to be false, and left out
near_itself : clause 12 (2 ∷ 1 ∷ 1 ∷ 0 ∷ []) ≡ Ok (no (Wit 2 1 1) ∷ [])
near_itself = refl

far_until : clause 13 (2 ∷ 0 ∷ 1 ∷ 0 ∷ []) ≡ Ok (no (Wit 2 0 1) ∷ no (Order 0 1 (negsuc 2)) ∷ [])
far_until = refl

far_since : clause 13 (3 ∷ 0 ∷ 1 ∷ 0 ∷ []) ≡ Ok (no (Wit 3 0 1) ∷ yes (Order 0 1 (pos 2)) ∷ [])
far_since = refl

-- an event is at most 2 from itself
far_itself : clause 13 (2 ∷ 1 ∷ 1 ∷ 0 ∷ []) ≡ Err Trivial
far_itself = refl

-- no upper bound
far_unbounded : clause_from 13 (2 ∷ 1 ∷ 1 ∷ 0 ∷ []) ≡ Err NoRule
far_unbounded = refl

-- the kind is tested before the upper bound
far_kind : clause_from 13 (1 ∷ 1 ∷ 1 ∷ 0 ∷ []) ≡ Err Kind
far_kind = refl

right_until : clause 14 (2 ∷ 0 ∷ 1 ∷ 0 ∷ []) ≡ Ok (no (Wit 2 0 1) ∷ yes (Node 1 1) ∷ [])
right_until = refl

right_since : clause 14 (3 ∷ 0 ∷ 1 ∷ 0 ∷ []) ≡ Ok (no (Wit 3 0 1) ∷ yes (Node 1 1) ∷ [])
right_since = refl

span_until : clause 15 (2 ∷ 0 ∷ 1 ∷ 0 ∷ []) ≡ Ok (no (Wit 2 0 1) ∷ yes (Span 2 0 1) ∷ [])
span_until = refl

span_since : clause 15 (3 ∷ 0 ∷ 1 ∷ 0 ∷ []) ≡ Ok (no (Wit 3 0 1) ∷ yes (Span 3 0 1) ∷ [])
span_since = refl

witness_until : clause 16 (2 ∷ 0 ∷ 1 ∷ 0 ∷ []) ≡ Ok (yes (Wit 2 0 1) ∷ no (Order 0 1 (negsuc 0)) ∷ yes (Order 0 1 (negsuc 2)) ∷ no (Node 1 1) ∷ no (Span 2 0 1) ∷ [])
witness_until = refl

witness_since : clause 16 (3 ∷ 0 ∷ 1 ∷ 0 ∷ []) ≡ Ok (yes (Wit 3 0 1) ∷ yes (Order 0 1 (pos 0)) ∷ no (Order 0 1 (pos 2)) ∷ no (Node 1 1) ∷ no (Span 3 0 1) ∷ [])
witness_since = refl

-- no upper bound: its part is left out
witness_unbounded : clause_from 16 (2 ∷ 0 ∷ 1 ∷ 0 ∷ []) ≡ Ok (yes (Wit 2 0 1) ∷ no (Order 0 1 (negsuc 0)) ∷ no (Node 1 1) ∷ no (Span 2 0 1) ∷ [])
witness_unbounded = refl

some_witness_until : clause 17 (2 ∷ 0 ∷ 0 ∷ 0 ∷ []) ≡ Ok (no (Node 2 0) ∷ yes (Wit 2 0 0) ∷ yes (Wit 2 0 1) ∷ yes (Wit 2 0 2) ∷ [])
some_witness_until = refl

some_witness_since : clause 17 (3 ∷ 2 ∷ 0 ∷ 0 ∷ []) ≡ Ok (no (Node 3 2) ∷ yes (Wit 3 2 0) ∷ yes (Wit 3 2 1) ∷ yes (Wit 3 2 2) ∷ [])
some_witness_since = refl

from_witness_until : clause 18 (2 ∷ 0 ∷ 1 ∷ 0 ∷ []) ≡ Ok (yes (Node 2 0) ∷ no (Wit 2 0 1) ∷ [])
from_witness_until = refl

from_witness_since : clause 18 (3 ∷ 0 ∷ 1 ∷ 0 ∷ []) ≡ Ok (yes (Node 3 0) ∷ no (Wit 3 0 1) ∷ [])
from_witness_since = refl

over_span_until : clause 19 (2 ∷ 0 ∷ 2 ∷ 1 ∷ []) ≡ Ok (no (Span 2 0 2) ∷ no (Order 0 1 (pos 0)) ∷ no (Order 1 2 (negsuc 0)) ∷ yes (Node 0 1) ∷ [])
over_span_until = refl

over_span_since : clause 19 (3 ∷ 0 ∷ 2 ∷ 1 ∷ []) ≡ Ok (no (Span 3 0 2) ∷ yes (Order 0 1 (negsuc 0)) ∷ yes (Order 1 2 (pos 0)) ∷ yes (Node 0 1) ∷ [])
over_span_since = refl

-- from an event up to itself there is nothing: a literal meets its negation
over_empty_span : clause 19 (2 ∷ 0 ∷ 0 ∷ 1 ∷ []) ≡ Err Trivial
over_empty_span = refl

span_or_gap_until : clause 20 (2 ∷ 0 ∷ 1 ∷ 0 ∷ []) ≡ Ok (yes (Span 2 0 1) ∷ yes (Gap 2 0 0) ∷ yes (Gap 2 0 1) ∷ yes (Gap 2 0 2) ∷ [])
span_or_gap_until = refl

span_or_gap_since : clause 20 (3 ∷ 0 ∷ 1 ∷ 0 ∷ []) ≡ Ok (yes (Span 3 0 1) ∷ yes (Gap 3 0 0) ∷ yes (Gap 3 0 1) ∷ yes (Gap 3 0 2) ∷ [])
span_or_gap_since = refl

up_to_gap_until : clause 21 (2 ∷ 0 ∷ 1 ∷ 2 ∷ []) ≡ Ok (no (Gap 2 0 2) ∷ no (Order 1 2 (pos 0)) ∷ yes (Span 2 0 1) ∷ [])
up_to_gap_until = refl

up_to_gap_since : clause 21 (3 ∷ 0 ∷ 1 ∷ 2 ∷ []) ≡ Ok (no (Gap 3 0 2) ∷ yes (Order 1 2 (negsuc 0)) ∷ yes (Span 3 0 1) ∷ [])
up_to_gap_since = refl

gap_from_until : clause 22 (2 ∷ 0 ∷ 1 ∷ 0 ∷ []) ≡ Ok (no (Gap 2 0 1) ∷ yes (Order 0 1 (pos 0)) ∷ [])
gap_from_until = refl

gap_from_since : clause 22 (3 ∷ 0 ∷ 1 ∷ 0 ∷ []) ≡ Ok (no (Gap 3 0 1) ∷ no (Order 0 1 (negsuc 0)) ∷ [])
gap_from_since = refl

gap_fails_until : clause 23 (2 ∷ 0 ∷ 1 ∷ 0 ∷ []) ≡ Ok (no (Gap 2 0 1) ∷ no (Node 0 1) ∷ [])
gap_fails_until = refl

gap_fails_since : clause 23 (3 ∷ 0 ∷ 1 ∷ 0 ∷ []) ≡ Ok (no (Gap 3 0 1) ∷ no (Node 0 1) ∷ [])
gap_fails_since = refl

-- the value sought at a first event
sought_true : clause 24 (1 ∷ 0 ∷ 0 ∷ 0 ∷ []) ≡ Ok (no (First 1) ∷ yes (Node 6 1) ∷ [])
sought_true = refl

sought_false : clause_from 24 (1 ∷ 0 ∷ 0 ∷ 0 ∷ []) ≡ Ok (no (First 1) ∷ no (Node 6 1) ∷ [])
sought_false = refl

-- until and since ask for an until or a since
witness_kind : clause 12 (6 ∷ 0 ∷ 1 ∷ 0 ∷ []) ≡ Err Kind
witness_kind = refl

-- What atoms mean at the times 10, 11 and 12, where the proposition holds at event 0 alone.

abbrev times : List ℤ
times = pos 10 ∷ pos 11 ∷ pos 12 ∷ []

abbrev holds : List Literal → Bool
holds c = clause_holds three times (nodes_of (both_ways bounded)) c

first_0 : holds (yes (First 0) ∷ []) ≡ true
first_0 = refl

first_1 : holds (yes (First 1) ∷ []) ≡ false
first_1 = refl

-- the proposition holds from event 0 on up to event 1, and not up to event 2
span_1 : holds (yes (Span 2 0 1) ∷ []) ≡ true
span_1 = refl

span_2 : holds (yes (Span 2 0 2) ∷ []) ≡ false
span_2 = refl

-- looking back from event 0 it holds, and from event 1 it fails at once
span_back : holds (yes (Span 3 0 2) ∷ []) ≡ true
span_back = refl

span_back_fails : holds (yes (Span 3 1 0) ∷ []) ≡ false
span_back_fails = refl

-- event 1 is the first gap from event 0 on, and event 2 is a later one
gap_1 : holds (yes (Gap 2 0 1) ∷ []) ≡ true
gap_1 = refl

gap_2 : holds (yes (Gap 2 0 2) ∷ []) ≡ false
gap_2 = refl

witness_1 : holds (yes (Wit 2 0 1) ∷ []) ≡ true
witness_1 = refl

-- the left side fails at event 1
witness_2 : holds (yes (Wit 2 0 2) ∷ []) ≡ false
witness_2 = refl

-- event 0 is too near itself
witness_0 : holds (yes (Wit 2 0 0) ∷ []) ≡ false
witness_0 = refl

until_0 : holds (yes (Node 2 0) ∷ []) ≡ true
until_0 = refl
