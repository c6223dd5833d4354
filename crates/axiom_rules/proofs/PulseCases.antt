-- Clauses of a small log with pulses, worked out by hand.
use Rattle.std.proofs.Common.{◌≡◌, refl, ℕ, Bool, true, false, List, [], ◌∷◌, None, Ok, Err, codes, ℤ, pos, negsuc}
use Rattle.std.specs.Prelude.{Result}
use Rattle.mt_model.specs.declared.log.Act.TheVariants as act
use Rattle.mt_model.specs.Form.{Form, Prop, Not}
use Rattle.mt_model.specs.Log.{Logged, plain_log}
use Rattle.axiom_rules.specs.declared.fault.RuleFault.{RuleFault}
use Rattle.axiom_rules.specs.declared.fault.RuleFault.TheVariants.{NoRule, Range, Kind, Trivial}
use Rattle.axiom_rules.specs.declared.literal.Atom.TheVariants.{Order, Node, Same}
use Rattle.axiom_rules.specs.declared.literal.Literal.{Literal}
use Rattle.axiom_rules.specs.Clauses.{clause_of}
use Rattle.axiom_rules.specs.Holds.{clause_holds}
use Rattle.axiom_rules.specs.Literals.{no, yes}
use Rattle.axiom_rules.specs.Sought.{sought_of}
use Rattle.formula_arena.specs.Nodes.{nodes_of}

-- Two hosts. Rows 0 and 2 are of the first one, which clears its proposition and has a note; it pulses it in the rows 1
-- and 3. Row 4 is of the second one, which pulses one of its own. The nodes are 0 the proposition and 1 its negation.

abbrev pulsing : Logged
pulsing =
    plain_log (record { name = codes "a"; skew = pos 9; gap = pos 0; least = 1; most = None } ∷ record { name = codes "b"; skew = pos 9; gap = pos 0; least = 1; most = None } ∷ [])
    (record { host = 0; local = pos 10; act = act.Clear (codes "p") } ∷ record { host = 0; local = pos 11; act = act.Pulse (codes "p") } ∷ record { host = 0; local = pos 12; act = act.Note (codes "p") }
    ∷ record { host = 0; local = pos 13; act = act.Pulse (codes "p") } ∷ record { host = 1; local = pos 12; act = act.Pulse (codes "p") } ∷ [])

abbrev formula : Form
formula = Not (Prop (codes "a") (codes "p"))

abbrev clause : ℕ → List ℕ → Result (List Literal) RuleFault
clause number args = clause_of (sought_of pulsing formula true) (record { number = number; args = args })

-- a proposition is true after a change, or at a pulse of its own
true_at_pulse : clause 1 (0 ∷ 2 ∷ 0 ∷ 0 ∷ []) ≡ Ok (no (Node 0 2) ∷ yes (Order 0 2 (pos 0)) ∷ yes (Same 1 2) ∷ yes (Same 2 3) ∷ [])
true_at_pulse = refl

-- of another host's row the same is asked
true_elsewhere : clause 1 (0 ∷ 4 ∷ 0 ∷ 0 ∷ []) ≡ Ok (no (Node 0 4) ∷ yes (Order 0 4 (pos 0)) ∷ yes (Same 1 4) ∷ yes (Same 3 4) ∷ [])
true_elsewhere = refl

-- at the pulse itself there is nothing to say
pulse_itself : clause 1 (0 ∷ 1 ∷ 0 ∷ 0 ∷ []) ≡ Err Trivial
pulse_itself = refl

-- a proposition that is cleared is false but for its pulses
cleared_but_for_pulses : clause 2 (0 ∷ 2 ∷ 0 ∷ 0 ∷ []) ≡ Ok (no (Order 0 2 (pos 0)) ∷ no (Node 0 2) ∷ yes (Same 1 2) ∷ yes (Same 2 3) ∷ [])
cleared_but_for_pulses = refl

cleared_at_pulse : clause 2 (0 ∷ 3 ∷ 0 ∷ 0 ∷ []) ≡ Err Trivial
cleared_at_pulse = refl

-- the smaller event stands first in the atom, and the arguments as they come in the order
same_not_after : clause 25 (2 ∷ 1 ∷ 0 ∷ 0 ∷ []) ≡ Ok (no (Same 1 2) ∷ no (Order 1 2 (negsuc 0)) ∷ [])
same_not_after = refl

same_itself : clause 25 (1 ∷ 1 ∷ 0 ∷ 0 ∷ []) ≡ Err Trivial
same_itself = refl

same_without_pulse : clause 25 (0 ∷ 2 ∷ 0 ∷ 0 ∷ []) ≡ Err NoRule
same_without_pulse = refl

-- an event that is not there comes first
same_out_of_range : clause 25 (0 ∷ 5 ∷ 0 ∷ 0 ∷ []) ≡ Err Range
same_out_of_range = refl

-- any proposition's pulse will do
same_other_pulse : clause 25 (4 ∷ 0 ∷ 0 ∷ 0 ∷ []) ≡ Ok (no (Same 0 4) ∷ no (Order 0 4 (negsuc 0)) ∷ [])
same_other_pulse = refl

neither_after : clause 26 (1 ∷ 2 ∷ 0 ∷ 0 ∷ []) ≡ Ok (yes (Same 1 2) ∷ no (Order 1 2 (pos 0)) ∷ yes (Order 1 2 (negsuc 0)) ∷ [])
neither_after = refl

-- the order of the events is tested before the pulses
neither_turned : clause 26 (2 ∷ 0 ∷ 0 ∷ 0 ∷ []) ≡ Err Kind
neither_turned = refl

neither_itself : clause 26 (1 ∷ 1 ∷ 0 ∷ 0 ∷ []) ≡ Err Kind
neither_itself = refl

neither_without_pulse : clause 26 (0 ∷ 2 ∷ 0 ∷ 0 ∷ []) ≡ Err NoRule
neither_without_pulse = refl

pulsed_true : clause 27 (0 ∷ 2 ∷ 1 ∷ 0 ∷ []) ≡ Ok (no (Same 2 3) ∷ yes (Node 0 2) ∷ [])
pulsed_true = refl

pulsed_here : clause 27 (0 ∷ 1 ∷ 0 ∷ 0 ∷ []) ≡ Ok (yes (Node 0 1) ∷ [])
pulsed_here = refl

-- the proposition has two pulses, and that of the other host isn't one
pulse_range : clause 27 (0 ∷ 2 ∷ 2 ∷ 0 ∷ []) ≡ Err Range
pulse_range = refl

-- the kind of the node is tested before the pulse
pulse_kind : clause 27 (1 ∷ 2 ∷ 2 ∷ 0 ∷ []) ≡ Err Kind
pulse_kind = refl

beyond : clause 29 (0 ∷ 0 ∷ 0 ∷ 0 ∷ []) ≡ Err NoRule
beyond = refl

-- What atoms mean at the times 10, 11, 11, 12 and 11.

abbrev times : List ℤ
times = pos 10 ∷ pos 11 ∷ pos 11 ∷ pos 12 ∷ pos 11 ∷ []

abbrev holds : List Literal → Bool
holds c = clause_holds pulsing times (nodes_of formula) c

at_one_instant : holds (yes (Same 1 2) ∷ []) ≡ true
at_one_instant = refl

-- neither an earlier event nor a later one is at the instant
earlier : holds (yes (Same 0 1) ∷ []) ≡ false
earlier = refl

later : holds (yes (Same 3 4) ∷ []) ≡ false
later = refl

-- at the instant of a pulse, and after it
true_then : holds (yes (Node 0 4) ∷ []) ≡ true
true_then = refl

false_before : holds (yes (Node 0 0) ∷ []) ≡ false
false_before = refl
