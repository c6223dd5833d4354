-- Small cases of what satisfies the rules, worked out by hand.
use Rattle.std.proofs.Common.{◌≡◌, refl, ℕ, Bool, true, false, not, List, [], ◌∷◌, None, codes, pos, arith}
use Rattle.mt_model.specs.declared.log.Act.TheVariants as act
use Rattle.mt_model.specs.declared.log.Row.{Row}
use Rattle.mt_model.specs.Form.{Prop, True}
use Rattle.mt_model.specs.Log.{Logged, plain_log}
use Rattle.axiom_rules.specs.declared.literal.Atom.{Atom}
use Rattle.axiom_rules.specs.declared.literal.Atom.TheVariants.{First, Node, Order, Same}
use Rattle.axiom_rules.specs.Literals.{no, same_atom, yes}
use Rattle.axiom_rules.specs.Occurs.{OccursInRules}
use Rattle.axiom_rules.specs.Sought.{sought_of}
use Rattle.axiom_rules.proofs.BoolLemmas.{apart}
use Rattle.mtl_encode.specs.Exact.{SatisfiesRules, clause_is_true}
use Rattle.mtl_encode.proofs.ClauseUses.{last_of_1, last_of_2}
use Rattle.std.proofs.lemmas.Bool.{not-true, not_from_true}

-- Clauses where event 0 is a first one and no other atom holds.

abbrev first_0 : Atom → Bool
first_0 a = same_atom (First 0) a

-- the negation of an atom that does not hold makes a clause true
negation-true : clause_is_true first_0 (yes (First 1) ∷ no (First 2) ∷ []) ≡ true
negation-true = refl

-- the negation of one that holds does not
negation-false : clause_is_true first_0 (no (First 0) ∷ yes (First 1) ∷ []) ≡ false
negation-false = refl

empty-false : clause_is_true first_0 [] ≡ false
empty-false = refl

-- One host with an exact clock, and notes.

abbrev noted : List Row → Logged
noted rows = plain_log (record { name = codes "a"; skew = pos 0; gap = pos 0; least = 1; most = None } ∷ []) rows

abbrev note : ℕ → Row
note local = record { host = 0; local = pos local; act = act.Note (codes "n") }

-- of two rows, an order atom stands in the clause by which a first event is not after the other one
order-occurs : OccursInRules (sought_of (noted (note 10 ∷ note 11 ∷ [])) True true) (Order 0 1 (pos 0))
order-occurs = record {
  rule = record { number = 9; args = 0 ∷ 1 ∷ 0 ∷ 0 ∷ [] };
  clause = no (First 0) ∷ yes (Order 0 1 (pos 0)) ∷ [];
  is_clause = refl;
  stands = (1, yes (Order 0 1 (pos 0)), omega arith, refl, refl);
}

-- no truth values satisfy the rules for `true` and the value false: the rules 3, 11 and 24 exclude it
none-satisfy : (v : Atom → Bool) → SatisfiesRules (sought_of (noted (note 10 ∷ [])) True false) v → ⊥
none-satisfy v satisfied =
    let holds = last_of_1 (v (Node 0 0)) (satisfied (record { number = 3; args = 0 ∷ 0 ∷ 0 ∷ 0 ∷ [] }) (yes (Node 0 0) ∷ []) refl) in
    let first = last_of_1 (v (First 0)) (satisfied (record { number = 11; args = 0 ∷ 0 ∷ 0 ∷ 0 ∷ [] }) (yes (First 0) ∷ []) refl) in
    let fails =
    last_of_2 (not (v (First 0))) (not (v (Node 0 0)))
    (satisfied (record { number = 24; args = 0 ∷ 0 ∷ 0 ∷ 0 ∷ [] }) (no (First 0) ∷ no (Node 0 0) ∷ []) refl) (not_from_true (v (First 0)) first) in
    apart (v (Node 0 0)) holds (not-true (v (Node 0 0)) fails)

-- A proposition that is pulsed, and a note.

abbrev pulsed : Logged
pulsed = noted (record { host = 0; local = pos 10; act = act.Pulse (codes "p") } ∷ note 11 ∷ [])

-- whether they are at one instant stands in the clause by which the proposition is pulsed where it is true
instant-occurs : OccursInRules (sought_of pulsed (Prop (codes "a") (codes "p")) true) (Same 0 1)
instant-occurs = record {
  rule = record { number = 1; args = 0 ∷ 1 ∷ 0 ∷ 0 ∷ [] };
  clause = no (Node 0 1) ∷ yes (Same 0 1) ∷ [];
  is_clause = refl;
  stands = (1, yes (Same 0 1), omega arith, refl, refl);
}

-- truth values that satisfy the rules make the proposition true at the pulse
pulse-holds : (v : Atom → Bool) → SatisfiesRules (sought_of pulsed (Prop (codes "a") (codes "p")) true) v → v (Node 0 0) ≡ true
pulse-holds v satisfied = last_of_1 (v (Node 0 0)) (satisfied (record { number = 27; args = 0 ∷ 0 ∷ 0 ∷ 0 ∷ [] }) (yes (Node 0 0) ∷ []) refl)

-- and where it is true at the note, they are at one instant
note-holds : (v : Atom → Bool) → SatisfiesRules (sought_of pulsed (Prop (codes "a") (codes "p")) true) v → v (Node 0 1) ≡ true → v (Same 0 1) ≡ true
note-holds v satisfied holds =
    last_of_2 (not (v (Node 0 1))) (v (Same 0 1)) (satisfied (record { number = 1; args = 0 ∷ 1 ∷ 0 ∷ 0 ∷ [] }) (no (Node 0 1) ∷ yes (Same 0 1) ∷ []) refl) (not_from_true (v (Node 0 1)) holds)
