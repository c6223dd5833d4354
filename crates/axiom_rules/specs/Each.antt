-- The parts that a rule writes for each event, or for each of some.
use Rattle.std.specs.Prelude.{◌≡◌, ◌≢◌, ℕ, ◌<◌, ◌==◌, Bool, true, if◌then◌else◌, List, Option, Some, None, is_none}
use Rattle.std.specs.List.{AllByRecursion}
use Rattle.axiom_rules.specs.declared.clause.Each.{Each}
use Rattle.axiom_rules.specs.declared.clause.Each.TheVariants as each
use Rattle.axiom_rules.specs.declared.literal.Atom.{Atom}
use Rattle.axiom_rules.specs.declared.literal.Atom.TheVariants as atom
use Rattle.axiom_rules.specs.declared.literal.Literal.{Literal}
use Rattle.axiom_rules.specs.declared.part.Part.{Part}
use Rattle.axiom_rules.specs.declared.part.Part.TheVariants.{Says, Known}
use Rattle.axiom_rules.specs.Parts.{after, same}
use Rattle.axiom_rules.specs.Rules.{is}

-- what is written for an event
abbrev pub part_at : Each → ℕ → Part
part_at (each.After e) x = after e x
part_at each.First x = is (atom.First x)
part_at (each.Same e) x = same x e
part_at (each.Wit k i) x = is (atom.Wit k i x)
part_at (each.Gap k i) x = is (atom.Gap k i x)

-- the event for which an atom may be written: of an order and of one instant the other one of its two, of a witness or a gap the last
abbrev pub event_in : Each → Atom → Option ℕ
event_in (each.After e) (atom.Order f g c) = Some (if f == e then g else f)
event_in each.First (atom.First e) = Some e
event_in (each.Same e) (atom.Same f g) = Some (if f == e then g else f)
event_in (each.Wit k i) (atom.Wit l g j) = Some j
event_in (each.Gap k i) (atom.Gap l g m) = Some m
event_in _ _ = None

-- a part isn't written for an event
abbrev pub is_other : Each → Part → Bool
is_other each (Says l) = is_none (event_in each l.atom)
is_other each (Known b) = true

-- no literal is written for an event from this one on
abbrev pub AreBefore : Each → ℕ → List Literal → Type 0
AreBefore each x c = AllByRecursion (λ l. (y : ℕ) → event_in each l.atom ≡ Some y → y < x) c

-- a part speaks of no atom of the literals
abbrev pub IsNew : List Literal → Part → Type 0
IsNew c (Says l) = AllByRecursion (λ m. m.atom ≢ l.atom) c
IsNew c (Known b) = Unit {0}
