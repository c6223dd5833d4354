-- Literals: an atom with its sense.
use Rattle.std.specs.Prelude.{ℕ, ◌==◌, nat_lt, Bool, true, false, not, ◌&&◌, if◌then◌else◌, List, ℤ, pos, ◌-ℤ◌, neg_ℤ}
use Rattle.std.specs.List.{list_any}
use Rattle.std.specs.Ordering.{int_eq}
use Rattle.axiom_rules.specs.declared.literal.Atom.{Atom}
use Rattle.axiom_rules.specs.declared.literal.Atom.TheVariants.{Order, Node, First, Same, Wit, Span, Gap}
use Rattle.axiom_rules.specs.declared.literal.Literal.{Literal}

-- the literal that an atom holds
abbrev pub yes : Atom → Literal
yes a = record { atom = a; positive = true }

-- the literal that an atom does not hold
abbrev pub no : Atom → Literal
no a = record { atom = a; positive = false }

-- the literal of the other sense
abbrev pub negated : Literal → Literal
negated l = record { atom = l.atom; positive = not l.positive }

-- t_e - t_f <= c, for two different events: the atom has the smaller event first
abbrev pub order_literal : ℕ → ℕ → ℤ → Literal
order_literal e f c = if nat_lt e f then yes (Order e f c) else no (Order f e (neg_ℤ c -ℤ pos 1))

-- t_e = t_x, for two different events: the atom has the smaller event first
abbrev pub one_instant : ℕ → ℕ → Atom
one_instant e x = if nat_lt e x then Same e x else Same x e

-- whether two atoms are equal
abbrev pub same_atom : Atom → Atom → Bool
same_atom (Order e f c) (Order g h d) = (e == g) && (f == h) && int_eq c d
same_atom (Node k e) (Node l f) = (k == l) && (e == f)
same_atom (First e) (First f) = e == f
same_atom (Same e x) (Same f y) = (e == f) && (x == y)
same_atom (Wit k i j) (Wit l g h) = (k == l) && (i == g) && (j == h)
same_atom (Span k i j) (Span l g h) = (k == l) && (i == g) && (j == h)
same_atom (Gap k i m) (Gap l g h) = (k == l) && (i == g) && (m == h)
same_atom _ _ = false

-- whether two literals are equal
abbrev pub same_literal : Literal → Literal → Bool
same_literal l m = same_atom l.atom m.atom && (if l.positive then m.positive else not m.positive)

-- a literal stands in a list
abbrev pub has_literal : List Literal → Literal → Bool
has_literal ls l = list_any (same_literal l) ls
