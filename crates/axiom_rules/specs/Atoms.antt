-- Tables of atoms: the variable of an atom is its place.
use Rattle.std.specs.Prelude.{◌≡◌, ◌<◌, ◌^◌, ℕ, Bool, if◌then◌else◌, List, [], ◌∷◌, ◌++◌, length, Some, slice_get}
use Rattle.std.specs.List.{list_any}
use Rattle.axiom_rules.specs.declared.literal.Atom.{Atom}
use Rattle.axiom_rules.specs.Literals.{same_atom}

-- an atom stands in a list
abbrev pub has_atom : List Atom → Atom → Bool
has_atom atoms a = list_any (same_atom a) atoms

-- the atoms, and one more at the end where it isn't among them
abbrev pub with_atom : List Atom → Atom → List Atom
with_atom atoms a = if has_atom atoms a then atoms else atoms ++ a ∷ []

-- the variable of an atom
abbrev pub IsVar : List Atom → ℕ → Atom → Type 0
IsVar atoms v a = slice_get atoms v ≡ Some a

-- atoms that have one variable each
pub record AreOnce (atoms : List Atom) : Type 0 where
  pub few : length atoms < 2 ^ 32
  pub once : (v w : ℕ) (a : Atom) → IsVar atoms v a → IsVar atoms w a → v ≡ w
