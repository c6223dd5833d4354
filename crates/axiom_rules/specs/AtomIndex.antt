-- Where the atoms of a list stand, by chains of those in one bucket.
use Rattle.std.specs.Prelude.{◌≡◌, ℕ, ◌+◌, ◌*◌, ◌%◌, ◌<◌, ◌≤◌, if◌then◌else◌, List, length, Some, slice_get, slice_index, int_lt, pos, unsigned_abs}
use Rattle.axiom_rules.specs.declared.atom_index.AtomIndex.{AtomIndex}
use Rattle.axiom_rules.specs.declared.atom_index.TheConstants.{CONSTANTS, EVENT, GAP, NODE, SAME, SPAN}
use Rattle.axiom_rules.specs.declared.literal.Atom.{Atom}
use Rattle.axiom_rules.specs.declared.literal.Atom.TheVariants.{Order, Node, First, Same, Wit, Span, Gap}
use Rattle.axiom_rules.specs.Atoms.{AreOnce, IsVar}

-- a number for an atom
abbrev pub number_of : Atom → ℕ
number_of (Order e f c) = NODE * (unsigned_abs c % CONSTANTS) + (if int_lt (pos 0) c then EVENT * f + e else EVENT * e + f)
number_of (Node k e) = NODE * k + e
number_of (First e) = e
number_of (Same e x) = EVENT * e + x + SAME
number_of (Wit k i j) = NODE * k + EVENT * i + j
number_of (Span k i j) = NODE * k + EVENT * i + j + SPAN
number_of (Gap k i m) = NODE * k + EVENT * i + m + GAP

-- the bucket of an atom, of so many
abbrev pub bucket_of : ℕ → Atom → ℕ
bucket_of buckets a = number_of a % buckets

-- a link leads to the last atom of a bucket that stands before a place: it is one more than that atom's place, or 0 where there is none
pub record IsLast (atoms : List Atom) (buckets bucket place link : ℕ) : Type 0 where
  pub before : link ≤ place
  pub in_bucket : (v : ℕ) (a : Atom) → v + 1 ≡ link → IsVar atoms v a → bucket_of buckets a ≡ bucket
  pub last : (v : ℕ) (a : Atom) → v < place → IsVar atoms v a → bucket_of buckets a ≡ bucket → v < link

-- of the first atoms, as many as there are links, each bucket's head leads to the last one, and the link of each atom to the one before it
pub record AreChains (atoms : List Atom) (heads links : List ℕ) : Type 0 where
  pub few : length links ≤ length atoms
  pub of_heads : (b : ℕ) → b < length heads → IsLast atoms (length heads) b (length links) (slice_index heads b)
  pub of_links : (v : ℕ) (a : Atom) → v < length links → IsVar atoms v a → IsLast atoms (length heads) (bucket_of (length heads) a) v (slice_index links v)

-- an index of the first atoms of a list
abbrev pub IsIndex : List Atom → AtomIndex → Type 0
IsIndex atoms index = AreChains atoms index.heads.items index.links.items

-- atoms with one variable each, and an index of the first ones
pub record IsTable (atoms : List Atom) (index : AtomIndex) : Type 0 where
  pub once : AreOnce atoms
  pub indexed : IsIndex atoms index

-- the atoms of these variables, in their order
pub record AreTaken (atoms : List Atom) (vars : List ℕ) (table : List Atom) : Type 0 where
  pub count : length table ≡ length vars
  pub each : (n v : ℕ) → slice_get vars n ≡ Some v → slice_get table n ≡ slice_get atoms v
