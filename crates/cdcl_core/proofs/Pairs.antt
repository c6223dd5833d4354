-- Lists with the same values, place by place, and the atoms of variables.
use Rattle.std.proofs.Common.{◌≡◌, ℕ, zero, suc, ◌<◌, List, [], ◌∷◌, length, map, get_or, arith}
use Rattle.std.proofs.lemmas.Option.{slice_get-get_or}
use Rattle.axiom_rules.specs.declared.literal.Atom.{Atom}
use Rattle.axiom_rules.specs.Atoms.{IsVar}
use Rattle.cdcl_core.specs.Orders.{atom_at}
use Rattle.mt_list.proofs.Lists.{parts_same}

pub paired : {A B C : Type 0} (f : A → C) (g : B → C) (xs : List A) (ys : List B) (a : A) (b : B) (k : ℕ) → map f xs ≡ map g ys → k < length ys → f (get_or xs k a) ≡ g (get_or ys k b)
paired f g [] [] a b k same within = absurd (omega arith)
paired f g [] (y ∷ ys) a b k same within = absurd (cc)
paired f g (x ∷ xs) [] a b k same within = absurd (omega arith)
paired f g (x ∷ xs) (y ∷ ys) a b zero same within = (parts_same (f x) (g y) (map f xs) (map g ys) same).0
paired f g (x ∷ xs) (y ∷ ys) a b (suc k) same within = paired f g xs ys a b k (parts_same (f x) (g y) (map f xs) (map g ys) same).1 (omega arith)

-- the atom of a variable is the one at its place
pub atom_there : (atoms : List Atom) (v : ℕ) → v < length atoms → IsVar atoms v (atom_at atoms v)
atom_there atoms v within = slice_get-get_or atoms v _ within
