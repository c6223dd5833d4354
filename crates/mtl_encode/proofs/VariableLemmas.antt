-- Clauses over other variables read as they did.
use Rattle.std.proofs.Common.{◌≡◌, ◌∙◌, sym, refl, subst, ℕ, suc, ◌<◌, ◌≤◌, true, false, List, [], ◌∷◌, length, map, get_or, Some, inl, inr, arith}
use Rattle.std.specs.Prelude.{All, Any, Contains, slice_get, slice_index, slice_index_or}
use Rattle.std.specs.Cmp.{IsEquivalence, both_ways}
use Rattle.std.specs.List.{AllByRecursion, IsDistinct}
use Rattle.std.proofs.lemmas.Bool.{cases_Bool}
use Rattle.std.proofs.lemmas.List.{get_or-map, get_or_default, length-map}
use Rattle.std.proofs.lemmas.Map.Keys.{IsDistinct-cons}
use Rattle.std.proofs.lemmas.Map.Made.{length-le_from_is_member}
use Rattle.std.proofs.lemmas.Option.{slice_get-get_or, slice_get_within}
use Rattle.mt_model.proofs.Members.{Among, any_some, some_any}
use Rattle.clause_db.specs.declared.lit.Lit.{Lit}
use Rattle.clause_db.specs.Clauses.{clause_at}
use Rattle.clause_db.specs.Renaming.{AreApart, AreBelow, moved}
use Rattle.axiom_rules.specs.declared.literal.Atom.{Atom}
use Rattle.axiom_rules.specs.declared.literal.Atom.TheVariants.{First}
use Rattle.axiom_rules.specs.declared.literal.Literal.{Literal}
use Rattle.axiom_rules.specs.declared.rule.Rule.{Rule}
use Rattle.axiom_rules.specs.Atoms.{AreOnce, IsVar}
use Rattle.axiom_rules.specs.Literals.{same_atom, yes}
use Rattle.axiom_rules.specs.Sought.{Sought}
use Rattle.axiom_rules.proofs.AddingLemmas.{atom-itself}
use Rattle.axiom_rules.proofs.PartLemmas.{atoms_same}
use Rattle.mtl_encode.proofs.AtomGrowth.{parts-read, read-at, read-atom}
use Rattle.mtl_encode.proofs.RangeLemmas.{among-at, place-of}
use Rattle.mtl_encode.specs.declared.clauses.Clauses.{Clauses}
use Rattle.mtl_encode.specs.Growth.{AreClauses}
use Rattle.mtl_encode.specs.Problems.{IsClauseOf, ReadsAs, StandsIn, read_literal}
use Rattle.mtl_encode.specs.Variables.{AreMoved}

-- literals that are read have variables of atoms
pub lits-below : (atoms : List Atom) (lits : List Lit) (clause : List Literal) → ReadsAs atoms lits clause → All (λ l. l.var < length atoms) lits
lits-below atoms lits clause is k d low =
    let at = read-at atoms lits clause k d (yes (First 0)) is low in
    let both = read-atom atoms (slice_index_or lits k d) (slice_index_or clause k (yes (First 0))) at in
    slice_get_within atoms (slice_index_or lits k d).var (slice_index_or clause k (yes (First 0))).atom both.0

module _ (old new : List Atom) (places : List ℕ) (moves : AreMoved old new places) where
  lit-moved : (l : Lit) (c : Literal) → read_literal old l ≡ Some c → read_literal new (moved places l) ≡ Some c
  lit-moved l c is = let both = read-atom old l c is in rw (moves.each l.var c.atom both.0, both.1) refl

  pub read-moved : (lits : List Lit) (clause : List Literal) → ReadsAs old lits clause → ReadsAs new (map (moved places) lits) clause
  read-moved [] [] is = refl
  read-moved [] (c ∷ clause) is = absurd (cc)
  read-moved (l ∷ lits) [] is = absurd (cc)
  read-moved (l ∷ lits) (c ∷ clause) is =
      let both = parts-read _ _ _ _ is in
      rw (lit-moved l c both.0, read-moved lits clause both.1) refl

  -- two variables do not become one
  pub places-apart : AreOnce old → AreApart places
  places-apart once v w low-v low-w same =
      let at-v = slice_get-get_or old v (First 0) (omega (arith, low-v, moves.count)) in
      let at-w = slice_get-get_or old w (First 0) (omega (arith, low-w, moves.count)) in
      let new-v = moves.each v (get_or old v (First 0)) at-v in
      let new-w = moves.each w (get_or old w (First 0)) at-w in
      let again : slice_get new (slice_index places w) ≡ Some (get_or old v (First 0)) = rw (← same) new-v in
      let equal : get_or old v (First 0) ≡ get_or old w (First 0) = cc in
      once.once v w (get_or old w (First 0)) (rw (← equal) at-v) at-w

-- equality of atoms is one
atoms-equal : IsEquivalence same_atom
atoms-equal = record {
  refl = atom-itself;
  symm = λ a b. both_ways _ _ (λ h. rw (atoms_same a b h) (atom-itself b)) (λ h. rw (atoms_same b a h) (atom-itself a));
  congr = λ a b c h. rw (atoms_same a b h) refl;
}

-- no more atoms, where they are among others and none stands twice
distinct : (xs : List Atom) → ((v w : ℕ) (a : Atom) → IsVar xs v a → IsVar xs w a → v ≡ w) → IsDistinct same_atom xs
unfolding IsDistinct
distinct [] once = tt
distinct (x ∷ xs) once =
    IsDistinct-cons same_atom x xs
    (differ xs (λ k y at same. let twice : slice_get xs k ≡ Some x = rw (atoms_same x y same) at in let zero-is = once 0 (suc k) x refl twice in absurd (omega (arith, zero-is))))
    (distinct xs (λ v w a at-v at-w. let next = once (suc v) (suc w) a at-v at-w in omega (arith, next)))
  where
    differ : (ys : List Atom) → ((k : ℕ) (y : Atom) → slice_get ys k ≡ Some y → same_atom x y ≡ true → ⊥) → AllByRecursion (λ y. same_atom x y ≡ false) ys
    differ [] apart = tt
    differ (y ∷ ys) apart = (
      elim (cases_Bool (same_atom x y)) [ inl is ↦ absurd (apart 0 y refl is) | inr fails ↦ fails ],
      differ ys (λ k z at same. apart (suc k) z at same),
    )

contained : (xs : List Atom) (a : Atom) → Contains xs a → Among xs a
contained xs a (k, low, at) = subst (Among xs) at (among-at xs k a low)

pub no-more : (old new : List Atom) → AreOnce new → All (Contains old) new → length new ≤ length old
no-more old new once only = length-le_from_is_member atoms-equal new old (distinct new once.once) (λ a is.
    let (b, in_, same) = any_some (same_atom a) new is in
    let (k, low, at) = place-of new b in_ in
    some_any (same_atom a) old b (contained old b (subst (Contains old) at (only k b low))) same)

module _ (s : Sought) (old new : Clauses) (places : List ℕ) (held : AreClauses s old) (once : AreOnce new.atoms) (moves : AreMoved old.atoms new.atoms places)
    (only : All (Contains old.atoms) new.atoms) (db : new.db ≡ map (map (moved places)) old.db) (rules : new.rules ≡ old.rules) where
  clause-moved : (n : ℕ) (rule : Rule) → slice_get old.rules n ≡ Some rule → IsClauseOf s new.atoms rule (clause_at new.db n)
  clause-moved n rule there =
      let is = held.clauses n rule there in
      let low : n < length old.db = omega (arith, slice_get_within old.rules n rule there, held.count) in
      let at : clause_at new.db n ≡ map (moved places) (clause_at old.db n) = rw db (get_or-map (map (moved places)) old.db n [] [] low) in
      rw at (record { clause = is.clause; of_rule = is.of_rule; read = read-moved old.atoms new.atoms places moves (clause_at old.db n) is.clause is.read })

  atom-moved : All (λ a. Any (StandsIn s a) old.rules) new.atoms
  atom-moved k d low = let (j, below, at) = only k d low in subst (λ a. Any (StandsIn s a) old.rules) at (held.atoms j (slice_index_or new.atoms k d) below)

  pub clauses-moved : AreClauses s new
  clauses-moved = record {
    count = rw (db, rules) (held.count ∙ sym (length-map old.db (map (moved places))));
    clauses = λ n rule there. clause-moved n rule (rw rules at there);
    atoms = rw rules atom-moved;
    few = rw rules (omega (arith, held.few, no-more old.atoms new.atoms once only));
  }

-- the variables of clauses that are read are those of atoms
pub clauses-below : (s : Sought) (held : Clauses) → AreClauses s held → AreBelow (length held.atoms) held.db
clauses-below s held are n d low =
    let e : Rule = record { number = 0; args = [] } in
    let is = are.clauses n (slice_index_or held.rules n e) (slice_get-get_or held.rules n e (omega (arith, low, are.count))) in
    rw (get_or_default held.db n d [] low) (lits-below held.atoms (clause_at held.db n) is.clause is.read)
