-- A problem with its last atom first fits what it fitted.
use Rattle.std.proofs.Common.{◌≡◌, ◌≢◌, ◌∙◌, ap, sym, subst, ℕ, ◌+◌, ◌<◌, List, [], length, map, Some, arith}
use Rattle.std.specs.Prelude.{All, AllPairs, Any, Contains, slice_get, slice_index, slice_index_or}
use Rattle.std.proofs.lemmas.List.{get_or-map, get_or_default, length-map}
use Rattle.std.proofs.lemmas.Option.{get_or_from_slice_get, slice_get-get_or, slice_get_within}
use Rattle.clause_db.specs.Clauses.{clause_at}
use Rattle.clause_db.specs.Renaming.{moved}
use Rattle.axiom_rules.specs.declared.literal.Atom.{Atom}
use Rattle.axiom_rules.specs.declared.literal.Atom.TheVariants.{First}
use Rattle.axiom_rules.specs.declared.rule.Rule.{Rule}
use Rattle.axiom_rules.specs.AtomIndex.{AreTaken}
use Rattle.axiom_rules.specs.Sought.{Sought, sought_of}
use Rattle.mtl_encode.specs.declared.problem.Problem.{Problem}
use Rattle.mtl_encode.specs.Problems.{Fits, IsClauseOf, StandsIn}
use Rattle.mtl_encode.specs.Variables.{AreMoved}
use Rattle.mtl_encode.proofs.VariableLemmas.{read-moved}
use Rattle.cdcl_core.specs.Founds.{IsPosed}
use Rattle.logic_table.specs.AtomOrders.{AreLastFirst, AreReversed}

-- no place stands twice
pub last_first_pairs : (n : ℕ) (places : List ℕ) → AreLastFirst n places → AllPairs (λ v w. v ≢ w) places
last_first_pairs n places are i j d less low same =
    let at_i = are.each i (omega (arith, less, low, are.count_is)) in
    let at_j = are.each j (omega (arith, low, are.count_is)) in
    omega (arith, at_i, at_j, less, same, get_or_default places i d 0 (omega (arith, less, low)), get_or_default places j d 0 low)

module _ (old new : List Atom) (places : List ℕ) (are : AreLastFirst (length old) places) (taken : AreTaken old places new) where
  pub last_first_reversed : AreReversed old new
  last_first_reversed = record {
    count = taken.count ∙ are.count_is;
    each = λ k j sum.
        let at = are.each k (omega (arith, sum)) in
        let is : slice_index places k ≡ j = omega (arith, at, sum) in
        taken.each k j (slice_get-get_or places k 0 (omega (arith, sum, are.count_is)) ∙ ap Some is);
  }

  -- the atom of each variable is at its place
  last_first_moved : AreMoved old new places
  last_first_moved = record {
    count = are.count_is;
    each = λ v a there.
        let k = slice_index places v in
        let at : k + v + 1 ≡ length old = are.each v (slice_get_within old v a there) in
        let low : k < length old = omega (arith, at) in
        let back : slice_index places k + k + 1 ≡ length old = are.each k low in
        let again : slice_index places k ≡ v = omega (arith, at, back) in
        taken.each k v (slice_get-get_or places k 0 (omega (arith, low, are.count_is)) ∙ ap Some again) ∙ there;
  }

  -- each atom is an old one
  last_first_only : All (Contains old) new
  last_first_only k d low =
      let below : k < length places = omega (arith, low, taken.count) in
      let v = slice_index places k in
      let at : v + k + 1 ≡ length old = are.each k (omega (arith, below, are.count_is)) in
      let within : v < length old = omega (arith, at) in
      let is : slice_get new k ≡ Some (slice_index_or old v (First 0)) = taken.each k v (slice_get-get_or places k 0 below) ∙ slice_get-get_or old v (First 0) within in
      (v, within, get_or_default old v (slice_index_or new k d) (First 0) within ∙ sym (get_or_from_slice_get new k (slice_index_or old v (First 0)) d is))

module _ (p q : Problem) (places : List ℕ) (are : AreLastFirst (length p.atoms) places) (taken : AreTaken p.atoms places q.atoms) (db : q.db ≡ map (map (moved places)) p.db)
    (rules : q.rules ≡ p.rules) (bounds : q.bounds ≡ p.bounds) (edges : q.edges ≡ p.edges) (nodes : q.nodes ≡ p.nodes) where
  reversed_clause : (s : Sought) → Fits s p → (n : ℕ) (rule : Rule) → slice_get p.rules n ≡ Some rule → IsClauseOf s q.atoms rule (clause_at q.db n)
  reversed_clause s fits n rule there =
      let is = fits.clauses n rule there in
      let low : n < length p.db = omega (arith, slice_get_within p.rules n rule there, fits.count) in
      let at : clause_at q.db n ≡ map (moved places) (clause_at p.db n) = rw db (get_or-map (map (moved places)) p.db n [] [] low) in
      rw at (record { clause = is.clause; of_rule = is.of_rule; read = read-moved p.atoms q.atoms places (last_first_moved p.atoms q.atoms places are taken) (clause_at p.db n) is.clause is.read })

  reversed_atom : (s : Sought) → Fits s p → All (λ a. Any (StandsIn s a) p.rules) q.atoms
  reversed_atom s fits k d low =
      let (j, below, at) = last_first_only p.atoms q.atoms places are taken k d low in
      subst (λ a. Any (StandsIn s a) p.rules) at (fits.atoms j (slice_index_or q.atoms k d) below)

  reversed_fits : (s : Sought) → Fits s p → Fits s q
  reversed_fits s fits = record {
    count = rw (db, rules) (fits.count ∙ sym (length-map p.db (map (moved places))));
    clauses = λ n rule there. reversed_clause s fits n rule (rw rules at there);
    atoms = rw rules (reversed_atom s fits);
    bounds = bounds ∙ fits.bounds;
    edges = rw (bounds, edges) fits.edges;
    nodes = nodes ∙ fits.nodes;
    system = rw (nodes, edges) fits.system;
    few_clauses = rw db (omega (arith, fits.few_clauses, length-map p.db (map (moved places))));
    few_atoms = omega (arith, fits.few_atoms, taken.count, are.count_is);
  }

  pub reversed_posed : IsPosed p → IsPosed q
  reversed_posed posed = record {
    log = posed.log;
    form = posed.form;
    value = posed.value;
    valid = posed.valid;
    formula = posed.formula;
    fits = reversed_fits (sought_of posed.log posed.form posed.value) posed.fits;
    solvable = rw (nodes, edges) posed.solvable;
  }
