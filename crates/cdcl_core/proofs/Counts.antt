-- How many literals, hints and steps there can be.
use Rattle.std.proofs.Common.{◌≡◌, ◌≢◌, ◌∙◌, sym, subst, ℕ, ◌+◌, ◌<◌, ◌≤◌, inl, inr, true, List, [], ◌∷◌, length, get_or, map, arith}
use Rattle.std.specs.Prelude.{All, AllPairs}
use Rattle.std.specs.List.{Contains}
use Rattle.std.proofs.lemmas.Bool.Decides.{Decides-eqb}
use Rattle.std.proofs.lemmas.List.{get_or-map, length-map}
use Rattle.std.proofs.lemmas.List.Elements.{All-cons, All-contains, All-head, All-map, All-tail}
use Rattle.std.proofs.lemmas.List.Kept.{AllPairs-cons}
use Rattle.std.proofs.lemmas.Map.Made.{IsDistinct-from_AllPairs}
use Rattle.std.proofs.lemmas.Map.Steps.{length-le_from_distinct_below}
use Rattle.hint_refutation.specs.Hints.{RefutesGiving}
use Rattle.hint_refutation.proofs.Hinted.{assumed-may_grow, given-determined, refuters-give}
use Rattle.hint_refutation.proofs.Lists.{all_from, contains_first}
use Rattle.neg_cycle.specs.declared.system.Edge.{Edge}
use Rattle.neg_cycle.specs.Systems.{IsEdge, VisitsOnce, edge_at}
use Rattle.clause_db.specs.declared.lit.Lit.{Lit}
use Rattle.clause_db.specs.Literals.{HasVarsOnce, negation}
use Rattle.clause_db.specs.Clauses.{clause_at, clauses_at}
use Rattle.clause_db.specs.Hinted.{HintsRefute}
use Rattle.clause_db.proofs.LawLemmas.{negation_other}
use Rattle.mt_list.proofs.Lists.{stands_below}

-- what has different numbers below n is at most n times there
pub few_below : {X : Type 0} (f : X → ℕ) (e : X) (n : ℕ) (xs : List X) → AllPairs (λ x y. f x ≢ f y) xs → All (λ x. f x < n) xs → length xs ≤ n
few_below f e n xs apart low =
    let few = length-le_from_distinct_below (map f xs) n (IsDistinct-from_AllPairs Decides-eqb (map f xs) numbers_apart) (stands_below n (map f xs) (All-map (λ k. k < n) f xs low)) in
    let size = length-map xs f in
    omega (arith, few, size)
  where
    numbers_apart : AllPairs (λ k l. k ≢ l) (map f xs)
    numbers_apart i j d less below same =
        let size = length-map xs f in
        let low_j : j < length xs = omega (arith, below, size) in
        let at_i = get_or-map f xs i e d (omega (arith, less, low_j)) in
        let at_j = get_or-map f xs j e d low_j in
        apart i j e less low_j (sym at_i ∙ same ∙ at_j)

-- a clause without a variable twice has at most as many literals as there are variables
pub few_literals : (n : ℕ) (lits : List Lit) → HasVarsOnce lits → All (λ l. l.var < n) lits → length lits ≤ n
few_literals n lits once low = few_below (λ (l : Lit). l.var) (record { var = 0; positive = true }) n lits once low

-- a walk that visits no node twice has at most as many edges as there are nodes
pub few_steps : (nodes : ℕ) (edges : List Edge) (walk : List ℕ) → All (IsEdge nodes) edges → All (λ p. p < length edges) walk → VisitsOnce edges walk → length walk ≤ nodes
few_steps nodes edges walk each within once = few_below (λ p. (edge_at edges p).from) 0 nodes walk once (λ k d below. (each (get_or walk k d) _ (within k d below)).from)

-- what hints give is of different variables
given_once : (assumed : List Lit) (hints : List (List Lit)) (given : List Lit) → RefutesGiving negation assumed hints given → HasVarsOnce given
given_once assumed [] given refutes = absurd refutes
given_once assumed (hint ∷ later) [] refutes = λ i j d less below. absurd (omega (arith, below))
given_once assumed (hint ∷ later) (u ∷ us) (gives, rest) =
    AllPairs-cons (λ (k l : Lit). k.var ≢ l.var) u us (all_from (λ (l : Lit). u.var ≢ l.var) us other_var) (given_once (u ∷ assumed) later us rest)
  where
    other_var : (l : Lit) → Contains us l → u.var ≡ l.var → ⊥
    other_var l has same =
        let free =
        All-contains (λ (k : Lit). (Contains (u ∷ assumed) k → ⊥) × (Contains (u ∷ assumed) (negation k) → ⊥)) us l ((assumed-may_grow Lit).undecided negation (u ∷ assumed) later us rest) has in
        elim (negation_other.only u l same) [
          | inl is ↦ free.0 (subst (λ (k : Lit). Contains (u ∷ assumed) k) is (contains_first u assumed))
          | inr is ↦ free.1 (subst (λ (k : Lit). Contains (u ∷ assumed) k) is (contains_first u assumed))
        ]

given_low : (n : ℕ) (assumed : List Lit) (hints : List (List Lit)) (given : List Lit) → All (All (λ l. l.var < n)) hints → RefutesGiving negation assumed hints given → All (λ l. l.var < n) given
given_low n assumed [] given low refutes = absurd refutes
given_low n assumed (hint ∷ later) [] low refutes = λ k d below. absurd (omega (arith, below))
given_low n assumed (hint ∷ later) (u ∷ us) low (gives, rest) =
    All-cons (λ (l : Lit). l.var < n) u us (All-contains (λ (l : Lit). l.var < n) hint u (All-head (All (λ (l : Lit). l.var < n)) hint later low) gives.leaves.has)
    (given_low n (u ∷ assumed) later us (All-tail (All (λ (l : Lit). l.var < n)) hint later low) rest)

-- clauses that refute are at most one more than there are variables
pub few_hints : (n : ℕ) (db : List (List Lit)) (assumed : List Lit) (refs : List ℕ) → All (All (λ l. l.var < n)) db → HintsRefute db assumed refs → length refs ≤ n + 1
few_hints n db assumed refs low hints =
    let (given, refutes) = (refuters-give Lit negation assumed (clauses_at db refs)).0 hints.refutes in
    let clauses_low : All (All (λ (l : Lit). l.var < n)) (clauses_at db refs) =
    All-map (All (λ (l : Lit). l.var < n)) (clause_at db) refs (λ k d below. low (get_or refs k d) _ (hints.held k d below)) in
    let few = few_literals n given (given_once assumed (clauses_at db refs) given refutes) (given_low n assumed (clauses_at db refs) given clauses_low refutes) in
    let count = (given-determined Lit).count negation assumed (clauses_at db refs) given refutes in
    let size = length-map refs (clause_at db) in
    omega (arith, few, count, size)
