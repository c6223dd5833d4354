-- Clauses that grow by that of one more rule.
use Rattle.std.proofs.Common.{◌≡◌, ◌∙◌, sym, ap, refl, ℕ, ◌+◌, ◌<◌, ◌≤◌, Bool, false, List, [], ◌∷◌, ◌++◌, length, take, Option, Some, None, Ok, inl, inr, arith}
use Rattle.std.specs.Prelude.{All, Any, slice_get, slice_index_or}
use Rattle.std.specs.List.{flat_map, range_with_len}
use Rattle.std.specs.Option.{option_map_or}
use Rattle.std.proofs.lemmas.List.{append-nil, append_assoc, get_or_append_left, length-append}
use Rattle.std.proofs.lemmas.List.Elements.{All-weaker}
use Rattle.std.proofs.lemmas.List.Sums.{sum_by-append, sum_by-cons, sum_by_push}
use Rattle.std.proofs.lemmas.List.Quantifiers.{Any-push}
use Rattle.std.proofs.lemmas.Option.{slice_get_within}
use Rattle.mt_model.proofs.Members.{Among}
use Rattle.skew_bounds.proofs.Ranges.{flat_map-range}
use Rattle.clause_db.specs.declared.lit.Lit.{Lit}
use Rattle.clause_db.specs.Clauses.{clause_at}
use Rattle.axiom_rules.specs.declared.literal.Literal.{Literal}
use Rattle.axiom_rules.specs.declared.rule.Rule.{Rule}
use Rattle.axiom_rules.specs.Clauses.{EachEvent, EachPulse, Five, Two, Width, arg, clause_of, width_of}
use Rattle.axiom_rules.specs.Sought.{Sought}
use Rattle.axiom_rules.proofs.ShapeLemmas.{slice-end}
use Rattle.mtl_encode.proofs.AtomGrowth.{Keeps, all-atoms, keeps-atoms, longer-atoms, read-kept}
use Rattle.mtl_encode.proofs.ListedNumbers.{flat-more, part-taken}
use Rattle.mtl_encode.proofs.RangeLemmas.{part-low, place-of}
use Rattle.mtl_encode.proofs.RuleLengths.{few-in}
use Rattle.mtl_encode.specs.declared.clauses.Clauses.{Clauses}
use Rattle.mtl_encode.specs.Growth.{AreClauses, Gains, HasRoom, most_in, most_literals_of, most_of, with_atoms}
use Rattle.mtl_encode.specs.Instances.{kept}
use Rattle.mtl_encode.specs.Problems.{IsClauseOf, ReadsAs, StandsIn}

module _ (s : Sought) where
  -- how many literals are in the clauses of rules and of further ones
  pub literals-append : (old more : List Rule) → most_literals_of s (old ++ more) ≡ most_literals_of s old + most_literals_of s more
  unfolding most_literals_of
  literals-append old more = sum_by-append (most_in s) old more

  -- and of one rule more
  pub literals-one : (old : List Rule) (rule : Rule) → most_literals_of s (old ++ rule ∷ []) ≡ most_literals_of s old + most_in s rule
  unfolding most_literals_of
  literals-one old rule = sum_by_push (most_in s) old rule

  some : (o : Option Width) (k : ℕ) → 1 ≤ option_map_or (most_of s k) o 5
  some None k = omega arith
  some (Some Two) k = omega arith
  some (Some Five) k = omega arith
  some (Some EachPulse) k = omega arith
  some (Some EachEvent) k = omega arith

  -- there are no more rules than literals
  pub few-rules : (rules : List Rule) → length rules ≤ most_literals_of s rules
  unfolding most_literals_of
  few-rules [] = omega arith
  few-rules (rule ∷ rules) =
      let ih = few-rules rules in
      let sum = sum_by-cons (most_in s) rule rules in
      let more : 1 ≤ most_in s rule = some (width_of rule.number) (arg rule.args 0) in
      omega (arith, ih, sum, more)

  -- the clause of a rule may have a literal
  pub some-literal : (rule : Rule) → 1 ≤ most_in s rule
  some-literal rule = some (width_of rule.number) (arg rule.args 0)

  -- there is room for a rule that is kept, where there is for what is kept of it
  pub kept-room : (out : Rule → Bool) (old : List Rule) (rule : Rule) (clause : List Literal) → clause_of s rule ≡ Ok clause → out rule ≡ false
      → HasRoom s (old ++ kept s out rule) → HasRoom s (old ++ rule ∷ [])
  kept-room out old rule clause is left room = rw (is, left) at room

-- an atom that stands in the clause of a rule stands in that of one of more rules
any-left : {X : Type 0} (P : X → Type 0) (xs : List X) (x : X) → Any P xs → Any P (xs ++ x ∷ [])
any-left P xs y (k, x, low, at, is) = (k, x, omega (arith, low, length-append xs (y ∷ [])), get_or_append_left xs (y ∷ []) x k low ∙ at, is)

module _ (s : Sought) (old new : Clauses) (rule : Rule) (clause : List Literal) (lits : List Lit)
    (held : AreClauses s old) (of_rule : clause_of s rule ≡ Ok clause) (atoms : new.atoms ≡ with_atoms old.atoms clause) (read : ReadsAs new.atoms lits clause)
    (db : new.db ≡ old.db ++ lits ∷ []) (rules : new.rules ≡ old.rules ++ rule ∷ []) where
  count-one : length new.rules ≡ length new.db
  count-one = rw (db, rules) (omega (arith, held.count, length-append old.db (lits ∷ []), length-append old.rules (rule ∷ [])))

  keeps : Keeps old.atoms new.atoms
  keeps = rw atoms (keeps-atoms clause old.atoms)

  old-clause : (n : ℕ) (other : Rule) → slice_get old.rules n ≡ Some other → IsClauseOf s new.atoms other (clause_at new.db n)
  old-clause n other there =
      let is = held.clauses n other there in
      let low : n < length old.db = omega (arith, slice_get_within old.rules n other there, held.count) in
      let same : clause_at new.db n ≡ clause_at old.db n = rw db (get_or_append_left old.db (lits ∷ []) [] n low) in
      rw same (record { clause = is.clause; of_rule = is.of_rule; read = read-kept old.atoms new.atoms keeps (clause_at old.db n) is.clause is.read })

  last : (xs : List (List Lit)) (x : List Lit) → slice_index_or (xs ++ x ∷ []) (length xs) [] ≡ x
  last [] x = refl
  last (y ∷ xs) x = last xs x

  new-clause : (n : ℕ) (other : Rule) → n ≡ length old.rules → rule ≡ other → IsClauseOf s new.atoms other (clause_at new.db n)
  new-clause n other place same =
      let at : clause_at new.db n ≡ lits = rw (db, place, held.count) (last old.db lits) in
      rw at (record { clause = clause; of_rule = rw (← same) of_rule; read = read })

  clauses-one : (n : ℕ) (other : Rule) → slice_get new.rules n ≡ Some other → IsClauseOf s new.atoms other (clause_at new.db n)
  clauses-one n other there = elim (slice-end old.rules rule other n (rw rules at there)) [
    | inl before ↦ old-clause n other before
    | inr here ↦ new-clause n other here.0 here.1
  ]

  stands-new : (l : Literal) → Among clause l → StandsIn s l.atom rule
  stands-new l in_ =
      let (k, low, at) = place-of clause l in_ in
      record { clause = clause; of_rule = of_rule; there = (k, l, low, at, refl) }

  atoms-one : All (λ a. Any (StandsIn s a) new.rules) new.atoms
  atoms-one = rw (atoms, rules) (all-atoms (λ a. Any (StandsIn s a) (old.rules ++ rule ∷ [])) clause old.atoms
      (All-weaker (λ a. Any (StandsIn s a) old.rules) (λ a. Any (StandsIn s a) (old.rules ++ rule ∷ [])) (λ a is. any-left (StandsIn s a) old.rules rule is) old.atoms held.atoms)
      (λ l in_. Any-push (StandsIn s l.atom) old.rules rule (stands-new l in_)))

  few-one : length new.atoms ≤ most_literals_of s new.rules
  few-one = rw (atoms, rules) (
      let short = few-in s rule clause of_rule in
      let most = literals-one s old.rules rule in
      omega (arith, held.few, short, longer-atoms clause old.atoms, most))

  pub gains-one : Gains s old new (rule ∷ [])
  gains-one = record {
    rules = rules;
    clauses = record { count = count-one; clauses = clauses-one; atoms = atoms-one; few = few-one };
  }

-- without a rule more
pub gains-none : (s : Sought) (old new : Clauses) (rules : List Rule) → AreClauses s old → new ≡ old → rules ≡ [] → Gains s old new rules
gains-none s old new rules held same none = rw (same, none) (record { rules = sym (append-nil old.rules); clauses = held })

-- with further rules after others
pub gains-more : (s : Sought) (old mid new : Clauses) (first second all : List Rule) → Gains s old mid first → Gains s mid new second → all ≡ first ++ second → Gains s old new all
gains-more s old mid new first second all a b is = record {
  rules = rw is (b.rules ∙ ap (λ rules. rules ++ second) a.rules ∙ append_assoc old.rules first second);
  clauses = b.clauses;
}

-- a loop that goes through the lists of numbers
module _ (s : Sought) (f : ℕ → List Rule) (old mid : Clauses) (x : ℕ) (gained : Gains s old mid (flat_map f (range_with_len 0 x))) where
  -- with the list of one number more
  pub gains-next : (new : Clauses) → Gains s mid new (f x) → Gains s old new (flat_map f (range_with_len 0 (x + 1)))
  gains-next new more = gains-more s old mid new (flat_map f (range_with_len 0 x)) (f x) (flat_map f (range_with_len 0 (x + 1))) gained more (flat_map-range f x)

  -- there is room for the list of the next number where there is for all
  pub room-next : (n : ℕ) → x < n → HasRoom s (old.rules ++ flat_map f (range_with_len 0 n)) → HasRoom s (mid.rules ++ f x)
  unfolding most_literals_of
  room-next n less room =
      let first = flat_map f (range_with_len 0 x) in
      let low = part-low (most_in s) f x n less in
      let all = literals-append s old.rules (flat_map f (range_with_len 0 n)) in
      let before = literals-append s old.rules first in
      let here = literals-append s (old.rules ++ first) (f x) in
      rw gained.rules (omega (arith, room, low, all, before, here))

-- a loop that goes through the lists of some numbers
module _ (s : Sought) (f : ℕ → List Rule) (xs : List ℕ) (old mid : Clauses) (i d : ℕ) (low : i < length xs) (gained : Gains s old mid (flat_map f (take i xs))) where
  -- with the list of one number more
  pub gains-taken : (new : Clauses) → Gains s mid new (f (slice_index_or xs i d)) → Gains s old new (flat_map f (take (i + 1) xs))
  gains-taken new more = gains-more s old mid new (flat_map f (take i xs)) (f (slice_index_or xs i d)) (flat_map f (take (i + 1) xs)) gained more (flat-more f xs i d low)

  -- there is room for the list of the next number where there is for all
  pub room-taken : HasRoom s (old.rules ++ flat_map f xs) → HasRoom s (mid.rules ++ f (slice_index_or xs i d))
  unfolding most_literals_of
  room-taken room =
      let first = flat_map f (take i xs) in
      let part = part-taken f (most_in s) xs i d low in
      let all = literals-append s old.rules (flat_map f xs) in
      let before = literals-append s old.rules first in
      let here = literals-append s (old.rules ++ first) (f (slice_index_or xs i d)) in
      rw gained.rules (omega (arith, room, part, all, before, here))
