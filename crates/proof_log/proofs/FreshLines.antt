-- Fresh lines differ as sets of literals, so there are fewer than three to the number of atoms; and none is fresh where the rules
-- alone refute.
use Rattle.std.proofs.Common.{◌≡◌, ◌∙◌, sym, subst, refl, ℕ, suc, ◌-◌, ◌^◌, ◌<◌, ◌⊎◌, inl, inr, Bool, List, [], ◌∷◌, ◌++◌, length, map, take, get_or, Some, arith}
use Rattle.std.specs.Prelude.{All, AllPairs, Contains}
use Rattle.std.specs.Result.{result_ok}
use Rattle.std.proofs.lemmas.Bool.{cases_lt}
use Rattle.std.proofs.lemmas.List.Elements.{All-nil, All-cons, All-head, All-contains, All-weaker, Contains-append_left, Contains-append_right, Contains-get_or, filter_map-append}
use Rattle.std.proofs.lemmas.List.Kept.{AllPairs-cons}
use Rattle.std.proofs.lemmas.Option.{slice_get_within}
use Rattle.mt_model.specs.Form.{Form}
use Rattle.mt_model.specs.Log.{Logged}
use Rattle.hint_refutation.specs.Hints.{LeavesOnly}
use Rattle.hint_refutation.proofs.Lists.{all_from, any_found, contains_cases, contains_map, contains_none}
use Rattle.hint_refutation.proofs.Propagated.{closed_keeps, closed_not_false, closed-by_clauses, closed-has_reached}
use Rattle.axiom_rules.specs.declared.literal.Atom.{Atom}
use Rattle.axiom_rules.specs.declared.literal.Literal.{Literal}
use Rattle.axiom_rules.specs.declared.rule.Rule.{Rule}
use Rattle.axiom_rules.specs.Clauses.{clause_of}
use Rattle.axiom_rules.specs.Literals.{negated}
use Rattle.axiom_rules.specs.Occurs.{OccursInRules}
use Rattle.axiom_rules.specs.Sought.{Sought, sought_of}
use Rattle.proof_log.specs.declared.line.Line.{Line}
use Rattle.proof_log.specs.declared.line.Line.TheVariants as line
use Rattle.proof_log.specs.Freshness.{IsLearnAt, IsNew, Spends, clauses_of, known_before, learnt, learnt_clause, named_rules}
use Rattle.proof_log.specs.FreshLaws.{FreshLinesDiffer, HaveSameLiterals, IsRefutedByRules, RefutedByRulesIsNotSpent, SpentIsBounded}
use Rattle.proof_log.proofs.LearnLines.{given_at, given_has, given_pairs, learn_count, learn_of, learn_same, line_front}
use Rattle.proof_log.proofs.LiteralSets.{IsPlain, few_sets, plain_once}

-- a clause that is new hasn't the literals of one that is there
new_differs : (clauses : List (List Literal)) (own other : List Literal) → IsNew clauses own → Contains clauses other → HaveSameLiterals other own → ⊥
new_differs clauses [] other is_new has same = is_new
new_differs clauses (first ∷ others) other missed has same =
    let leaves : LeavesOnly negated (map negated others) other first = record {
      has = All-head (Contains other) first others same.back;
      others_false = all_from (λ l. (l ≡ first) ⊎ Contains (map negated others) (negated l)) other (λ l there.
          elim (contains_cases first l others (All-contains (Contains (first ∷ others)) other l same.into there)) [
            | inl here ↦ inl (sym here)
            | inr later ↦ inr (contains_map negated others l later)
          ]);
    } in
    missed.lacks (closed_keeps negated clauses missed.set (map negated others) other first missed.closed missed.has has leaves)

-- the clauses of earlier Learn lines are known
learnt_known : (s : Sought) (rules : List Rule) (lines : List Line) (n : ℕ) (c : List Literal) → Contains (learnt (take (n - 1) lines)) c → Contains (known_before s rules lines n) c
learnt_known s rules lines n c has = Contains-append_right (clauses_of s (rules ++ named_rules (take n lines))) (learnt (take (n - 1) lines)) c has

-- so are those of the rules
rules_known : (s : Sought) (rules : List Rule) (lines : List Line) (n : ℕ) → All (Contains (known_before s rules lines n)) (clauses_of s rules)
rules_known s rules lines n = all_from (Contains (known_before s rules lines n)) (clauses_of s rules) (λ c has.
    let named = named_rules (take n lines) in
    let split = filter_map-append (λ (r : Rule). result_ok (clause_of s r)) rules named in
    Contains-append_left (clauses_of s (rules ++ named)) (learnt (take (n - 1) lines)) c
    (subst (λ (cs : List (List Literal)). Contains cs c) (sym split) (Contains-append_left (clauses_of s rules) (clauses_of s named) c has)))

pub fresh-lines_differ : FreshLinesDiffer
fresh-lines_differ log f v rules lines m n earlier fresh less same =
    let s = sought_of log f v in
    let there =
    given_has learnt_clause (take (n - 1) lines) (line.Learn earlier.lits earlier.hints) earlier.lits (line_front lines m n (line.Learn earlier.lits earlier.hints) less earlier.stands) refl in
    new_differs (known_before s rules lines n) fresh.learn.lits earlier.lits fresh.is_new (learnt_known s rules lines n earlier.lits there) same

module _ (log : Logged) (f : Form) (v : Bool) (rules : List Rule) (conflicts : ℕ) (lines : List Line) (spends : Spends log f v rules conflicts lines) where
  abbrev s : Sought
  s = sought_of log f v

  -- each Learn line's clause differs from those of the earlier ones
  learnt_apart : AllPairs (λ c d. HaveSameLiterals c d → ⊥) (learnt lines)
  learnt_apart = given_pairs learnt_clause (λ c d. HaveSameLiterals c d → ⊥) lines (λ k x y at gives.
      let (learn, own) = learn_of lines k x y at gives in
      let fresh = spends.fresh (suc k) learn in
      let is : fresh.learn.lits ≡ y = learn_same lines (suc k) fresh.learn learn ∙ own in
      let place : suc k - 1 ≡ k = omega arith in
      all_from (λ z. HaveSameLiterals z y → ⊥) (learnt (take k lines)) (λ z has same.
      new_differs (known_before s rules lines (suc k)) fresh.learn.lits z fresh.is_new
      (learnt_known s rules lines (suc k) z (subst (λ (i : ℕ). Contains (learnt (take i lines)) z) (sym place) has))
      (subst (λ (c : List Literal). HaveSameLiterals z c) (sym is) same)))

  -- no Learn line has an atom twice
  learnt_plain : All IsPlain (learnt lines)
  learnt_plain = all_from IsPlain (learnt lines) (λ y has.
      let (k, x, at, gives) = given_at learnt_clause lines y has in
      let (learn, own) = learn_of lines k x y at gives in
      let right = (spends.derives.none_wrong (suc k) (omega arith) (let low = slice_get_within lines k x at in omega (arith, low))).right in
      let same : Some right.line ≡ Some (line.Learn learn.lits learn.hints) = sym right.stands ∙ learn.stands in
      let is : right.line ≡ line.Learn learn.lits learn.hints = cc in
      let spelled = rw is at right.spelled in
      subst IsPlain own (plain_once learn.lits spelled.once))

  -- nor is one empty
  learnt_some : All (λ d. HaveSameLiterals [] d → ⊥) (learnt lines)
  learnt_some = all_from (λ d. HaveSameLiterals [] d → ⊥) (learnt lines) (λ y has same.
      let (k, x, at, gives) = given_at learnt_clause lines y has in
      let (learn, own) = learn_of lines k x y at gives in
      none_empty y same (λ empty. spends.derives.none_empty (suc k) (rw (learn.stands, own, empty) refl)))
    where
      none_empty : (y : List Literal) → HaveSameLiterals [] y → (y ≡ [] → ⊥) → ⊥
      none_empty [] same some = some refl
      none_empty (l ∷ ls) same some = contains_none l (All-head (Contains []) l ls same.back)

  pub few_lines : (atoms : List Atom) → All (All (λ l. Contains atoms l.atom)) (learnt lines) → conflicts < 3 ^ length atoms
  few_lines atoms among =
      let count = learn_count lines in
      let few = few_sets atoms ([] ∷ learnt lines) (All-cons IsPlain [] (learnt lines) (λ k l has_k has_l same. absurd (contains_none k has_k)) learnt_plain)
      (All-cons (λ (c : List Literal). All (λ (l : Literal). Contains atoms l.atom) c) [] (learnt lines) (All-nil (λ (l : Literal). Contains atoms l.atom)) among)
      (AllPairs-cons (λ c d. HaveSameLiterals c d → ⊥) [] (learnt lines) learnt_some learnt_apart) in
      omega (arith, few, count, spends.count)

  -- some line is a Learn line
  some_learn : 0 < conflicts → (n : ℕ) × IsLearnAt lines n
  some_learn some =
      let count = learn_count lines in
      let y = get_or (learnt lines) 0 [] in
      let (k, x, at, gives) = given_at learnt_clause lines y (Contains-get_or (learnt lines) 0 [] (omega (arith, some, count, spends.count))) in
      (suc k, (learn_of lines k x y at gives).0)

pub spent-bounded : SpentIsBounded
spent-bounded = record {
  by_lines = λ log f v rules conflicts lines atoms spends among. few_lines log f v rules conflicts lines spends atoms among;
  by_rules = λ log f v rules conflicts lines atoms spends there. few_lines log f v rules conflicts lines spends atoms
      (All-weaker (λ (c : List Literal). All (λ (l : Literal). OccursInRules (sought_of log f v) l.atom) c) (λ (c : List Literal). All (λ (l : Literal). Contains atoms l.atom) c)
      (λ c occur. All-weaker (λ (l : Literal). OccursInRules (sought_of log f v) l.atom) (λ (l : Literal). Contains atoms l.atom) (λ l is. there l.atom is) c occur) (learnt lines) spends.occur);
}

-- nothing is new where the rules refute
refuted_not_new : (s : Sought) (rules : List Rule) (lines : List Line) (n : ℕ) (lits : List Literal) → IsRefutedByRules s rules → IsNew (known_before s rules lines n) lits → ⊥
refuted_not_new s rules lines n [] refuted is_new = is_new
refuted_not_new s rules lines n (first ∷ others) refuted missed =
    let own = clauses_of s rules in
    let closed = (closed-by_clauses Literal).fewer negated (known_before s rules lines n) own missed.set (rules_known s rules lines n) missed.closed in
    let all = (closed-has_reached Literal).has negated own missed.set [] refuted.reached closed (All-nil (Contains missed.set)) refuted.reaches in
    let (clause, has, falsified) = any_found _ own refuted.falsified in
    closed_not_false negated own missed.set refuted.reached clause closed all has falsified

pub refuted-not_spent : RefutedByRulesIsNotSpent
refuted-not_spent = record {
  none_fresh = λ log f v rules lines n refuted fresh. refuted_not_new (sought_of log f v) rules lines n fresh.learn.lits refuted fresh.is_new;
  none_spent = λ log f v rules conflicts lines refuted spends. elim (cases_lt 0 conflicts) [
    | inl some ↦
        let (n, learn) = some_learn log f v rules conflicts lines spends some in
        let fresh = spends.fresh n learn in
        absurd (refuted_not_new (sought_of log f v) rules lines n fresh.learn.lits refuted fresh.is_new)
    | inr none ↦ omega (arith, none)
  ];
}
