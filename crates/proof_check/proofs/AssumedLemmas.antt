-- What is known of the literals that are assumed stays so when there are more.
use Rattle.std.proofs.Common.{◌≡◌, ◌∙◌, sym, subst, ℕ, ◌+◌, ◌<◌, ◌⊎◌, inl, inr, List, [], ◌∷◌, ◌++◌, length, map, Ok, Err, arith}
use Rattle.std.specs.Prelude.{All, Contains, IfOk, MatchOption, Result}
use Rattle.std.specs.Result.{result_ok}
use Rattle.std.specs.declared.alloc.AllocError.{AllocError}
use Rattle.std.proofs.lemmas.Bool.{cases_lt}
use Rattle.std.proofs.lemmas.List.Elements.{All-contains, Contains-append_cases, Contains-append_left, Contains-append_right}
use Rattle.hint_refutation.specs.Hints.{Gives, IsFalseUnder}
use Rattle.hint_refutation.proofs.Hinted.{is_false}
use Rattle.hint_refutation.proofs.Lists.{all_from, contains_cases, contains_first, contains_later, contains_none}
use Rattle.axiom_rules.specs.declared.literal.Atom.{Atom}
use Rattle.axiom_rules.specs.declared.literal.Atom.TheVariants.{Gap}
use Rattle.axiom_rules.specs.declared.literal.Literal.{Literal}
use Rattle.axiom_rules.specs.Literals.{negated, no}
use Rattle.axiom_rules.specs.Sought.{Sought}
use Rattle.axiom_rules.specs.declared.rule.Rule.{Rule}
use Rattle.axiom_rules.specs.Clauses.{arg, clause_of}
use Rattle.proof_check.specs.declared.refutation.Taken.{Taken}
use Rattle.proof_check.specs.declared.refutation.Taken.TheVariants as taken
use Rattle.proof_check.specs.Refutation.{AreThose, IsTaken}
use Rattle.proof_check.specs.Standing.{AreNoGaps, IsAssumedRight, IsGapAmong, IsGapless, IsSpanOrGap}
use Rattle.proof_check.proofs.ThoseLemmas.{there_too}

-- what was given stays so
kept_given : (l : Literal) (given new : List Literal) → AreThose (l ∷ given) new → (m : Literal) → Contains given m → Contains new m
kept_given l given new grown m has = there_too (l ∷ given) new grown m (contains_later l m given has)

module _ (denied : List Literal) (places : List ℕ) (l : Literal) (given new list : List Literal) (gapless : List Atom) (right : IsAssumedRight denied places given list gapless)
    (grown : AreThose (l ∷ given) new) where
  kept_assumed : (m : Literal) → Contains (map negated denied ++ given) m → Contains (map negated denied ++ new) m
  kept_assumed m has = elim (Contains-append_cases (map negated denied) given m has) [
    | inl before ↦ Contains-append_left (map negated denied) new m before
    | inr behind ↦ Contains-append_right (map negated denied) new m (kept_given l given new grown m behind)
  ]

  found_still : All (IsGapless (map negated denied ++ new)) gapless
  found_still = all_from (IsGapless (map negated denied ++ new)) gapless
      (λ a has k i m is x below. kept_assumed (no (Gap k i x)) (All-contains (IsGapless (map negated denied ++ given)) gapless a right.found has k i m is x below))

  -- with a literal more that isn't listed
  pub right_given : IsAssumedRight denied places new list gapless
  right_given = record {
    sorted = right.sorted;
    listed = all_from (Contains new) list (λ m has. kept_given l given new grown m (All-contains (Contains given) list m right.listed has));
    found = found_still;
  }

  -- and with one that is
  pub right_listed : IsAssumedRight denied places new (list ++ l ∷ []) gapless
  right_listed = record {
    sorted = right.sorted;
    listed = all_from (Contains new) (list ++ l ∷ []) (λ m has. elim (Contains-append_cases list (l ∷ []) m has) [
      | inl before ↦ kept_given l given new grown m (All-contains (Contains given) list m right.listed before)
      | inr last ↦ elim (contains_cases l m [] last) [
        | inl is ↦ subst (λ (k : Literal). Contains new k) is (there_too (l ∷ given) new grown l (contains_first l given))
        | inr none ↦ absurd (contains_none m none)
      ]
    ]);
    found = found_still;
  }

gap_parts : (k i m l j n : ℕ) → Gap k i m ≡ Gap l j n → (k ≡ l) × (i ≡ j) × (m ≡ n)
gap_parts k i m l j n is = (cc, cc, cc)

-- where no gaps were found once more
pub right_found : (denied : List Literal) (places : List ℕ) (given list : List Literal) (gapless new : List Atom) (k i m : ℕ) → IsAssumedRight denied places given list gapless
    → AreNoGaps (map negated denied ++ given) k i m → AreThose (Gap k i m ∷ gapless) new → IsAssumedRight denied places given list new
right_found denied places given list gapless new k i m right none grown = record {
  sorted = right.sorted;
  listed = right.listed;
  found = all_from (IsGapless (map negated denied ++ given)) new (λ a has. elim (contains_cases (Gap k i m) a gapless (All-contains (Contains (Gap k i m ∷ gapless)) new a grown.only has)) [
    | inl here ↦ (λ l j n is x below.
        let parts = gap_parts k i m l j n (here ∙ is) in
        subst (λ (y : ℕ). Contains (map negated denied ++ given) (no (Gap y j x))) parts.0
        (subst (λ (y : ℕ). Contains (map negated denied ++ given) (no (Gap k y x))) parts.1 (none x (subst (λ (y : ℕ). x < y) (sym parts.2) below))))
    | inr there ↦ All-contains (IsGapless (map negated denied ++ given)) gapless a right.found there
  ]);
}

pub no_gaps_more : (assumed : List Literal) (k i x : ℕ) → AreNoGaps assumed k i x → Contains assumed (no (Gap k i x)) → AreNoGaps assumed k i (x + 1)
no_gaps_more assumed k i x before here y below = elim (cases_lt y x) [
  | inl less ↦ before y less
  | inr from ↦ (let same : y ≡ x = omega (arith, from, below) in subst (λ z. Contains assumed (no (Gap k i z))) (sym same) here)
]

-- a clause of which each literal but one is known to be false does what that one does
module _ (old new clause : List Literal) (l : Literal) (has : Contains clause l) (others : (m : Literal) → Contains clause m → (m ≡ l) ⊎ Contains old (negated m)) where
  abbrev alone : List Literal
  alone = l ∷ []

  only_one : (m : Literal) → Contains alone m → l ≡ m
  only_one m there = elim (contains_cases l m [] there) [ inl is ↦ is | inr none ↦ absurd (contains_none m none) ]

  false_whole : IsFalseUnder negated old alone → IsFalseUnder negated old clause
  false_whole falsified = all_from (λ m. Contains old (negated m)) clause (λ m in_. elim (others m in_) [
    | inl same ↦ subst (λ (k : Literal). Contains old (negated k)) (sym same) (is_false negated old alone l falsified (contains_first l []))
    | inr denied ↦ denied
  ])

  false_alone : IsFalseUnder negated old clause → IsFalseUnder negated old alone
  false_alone falsified = all_from (λ m. Contains old (negated m)) alone (λ m in_. subst (λ (k : Literal). Contains old (negated k)) (only_one m in_) (is_false negated old clause l falsified has))

  gives_whole : (u : Literal) → Gives negated old alone u → Gives negated old clause u
  gives_whole u gives =
      let is = only_one u gives.leaves.has in
      record {
        leaves = record {
          has = subst (λ (k : Literal). Contains clause k) is has;
          others_false = all_from (λ m. (m ≡ u) ⊎ Contains old (negated m)) clause (λ m in_. elim (others m in_) [ inl same ↦ inl (same ∙ is) | inr denied ↦ inr denied ]);
        };
        not_true = gives.not_true;
        not_false = gives.not_false;
      }

  gives_alone : (u : Literal) → Gives negated old clause u → Gives negated old alone u
  gives_alone u gives = elim (others u gives.leaves.has) [
    | inr denied ↦ absurd (gives.not_false denied)
    | inl same ↦ record {
      leaves = record {
        has = subst (λ (k : Literal). Contains alone k) (sym same) (contains_first l []);
        others_false = all_from (λ m. (m ≡ u) ⊎ Contains old (negated m)) alone (λ m in_. inl (sym (only_one m in_) ∙ sym same));
      };
      not_true = gives.not_true;
      not_false = gives.not_false;
    }
  ]

  pub taken_whole : (t : Taken) → IsTaken old alone new t → IsTaken old clause new t
  taken_whole taken.Gives is = record { literal = is.literal; gives = gives_whole is.literal is.gives; assumed = is.assumed }
  taken_whole taken.False is = record { falsified = false_whole is.falsified; kept = is.kept }
  taken_whole taken.Stuck is = record {
    neither = record { not_false = λ falsified. is.neither.not_false (false_alone falsified); gives_none = λ u gives. is.neither.gives_none u (gives_alone u gives) };
    kept = is.kept;
  }

-- so where there are no gaps, a rule that there is a span or a gap does what its span does
pub span_taken : (s : Sought) (rule : Rule) (l : Literal) (old new : List Literal) (t : Taken) (span : IsSpanOrGap s rule l)
    → AreNoGaps old (arg rule.args 0) (arg rule.args 1) (length s.log.rows) → IsTaken old (l ∷ []) new t → IsTaken old span.clause new t
span_taken s rule l old new t span none is = taken_whole old new span.clause l span.has others t is
  where
    others : (m : Literal) → Contains span.clause m → (m ≡ l) ⊎ Contains old (negated m)
    others m in_ = elim (All-contains (λ m. (m ≡ l) ⊎ IsGapAmong (length s.log.rows) (arg rule.args 0) (arg rule.args 1) m) span.clause m span.others in_) [
      | inl same ↦ inl same
      | inr gap ↦ inr (subst (λ (k : Literal). Contains old (negated k)) (sym gap.is) (none gap.event gap.there))
    ]

-- and so where the call may fail
pub rule_taken : (s : Sought) (rule : Rule) (l : Literal) (old mid new : List Literal) (r : Result Taken AllocError) → IsSpanOrGap s rule l
    → AreNoGaps old (arg rule.args 0) (arg rule.args 1) (length s.log.rows) → mid ≡ old → IfOk r (λ t. IsTaken mid (l ∷ []) new t)
    → IfOk r (λ t. MatchOption (result_ok (clause_of s rule)) (t ≡ taken.Stuck) (λ clause. IsTaken old clause new t))
rule_taken s rule l old mid new (Ok t) span none same is = rw span.is_clause (span_taken s rule l old new t span none (subst (λ ls. IsTaken ls (l ∷ []) new t) same is))
rule_taken s rule l old mid new (Err fault) span none same is = is
