-- What unit propagation over one list of the rules that are kept reaches, it reaches over any other.
use Rattle.std.proofs.Common.{◌≡◌, ◌∙◌, sym, subst, ℕ, Bool, false, List, [], ◌∷◌, length, inl, inr, arith}
use Rattle.std.specs.Prelude.{All, Any, Contains}
use Rattle.std.proofs.lemmas.Bool.{cases_lt}
use Rattle.std.proofs.lemmas.Int.{ints}
use Rattle.std.proofs.lemmas.List.Elements.{All-contains, All-contains_itself}
use Rattle.mt_model.specs.Form.{Form}
use Rattle.mt_model.specs.Log.{Logged}
use Rattle.hint_refutation.specs.Propagation.{Reaches}
use Rattle.hint_refutation.specs.Hints.{IsFalseUnder, LeavesOnly}
use Rattle.hint_refutation.proofs.Lists.{all_from, any_found, any_from}
use Rattle.axiom_rules.specs.declared.literal.Literal.{Literal}
use Rattle.axiom_rules.specs.declared.rule.Rule.{Rule}
use Rattle.axiom_rules.specs.Literals.{negated}
use Rattle.axiom_rules.specs.Sought.{Sought, sought_of}
use Rattle.proof_log.specs.FreshLaws.{IsRefutedByRules}
use Rattle.proof_log.specs.Freshness.{clauses_of}
use Rattle.mtl_encode.specs.Kept.{Kept}
use Rattle.mtl_encode.specs.Listing.{IsKept, ListsRules}
use Rattle.question.specs.Extremes.{AreExtremes, Extremes}
use Rattle.mtl_encode.specs.Needless.{is_needless}
use Rattle.cdcl_core.proofs.Spending.{clauses_within}

any_within : {X : Type 0} (P : X → Type 0) (xs ys : List X) → All (Contains ys) xs → Any P xs → Any P ys
any_within P xs ys within any =
    let (x, has, is) = any_found P xs any in
    any_from P ys x (All-contains (Contains ys) xs x within has) is

reaches_within : (clauses more : List (List Literal)) → All (Contains more) clauses → (assumed reached : List Literal) → Reaches negated clauses assumed reached → Reaches negated more assumed reached
reaches_within clauses more within assumed [] reaches = tt
reaches_within clauses more within assumed (u ∷ us) reaches = (
  any_within (λ clause. LeavesOnly negated assumed clause u) clauses more within reaches.0,
  reaches_within clauses more within (u ∷ assumed) us reaches.1,
)

module _ (s : Sought) (out : Rule → Bool) (rules others : List Rule) (kept : ListsRules s out rules) (same : ListsRules s out others) where
  clauses_same : All (Contains (clauses_of s others)) (clauses_of s rules)
  clauses_same =
      let among = all_from (Contains others) rules (λ rule has.
      let is = All-contains (IsKept s out) rules rule kept.only has in
      same.every rule is.0.0 is.0.1 is.1) in
      clauses_within s others rules (Contains (clauses_of s others)) among (All-contains_itself (clauses_of s others))

  pub refuted_same : IsRefutedByRules s rules → IsRefutedByRules s others
  refuted_same refuted = record {
    reached = refuted.reached;
    reaches = reaches_within (clauses_of s rules) (clauses_of s others) clauses_same [] refuted.reached refuted.reaches;
    falsified = any_within (IsFalseUnder negated refuted.reached) (clauses_of s rules) (clauses_of s others) clauses_same refuted.falsified;
  }

-- a log has one least and one greatest difference for each two events
greatest-same : (log : Logged) (x y : Extremes) → AreExtremes log x → AreExtremes log y → (e f : ℕ) → x.greatest e f ≡ y.greatest e f
greatest-same log x y a b e f = elim (cases_lt e (length log.rows)) [
  | inr past ↦ a.greatest_beyond e f (inl past) ∙ sym (b.greatest_beyond e f (inl past))
  | inl low-e ↦ elim (cases_lt f (length log.rows)) [
    | inr past ↦ a.greatest_beyond e f (inr past) ∙ sym (b.greatest_beyond e f (inr past))
    | inl low-f ↦
        let one = a.greatest e f low-e low-f in
        let other = b.greatest e f low-e low-f in
        let high = other.bound one.attained.timing one.attained.admissible in
        let low = one.bound other.attained.timing other.attained.admissible in
        omega (arith, ints, one.attained.same, other.attained.same, high, low)
  ]
]

least-same : (log : Logged) (x y : Extremes) → AreExtremes log x → AreExtremes log y → (e f : ℕ) → x.least e f ≡ y.least e f
least-same log x y a b e f = elim (cases_lt e (length log.rows)) [
  | inr past ↦ a.least_beyond e f (inl past) ∙ sym (b.least_beyond e f (inl past))
  | inl low-e ↦ elim (cases_lt f (length log.rows)) [
    | inr past ↦ a.least_beyond e f (inr past) ∙ sym (b.least_beyond e f (inr past))
    | inl low-f ↦
        let one = a.least e f low-e low-f in
        let other = b.least e f low-e low-f in
        let low = other.bound one.attained.timing one.attained.admissible in
        let high = one.bound other.attained.timing other.attained.admissible in
        omega (arith, ints, one.attained.same, other.attained.same, high, low)
  ]
]

extremes-same : (log : Logged) (x y : Extremes) → AreExtremes log x → AreExtremes log y → x ≡ y
extremes-same log x y a b = λ i. record { greatest = λ e f. (greatest-same log x y a b e f) i; least = λ e f. (least-same log x y a b e f) i }

-- rules that are kept for a log, a formula and a value
pub kept_refuted : (log : Logged) (f : Form) (v : Bool) (rules others : List Rule) → Kept log f v rules → Kept log f v others
    → IsRefutedByRules (sought_of log f v) rules → IsRefutedByRules (sought_of log f v) others
kept_refuted log f v rules others (inl kept) (inl same) refuted =
    let s = sought_of log f v in
    let one = extremes-same log kept.extremes same.extremes kept.are same.are in
    let lists = subst (λ (x : Extremes). ListsRules s (is_needless x s) rules) one kept.lists in
    refuted_same s (is_needless same.extremes s) rules others lists same.lists refuted
kept_refuted log f v rules others (inl kept) (inr same) refuted = absurd (same.inconsistent kept.consistent.timing kept.consistent.admissible)
kept_refuted log f v rules others (inr kept) (inl same) refuted = absurd (kept.inconsistent same.consistent.timing same.consistent.admissible)
kept_refuted log f v rules others (inr kept) (inr same) refuted = refuted_same (sought_of log f v) (λ rule. false) rules others kept.lists same.lists refuted
