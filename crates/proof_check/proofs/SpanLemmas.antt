-- The clause of the rule that there is a span or a gap.
use Rattle.std.proofs.Common.{◌≡◌, ◌∙◌, sym, ap, refl, subst, ℕ, zero, suc, ◌+◌, ◌<◌, ◌⊎◌, inl, inr, true, false, not, List, [], ◌∷◌, length, map, Option, Some, None, Ok, arith, true≢false}
use Rattle.std.specs.Prelude.{Contains, is_some, slice_index_or}
use Rattle.std.specs.List.{list_any, range_with_len}
use Rattle.std.proofs.lemmas.Bool.{cases_Bool, cases_lt, lt-ltb}
use Rattle.std.proofs.lemmas.Option.{slice_get_past}
use Rattle.mt_model.proofs.Members.{Among, any_some}
use Rattle.hint_refutation.proofs.Lists.{all_from, contains_cases, contains_first, contains_later, contains_none}
use Rattle.axiom_rules.specs.declared.literal.Atom.TheVariants.{Gap, Span}
use Rattle.axiom_rules.specs.declared.literal.Literal.{Literal}
use Rattle.axiom_rules.specs.declared.part.Part.{Part}
use Rattle.axiom_rules.specs.declared.reach.Reach.{Reach}
use Rattle.axiom_rules.specs.declared.rule.Rule.{Rule}
use Rattle.axiom_rules.specs.Literals.{has_literal, negated, yes}
use Rattle.axiom_rules.specs.NodeShapes.{reach_in, shape_at}
use Rattle.axiom_rules.specs.Parts.{clause_of_parts, clause_of_written, each_once, is_true, literals_in, opposes_itself}
use Rattle.axiom_rules.specs.Rules.{is, for_each_event, of_kind}
use Rattle.axiom_rules.specs.Sought.{Sought}
use Rattle.axiom_rules.proofs.AddingLemmas.{among-once, once-among, stands}
use Rattle.proof_check.specs.Standing.{IsGapAmong, IsSpanOrGap}

-- the literals of gaps, of so many events from one on
abbrev gaps_from : (k i start count : ℕ) → List Literal
gaps_from k i start count = map (λ m. yes (Gap k i m)) (range_with_len start count)

-- they are what is written for these
literals_of_gaps : (k i : ℕ) (events : List ℕ) → literals_in (map (λ m. is (Gap k i m)) events) ≡ map (λ m. yes (Gap k i m)) events
literals_of_gaps k i [] = refl
literals_of_gaps k i (e ∷ es) = ap (λ ls. yes (Gap k i e) ∷ ls) (literals_of_gaps k i es)

none_true : (k i : ℕ) (events : List ℕ) → list_any is_true (map (λ m. is (Gap k i m)) events) ≡ false
none_true k i [] = refl
none_true k i (e ∷ es) = none_true k i es

-- each literal is positive
abbrev ArePositive : List Literal → Type 0
ArePositive ls = (l : Literal) → Among ls l → l.positive ≡ true

gaps_positive : (k i : ℕ) (events : List ℕ) → ArePositive (map (λ m. yes (Gap k i m)) events)
gaps_positive k i [] l in_ = absurd in_
gaps_positive k i (e ∷ es) l (inl here) = ap (λ (m : Literal). m.positive) (sym here)
gaps_positive k i (e ∷ es) l (inr there) = gaps_positive k i es l there

positive_apart : (ls : List Literal) → ArePositive ls → opposes_itself ls ≡ false
positive_apart ls positive = elim (cases_Bool (opposes_itself ls)) [
  | inr fails ↦ fails
  | inl opposes ↦
      let (l, in_, is) = any_some (λ m. has_literal ls (negated m)) ls opposes in
      absurd (true≢false (sym (positive (negated l) (stands ls (negated l) is)) ∙ ap not (positive l in_)))
]

contained : (ls : List Literal) (l : Literal) → Among ls l → Contains ls l
contained [] l in_ = absurd in_
contained (m ∷ ms) l (inl here) = subst (λ (k : Literal). Contains (m ∷ ms) k) here (contains_first m ms)
contained (m ∷ ms) l (inr there) = contains_later m l ms (contained ms l there)

among : (ls : List Literal) (l : Literal) → Contains ls l → Among ls l
among [] l has = absurd (contains_none l has)
among (m ∷ ms) l has = elim (contains_cases m l ms has) [ inl here ↦ inl here | inr there ↦ inr (among ms l there) ]

gap_among : (k i start count : ℕ) (l : Literal) → Among (gaps_from k i start count) l → IsGapAmong (start + count) k i l
gap_among k i start zero l in_ = absurd in_
gap_among k i start (suc n) l (inl here) = record { event = start; there = omega arith; is = sym here }
gap_among k i start (suc n) l (inr there) =
    let gap = gap_among k i (start + 1) n l there in
    record { event = gap.event; there = omega (arith, gap.there); is = gap.is }

clause_made : (parts : List Part) (ls : List Literal) → list_any is_true parts ≡ false → literals_in parts ≡ ls → opposes_itself ls ≡ false → clause_of_parts parts ≡ Ok (each_once ls)
clause_made parts ls known same none = rw (known, same, none) refl

module _ (s : Sought) (k i j : ℕ) where
  abbrev events : ℕ
  events = length s.log.rows

  abbrev span : Literal
  span = yes (Span k i j)

  abbrev gaps : List Literal
  gaps = gaps_from k i 0 events

  abbrev parts : List Part
  parts = is (Span k i j) ∷ for_each_event s (λ m. is (Gap k i m))

  all_positive : ArePositive (span ∷ gaps)
  all_positive l (inl here) = ap (λ (m : Literal). m.positive) (sym here)
  all_positive l (inr there) = gaps_positive k i (range_with_len 0 events) l there

  -- what is written says nothing that is known, and opposes itself nowhere
  span_clause : clause_of_parts parts ≡ Ok (each_once (span ∷ gaps))
  span_clause = clause_made parts (span ∷ gaps) (none_true k i (range_with_len 0 events)) (ap (λ ls. span ∷ ls) (literals_of_gaps k i (range_with_len 0 events)))
      (positive_apart (span ∷ gaps) all_positive)

  others : (l : Literal) → Contains (each_once (span ∷ gaps)) l → (l ≡ span) ⊎ IsGapAmong events k i l
  others l has = elim (once-among (span ∷ gaps) l (among (each_once (span ∷ gaps)) l has)) [
    | inl here ↦ inl (sym here)
    | inr there ↦ (let gap = gap_among k i 0 events l there in inr (record { event = gap.event; there = omega (arith, gap.there); is = gap.is }))
  ]

  node_there : is_some (reach_in (shape_at s k)) ≡ true → k < length s.trees
  node_there reach = elim (cases_lt k (length s.trees)) [
    | inl below ↦ below
    | inr past ↦ (let none = slice_get_past s.trees k past in absurd (true≢false (sym (rw none at reach))))
  ]

  written : (o : Option Reach) → is_some o ≡ true → clause_of_written (of_kind o (λ u. Ok parts)) ≡ Ok (each_once (span ∷ gaps))
  written None none = absurd (cc)
  written (Some u) some = span_clause

  -- the rule has that clause where its arguments are there
  pub span_or_gap : (rule : Rule) → rule.number ≡ 20 → rule.args ≡ k ∷ i ∷ j ∷ 0 ∷ [] → is_some (reach_in (shape_at s k)) ≡ true → i < events → j < events → IsSpanOrGap s rule span
  span_or_gap rule number args reach first second = record {
    clause = each_once (span ∷ gaps);
    is_clause = rw (number, args, lt-ltb k (length s.trees) (node_there reach), lt-ltb i events first, lt-ltb j events second) (written (reach_in (shape_at s k)) reach);
    has = contained (each_once (span ∷ gaps)) span (among-once (span ∷ gaps) span (inl refl));
    others = rw args (all_from (λ m. (m ≡ span) ⊎ IsGapAmong events k i m) (each_once (span ∷ gaps)) others);
  }

-- the arguments of a rule that uses three
pub three_args : (args : List ℕ) → length args ≡ 4 → slice_index_or args 3 0 ≡ 0 → args ≡ slice_index_or args 0 0 ∷ slice_index_or args 1 0 ∷ slice_index_or args 2 0 ∷ 0 ∷ []
three_args [] size last = absurd (omega (arith, size))
three_args (a ∷ []) size last = absurd (omega (arith, size))
three_args (a ∷ b ∷ []) size last = absurd (omega (arith, size))
three_args (a ∷ b ∷ c ∷ []) size last = absurd (omega (arith, size))
three_args (a ∷ b ∷ c ∷ d ∷ []) size last = ap (λ n. a ∷ b ∷ c ∷ n ∷ []) last
three_args (a ∷ b ∷ c ∷ d ∷ e ∷ es) size last = absurd (omega (arith, size))
