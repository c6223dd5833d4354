-- Learn lines and their clauses, by the numbers of the lines.
use Rattle.std.proofs.Common.{◌≡◌, ◌∙◌, ap, sym, subst, refl, ℕ, zero, suc, ◌+◌, ◌-◌, ◌<◌, inl, inr, List, [], ◌∷◌, length, take, Option, Some, None, arith}
use Rattle.std.specs.Prelude.{All, AllPairs, Contains, if◌then◌else◌, slice_get}
use Rattle.std.specs.List.{cons_option, filter_map}
use Rattle.std.proofs.lemmas.List.Elements.{All-head, All-tail}
use Rattle.std.proofs.lemmas.List.Kept.{AllPairs-cons}
use Rattle.std.proofs.lemmas.List.Sums.{sum_by-cons}
use Rattle.std.proofs.lemmas.Option.{get_or_from_slice_get, slice_get_within}
use Rattle.hint_refutation.proofs.Lists.{all_from, contains_cases, contains_first, contains_later, contains_none}
use Rattle.axiom_rules.specs.declared.literal.Literal.{Literal}
use Rattle.proof_log.specs.declared.line.Line.{Line}
use Rattle.proof_log.specs.declared.line.Line.TheVariants as line
use Rattle.proof_log.specs.Derivations.{line_at}
use Rattle.proof_log.specs.Freshness.{IsLearnAt, is_learn, learn_lines, learnt, learnt_clause}

module _ {X Y : Type 0} (h : X → Option Y) where
  -- what comes of elements, and of which
  pub given_at : (xs : List X) (y : Y) → Contains (filter_map h xs) y → (k : ℕ) × (x : X) × (slice_get xs k ≡ Some x) × (h x ≡ Some y)
  given_at [] y has = absurd (contains_none y has)
  given_at (x ∷ xs) y has = go (h x) refl has (λ later. given_at xs y later) where
    go : (o : Option Y) → h x ≡ o → Contains (cons_option o (filter_map h xs)) y → (Contains (filter_map h xs) y → (k : ℕ) × (w : X) × (slice_get xs k ≡ Some w) × (h w ≡ Some y))
        → (k : ℕ) × (w : X) × (slice_get (x ∷ xs) k ≡ Some w) × (h w ≡ Some y)
    go None is in_ next = let (k, w, at, gives) = next in_ in (suc k, w, at, gives)
    go (Some z) is in_ next = elim (contains_cases z y (filter_map h xs) in_) [
      | inl same ↦ (0, x, refl, is ∙ ap Some same)
      | inr later ↦ let (k, w, at, gives) = next later in (suc k, w, at, gives)
    ]

  later_given : (o : Option Y) (ys : List Y) (y : Y) → Contains ys y → Contains (cons_option o ys) y
  later_given None ys y has = has
  later_given (Some z) ys y has = contains_later z y ys has

  pub given_has : (xs : List X) (x : X) (y : Y) → Contains xs x → h x ≡ Some y → Contains (filter_map h xs) y
  given_has [] x y has is = absurd (contains_none x has)
  given_has (w ∷ ws) x y has is = elim (contains_cases w x ws has) [
    | inl same ↦ let here : h w ≡ Some y = ap h same ∙ is in rw here (contains_first y (filter_map h ws))
    | inr later ↦ later_given (h w) (filter_map h ws) y (given_has ws x y later is)
  ]

  tail_given : (P : Y → Type 0) (o : Option Y) (ys : List Y) → All P (cons_option o ys) → All P ys
  tail_given P None ys all = all
  tail_given P (Some y) ys all = All-tail P y ys all

  head_given : (P : Y → Type 0) (o : Option Y) (ys : List Y) (y : Y) → o ≡ Some y → All P (cons_option o ys) → P y
  head_given P None ys y is all = absurd (cc)
  head_given P (Some z) ys y is all = let same : z ≡ y = cc in subst P same (All-head P z ys all)

  -- what holds between all that comes before an element and what comes of it holds between each two
  pub given_pairs : (R : Y → Y → Type 0) (xs : List X) → ((k : ℕ) (x : X) (y : Y) → slice_get xs k ≡ Some x → h x ≡ Some y → All (λ z. R z y) (filter_map h (take k xs))) → AllPairs R (filter_map h xs)
  given_pairs R [] each = λ i j d less below. absurd (omega (arith, below))
  given_pairs R (x ∷ xs) each = go (h x) refl (given_pairs R xs (λ k w y at gives. tail_given (λ z. R z y) (h x) (filter_map h (take k xs)) (each (suc k) w y at gives))) where
    firsts : (c : Y) → h x ≡ Some c → All (R c) (filter_map h xs)
    firsts c is = all_from (R c) (filter_map h xs) (λ y has.
        let (k, w, at, gives) = given_at xs y has in
        head_given (λ z. R z y) (h x) (filter_map h (take k xs)) c is (each (suc k) w y at gives))

    go : (o : Option Y) → h x ≡ o → AllPairs R (filter_map h xs) → AllPairs R (cons_option o (filter_map h xs))
    go None is tails = tails
    go (Some c) is tails = AllPairs-cons R c (filter_map h xs) (firsts c is) tails

-- an element at a place of a front
got_front : {X : Type 0} (xs : List X) (n k : ℕ) (x : X) → k < n → slice_get xs k ≡ Some x → slice_get (take n xs) k ≡ Some x
got_front [] n k x less at = absurd (cc)
got_front (y ∷ ys) zero k x less at = absurd (omega (arith, less))
got_front (y ∷ ys) (suc n) zero x less at = at
got_front (y ∷ ys) (suc n) (suc k) x less at = got_front ys n k x (omega (arith, less)) at

-- line m is among the lines before a later one
pub line_front : (lines : List Line) (m n : ℕ) (d : Line) → m < n → line_at lines m ≡ Some d → Contains (take (n - 1) lines) d
line_front lines zero n d less at = absurd (cc)
line_front lines (suc k) n d less at =
    let there = got_front lines (n - 1) k d (omega (arith, less)) at in
    (k, slice_get_within (take (n - 1) lines) k d there, get_or_from_slice_get (take (n - 1) lines) k d d there)

-- a clause is that of a Learn line
pub learn_of : (lines : List Line) (k : ℕ) (d : Line) (c : List Literal) → slice_get lines k ≡ Some d → learnt_clause d ≡ Some c → (learn : IsLearnAt lines (suc k)) × (learn.lits ≡ c)
learn_of lines k (line.Cycle steps) c at is = absurd (cc)
learn_of lines k (line.Learn lits hints) c at is = (record { lits = lits; hints = hints; stands = at }, cc)

-- a line has one clause
pub learn_same : (lines : List Line) (n : ℕ) (one other : IsLearnAt lines n) → one.lits ≡ other.lits
learn_same lines n one other = let same = sym one.stands ∙ other.stands in cc

pub learn_count : (lines : List Line) → learn_lines lines ≡ length (learnt lines)
learn_count [] = refl
learn_count (line.Cycle steps ∷ ds) =
    let more : learn_lines (line.Cycle steps ∷ ds) ≡ 0 + learn_lines ds = sum_by-cons (λ d. if is_learn d then 1 else 0) (line.Cycle steps) ds in
    let rest = learn_count ds in
    omega (arith, more, rest)
learn_count (line.Learn lits hints ∷ ds) =
    let more : learn_lines (line.Learn lits hints ∷ ds) ≡ 1 + learn_lines ds = sum_by-cons (λ d. if is_learn d then 1 else 0) (line.Learn lits hints) ds in
    let rest = learn_count ds in
    omega (arith, more, rest)
