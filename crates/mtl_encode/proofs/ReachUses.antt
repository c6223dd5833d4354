-- What the rules say of an until or a since node is what its truth needs.
use Rattle.std.proofs.Common.{◌≡◌, ◌∙◌, sym, refl, subst, ℕ, ◌<◌, Bool, true, false, not, ◌&&◌, ◌||◌, if◌then◌else◌, inl, inr, List, [], ◌∷◌, length, Option, Some, None, Ok, Err, ℤ, ◌-ℤ◌, arith}
use Rattle.std.specs.Prelude.{int_le}
use Rattle.std.specs.Option.{option_map_or}
use Rattle.std.proofs.lemmas.Bool.{and_from, and_parts, cases_Bool, or_cases, not-true, not_from_true}
use Rattle.mt_model.specs.declared.tree.Interval.{Interval}
use Rattle.mt_model.specs.Frame.{Frame}
use Rattle.mt_model.specs.Timing.{time_of}
use Rattle.mt_model.specs.Truth.{rows_in}
use Rattle.mt_model.proofs.Members.{Among}
use Rattle.formula_arena.specs.Directions.{is_near, met}
use Rattle.formula_arena.specs.declared.direction.Direction.{Direction}
use Rattle.axiom_rules.specs.declared.fault.RuleFault.TheVariants.{Kind, NoRule}
use Rattle.axiom_rules.specs.declared.literal.Atom.{Atom}
use Rattle.axiom_rules.specs.declared.literal.Atom.TheVariants.{Gap, Node, Order, Span, Wit}
use Rattle.axiom_rules.specs.declared.part.Part.TheVariants.{Known}
use Rattle.axiom_rules.specs.declared.reach.Reach.{Reach}
use Rattle.axiom_rules.specs.NodeShapes.{is_constant, reach_in, shape_at}
use Rattle.axiom_rules.specs.Rules.{for_each_event, is, is_from, is_not, is_not_from, is_not_up_to, is_up_to, met_after, not_met_after}
use Rattle.axiom_rules.specs.Rules as rule
use Rattle.axiom_rules.specs.Sought.{Sought}
use Rattle.axiom_rules.proofs.BoolLemmas.{apart}
use Rattle.axiom_rules.proofs.MeaningLemmas.{at_row, from, near-parts, row_at, up_to}
use Rattle.axiom_rules.proofs.PartLemmas.{part_holds}
use Rattle.mtl_encode.specs.Exact.{SatisfiesKept}
use Rattle.question.specs.Extremes.{Extremes}
use Rattle.mtl_encode.specs.Needless.{has_constant, is_always_before, is_always_from, is_always_up_to, is_dead, is_needless, is_never_before, is_never_from, is_never_up_to, may_be_from}
use Rattle.mtl_encode.proofs.ClauseUses.{first_of, first_of_5, last_of_2, last_of_3, last_of_4, rest_of}
use Rattle.mtl_encode.proofs.PartUses.{WrittenIsTrue}
use Rattle.mtl_encode.proofs.ExtremeUses.{BoundsTimes, always-before-says, always-from-says, always-up_to-says, beyond-not-always, near-alive, never-before-says, never-from-says, never-may-not, never-not-always, never-up_to-says}
use Rattle.mtl_encode.proofs.NodeUses.{constant-exact}
use Rattle.mtl_encode.proofs.ReachExact.{AllowedByRules}
use Rattle.mtl_encode.proofs.RuleUses.{event-true, from-true, kind-true, met_after-true, met_not_after-true, not_from-true, not_up_to-true, of_node_event-true, of_node_events-true, of_node_three_events-true, up_to-true}

module _ (s : Sought) (x : Extremes) (v : Atom → Bool) (satisfied : SatisfiesKept s (is_needless x s) v) (t : List ℤ)
    (agrees : (e f : ℕ) (c : ℤ) → v (Order e f c) ≡ int_le (time_of t e -ℤ time_of t f) c)
    (bounded : BoundsTimes x t (length s.log.rows)) where
  module _ (k : ℕ) (low : k < length s.trees) (direction : Direction) (I : Interval) (l r : ℕ)
      (node : reach_in (shape_at s k) ≡ Some (record { direction = direction; interval = I; left = l; right = r })) where
    abbrev u : Reach
    u = record { direction = direction; interval = I; left = l; right = r }

    abbrev O : Frame ℕ
    O = met direction (rows_in t)

    abbrev IsEvent : ℕ → Type 0
    IsEvent e = e < length s.log.rows

    abbrev constant : Bool
    constant = is_constant (shape_at s l)

    abbrev dead : ℕ → ℕ → Bool
    dead i j = is_dead x u i j

    none-of-two : (a b : Bool) → a ≡ false → b ≡ false → (a || b) ≡ false
    none-of-two a b p q = rw (p, q) refl

    -- a rule on the pair is kept where it isn't dead and the left side isn't `true`
    alive-kept : (i j : ℕ) → dead i j ≡ false → option_map_or (λ u. is_dead x u i j) (reach_in (shape_at s k)) false ≡ false
    alive-kept i j alive = rw node alive

    other-kept : (i j : ℕ) → dead i j ≡ false → constant ≡ false → option_map_or (λ u. is_dead x u i j || has_constant x s u) (reach_in (shape_at s k)) false ≡ false
    other-kept i j alive other = rw node (none-of-two (dead i j) constant alive other)

    rule-12 : (i j : ℕ) → IsEvent i → IsEvent j → (is_always_from x u i j || (is_dead x u i j && may_be_from x u i j)) ≡ false → v (Wit k i j) ≡ true → from s.log t s.trees direction I i j ≡ true
    rule-12 i j a b kept wit = sym (from-true v s.log t s.trees agrees direction I i j) ∙ last_of_2 (not (v (Wit k i j))) (part_holds v (is_from direction I i j))
        (kind-true s (is_needless x s) v satisfied (reach_in (shape_at s k)) u (λ u. Ok (is_not (Wit k i j) ∷ is_from u.direction u.interval i j ∷ [])) node
        (of_node_events-true s (is_needless x s) v satisfied 12 rule.rule_12 refl k i j low a b (rw node kept)))
        (not_from_true (v (Wit k i j)) wit)

    rule-13 : (i j : ℕ) → IsEvent i → IsEvent j → (is_always_up_to x u i j || is_never_from x u i j) ≡ false → v (Wit k i j) ≡ true → up_to s.log t s.trees direction I.high i j ≡ true
    rule-13 i j a b kept wit = go I.high
        (kind-true s (is_needless x s) v satisfied (reach_in (shape_at s k)) u (λ u. option_map_or (λ b. Ok (is_not (Wit k i j) ∷ is_up_to u.direction b i j ∷ [])) u.interval.high (Err NoRule)) node
        (of_node_events-true s (is_needless x s) v satisfied 13 rule.rule_13 refl k i j low a b (rw node kept)))
      where
        go : (high : Option ℕ) → WrittenIsTrue v (option_map_or (λ b. Ok (is_not (Wit k i j) ∷ is_up_to direction b i j ∷ [])) high (Err NoRule)) → up_to s.log t s.trees direction high i j ≡ true
        go None h = refl
        go (Some bound) h =
            sym (up_to-true v s.log t s.trees agrees direction bound i j) ∙ last_of_2 (not (v (Wit k i j))) (part_holds v (is_up_to direction bound i j)) h (not_from_true (v (Wit k i j)) wit)

    -- a pair with a witness isn't dead
    wit-alive : (i j : ℕ) → IsEvent i → IsEvent j → v (Wit k i j) ≡ true → dead i j ≡ false
    wit-alive i j a b wit = elim (cases_Bool (dead i j)) [
      | inr alive ↦ alive
      | inl is ↦ elim (cases_Bool (is_never_from x u i j)) [
        | inl never ↦
            let always = never-not-always x t (length s.log.rows) bounded s.log s.trees u i j a b never in
            let may = never-may-not x t (length s.log.rows) bounded s.log s.trees u i j a b never in
            let holds = rule-12 i j a b (rw (always, may) (and-none (dead i j))) wit in
            absurd (apart _ holds (never-from-says x t (length s.log.rows) bounded s.log s.trees u i j a b never))
        | inr not-never ↦ elim (or_cases (is_never_from x u i j) (is_never_up_to x u i j) is) [
          | inl never ↦ absurd (apart _ never not-never)
          | inr beyond ↦
              let always = beyond-not-always x t (length s.log.rows) bounded s.log s.trees u i j a b beyond in
              let holds = rule-13 i j a b (none-of-two _ _ always not-never) wit in
              absurd (apart _ holds (never-up_to-says x t (length s.log.rows) bounded s.log s.trees u i j a b beyond))
        ]
      ]
    ]
      where
        and-none : (a : Bool) → (false || (a && false)) ≡ false
        and-none true = refl
        and-none false = refl

    wit-from : (i j : ℕ) → IsEvent i → IsEvent j → v (Wit k i j) ≡ true → from s.log t s.trees direction I i j ≡ true
    wit-from i j a b wit = elim (cases_Bool (is_always_from x u i j)) [
      | inl always ↦ always-from-says x t (length s.log.rows) bounded s.log s.trees u i j a b always
      | inr not-always ↦ rule-12 i j a b (rw (not-always, wit-alive i j a b wit) refl) wit
    ]

    never-alive : (a b : Bool) → (a || b) ≡ false → a ≡ false
    never-alive true b h = absurd (cc)
    never-alive false b h = refl

    wit-up_to : (i j : ℕ) → IsEvent i → IsEvent j → v (Wit k i j) ≡ true → up_to s.log t s.trees direction I.high i j ≡ true
    wit-up_to i j a b wit = elim (cases_Bool (is_always_up_to x u i j)) [
      | inl always ↦ always-up_to-says x t (length s.log.rows) bounded s.log s.trees u i j a b always
      | inr not-always ↦ rule-13 i j a b (none-of-two _ _ not-always (never-alive (is_never_from x u i j) (is_never_up_to x u i j) (wit-alive i j a b wit))) wit
    ]

    wit-near : (i j : ℕ) → IsEvent i → IsEvent j → v (Wit k i j) ≡ true → is_near direction (rows_in t) I i j ≡ true
    wit-near i j a b wit =
        near-parts s.log t s.trees direction I i j ∙ and_from (from s.log t s.trees direction I i j) (up_to s.log t s.trees direction I.high i j) (wit-from i j a b wit) (wit-up_to i j a b wit)

    wit-right : (i j : ℕ) → IsEvent i → IsEvent j → dead i j ≡ false → v (Wit k i j) ≡ true → v (Node r j) ≡ true
    wit-right i j a b alive wit = last_of_2 (not (v (Wit k i j))) (v (Node r j))
        (kind-true s (is_needless x s) v satisfied (reach_in (shape_at s k)) u (λ u. Ok (is_not (Wit k i j) ∷ is (Node u.right j) ∷ [])) node
        (of_node_events-true s (is_needless x s) v satisfied 14 rule.rule_14 refl k i j low a b (alive-kept i j alive)))
        (not_from_true (v (Wit k i j)) wit)

    wit-span : (i j : ℕ) → IsEvent i → IsEvent j → dead i j ≡ false → constant ≡ false → v (Wit k i j) ≡ true → v (Span k i j) ≡ true
    wit-span i j a b alive other wit = last_of_2 (not (v (Wit k i j))) (v (Span k i j))
        (kind-true s (is_needless x s) v satisfied (reach_in (shape_at s k)) u (λ u. Ok (is_not (Wit k i j) ∷ is (Span k i j) ∷ [])) node
        (of_node_events-true s (is_needless x s) v satisfied 15 rule.rule_15 refl k i j low a b (other-kept i j alive other)))
        (not_from_true (v (Wit k i j)) wit)

    not_far : (i j : ℕ) (high : Option ℕ) → up_to s.log t s.trees direction high i j ≡ true → part_holds v (option_map_or (λ b. is_not_up_to direction b i j) high (Known false)) ≡ false
    not_far i j None h = refl
    not_far i j (Some bound) h = not_up_to-true v s.log t s.trees agrees direction bound i j ∙ not_from_true _ h

    from-wit : (i j : ℕ) → IsEvent i → IsEvent j → constant ≡ false → is_near direction (rows_in t) I i j ≡ true → v (Node r j) ≡ true → v (Span k i j) ≡ true → v (Wit k i j) ≡ true
    from-wit i j a b other near right spans =
        let both = and_parts (from s.log t s.trees direction I i j) (up_to s.log t s.trees direction I.high i j) (sym (near-parts s.log t s.trees direction I i j) ∙ near) in
        let alive = near-alive x t (length s.log.rows) bounded s.log s.trees u i j a b near in
        first_of_5 (v (Wit k i j)) (part_holds v (is_not_from direction I i j))
        (part_holds v (option_map_or (λ b. is_not_up_to direction b i j) I.high (Known false))) (not (v (Node r j))) (not (v (Span k i j)))
        (kind-true s (is_needless x s) v satisfied (reach_in (shape_at s k)) u
        (λ u. Ok
        (is (Wit k i j) ∷ is_not_from u.direction u.interval i j ∷ option_map_or (λ b. is_not_up_to u.direction b i j) u.interval.high
        (Known false) ∷ is_not (Node u.right j) ∷ is_not (Span k i j) ∷ []))
        node
        (of_node_events-true s (is_needless x s) v satisfied 16 rule.rule_16 refl k i j low a b (other-kept i j alive other)))
        (not_from-true v s.log t s.trees agrees direction I i j ∙ not_from_true _ both.0) (not_far i j I.high both.1) (not_from_true _ right) (not_from_true _ spans)

    first_of_4 : (a b c d : Bool) → (a || (b || (c || (d || false)))) ≡ true → b ≡ false → c ≡ false → d ≡ false → a ≡ true
    first_of_4 a b c d h p q r = first_of a _ h (rw (p, q, r) refl)

    free-wit : (i j : ℕ) → IsEvent i → IsEvent j → constant ≡ true → is_near direction (rows_in t) I i j ≡ true → v (Node r j) ≡ true → v (Wit k i j) ≡ true
    free-wit i j a b is_free near right =
        let both = and_parts (from s.log t s.trees direction I i j) (up_to s.log t s.trees direction I.high i j) (sym (near-parts s.log t s.trees direction I i j) ∙ near) in
        let alive = near-alive x t (length s.log.rows) bounded s.log s.trees u i j a b near in
        let written = kind-true s (is_needless x s) v satisfied (reach_in (shape_at s k)) u
        (λ u. if is_constant (shape_at s u.left) then Ok
        (is (Wit k i j) ∷ is_not_from u.direction u.interval i j ∷ option_map_or (λ b. is_not_up_to u.direction b i j) u.interval.high (Known false) ∷ is_not (Node u.right j) ∷ []) else Err Kind)
        node
        (of_node_events-true s (is_needless x s) v satisfied 28 rule.rule_28 refl k i j low a b (alive-kept i j alive)) in
        first_of_4 (v (Wit k i j)) (part_holds v (is_not_from direction I i j)) (part_holds v (option_map_or (λ b. is_not_up_to direction b i j) I.high (Known false))) (not (v (Node r j)))
        (subst
        (λ b. WrittenIsTrue v
        (if b then Ok (is (Wit k i j) ∷ is_not_from direction I i j ∷ option_map_or (λ b. is_not_up_to direction b i j) I.high (Known false) ∷ is_not (Node r j) ∷ []) else Err Kind))
        is_free written)
        (not_from-true v s.log t s.trees agrees direction I i j ∙ not_from_true _ both.0) (not_far i j I.high both.1) (not_from_true _ right)

    node-wit : (i : ℕ) → IsEvent i → v (Node k i) ≡ true → (j : ℕ) × IsEvent j × (v (Wit k i j) ≡ true)
    node-wit i a holds = event-true s (is_needless x s) v satisfied (λ j. is (Wit k i j)) (rest_of (not (v (Node k i))) _
        (kind-true s (is_needless x s) v satisfied (reach_in (shape_at s k)) u (λ u. Ok (is_not (Node k i) ∷ for_each_event s (λ j. is (Wit k i j)))) node
        (of_node_event-true s (is_needless x s) v satisfied 17 rule.rule_17 refl k i low a refl))
        (not_from_true (v (Node k i)) holds))

    wit-node : (i j : ℕ) → IsEvent i → IsEvent j → dead i j ≡ false → v (Wit k i j) ≡ true → v (Node k i) ≡ true
    wit-node i j a b alive wit = first_of (v (Node k i)) (not (v (Wit k i j)) || false)
        (kind-true s (is_needless x s) v satisfied (reach_in (shape_at s k)) u (λ u. Ok (is (Node k i) ∷ is_not (Wit k i j) ∷ [])) node
        (of_node_events-true s (is_needless x s) v satisfied 18 rule.rule_18 refl k i j low a b (alive-kept i j alive)))
        (rw wit refl)

    none-of-four : (a b c d : Bool) → a ≡ false → b ≡ false → c ≡ false → d ≡ false → (a || b || c || d) ≡ false
    none-of-four a b c d p q m n = rw (p, q, m, n) refl

    none-of-three : (a b c : Bool) → a ≡ false → b ≡ false → c ≡ false → (a || b || c) ≡ false
    none-of-three a b c p q m = rw (p, q, m) refl

    -- what the timing says of an event excludes what is always so
    not-before : (i m : ℕ) → IsEvent i → IsEvent m → O.not_after i m ≡ true → is_always_before x u m i ≡ false
    not-before i m a c up = elim (cases_Bool (is_always_before x u m i)) [
      | inr fails ↦ fails
      | inl always ↦ absurd (apart _ up (always-before-says x t (length s.log.rows) bounded s.log s.trees direction u i m refl a c always))
    ]

    not-after : (j m : ℕ) → IsEvent j → IsEvent m → O.not_after j m ≡ false → is_never_before x u m j ≡ false
    not-after j m b c less = elim (cases_Bool (is_never_before x u m j)) [
      | inr fails ↦ fails
      | inl never ↦ absurd (apart _ (never-before-says x t (length s.log.rows) bounded s.log s.trees direction u j m refl b c never) less)
    ]

    span-left : (i j m : ℕ) → IsEvent i → IsEvent j → IsEvent m → dead i j ≡ false → constant ≡ false → v (Span k i j) ≡ true → O.not_after i m ≡ true → O.not_after j m ≡ false → v (Node l m) ≡ true
    span-left i j m a b c alive other spans begun before = last_of_4 (not (v (Span k i j))) (part_holds v (met_after direction i m)) (part_holds v (not_met_after direction j m)) (v (Node l m))
        (kind-true s (is_needless x s) v satisfied (reach_in (shape_at s k)) u
        (λ u. Ok (is_not (Span k i j) ∷ met_after u.direction i m ∷ not_met_after u.direction j m ∷ is (Node u.left m) ∷ [])) node
        (of_node_three_events-true s (is_needless x s) v satisfied 19 rule.rule_19 refl k i j m low a b c
        (rw node (none-of-four (dead i j) constant (is_always_before x u m i) (is_never_before x u m j) alive other (not-before i m a c begun) (not-after j m b c before)))))
        (not_from_true _ spans) (met_after-true v s.log t s.trees agrees direction i m ∙ not_from_true _ begun) (met_not_after-true v s.log t s.trees agrees direction j m ∙ before)

    no_span-gap : (i j : ℕ) → IsEvent i → IsEvent j → dead i j ≡ false → constant ≡ false → v (Span k i j) ≡ false → (m : ℕ) × IsEvent m × (v (Gap k i m) ≡ true)
    no_span-gap i j a b alive other fails = event-true s (is_needless x s) v satisfied (λ m. is (Gap k i m)) (rest_of (v (Span k i j)) _
        (kind-true s (is_needless x s) v satisfied (reach_in (shape_at s k)) u (λ u. Ok (is (Span k i j) ∷ for_each_event s (λ m. is (Gap k i m)))) node
        (of_node_events-true s (is_needless x s) v satisfied 20 rule.rule_20 refl k i j low a b (other-kept i j alive other)))
        fails)

    gap-span : (i j m : ℕ) → IsEvent i → IsEvent j → IsEvent m → dead i j ≡ false → constant ≡ false → v (Gap k i m) ≡ true → O.not_after j m ≡ true → v (Span k i j) ≡ true
    gap-span i j m a b c alive other gap up = last_of_3 (not (v (Gap k i m))) (part_holds v (met_after direction j m)) (v (Span k i j))
        (kind-true s (is_needless x s) v satisfied (reach_in (shape_at s k)) u (λ u. Ok (is_not (Gap k i m) ∷ met_after u.direction j m ∷ is (Span k i j) ∷ [])) node
        (of_node_three_events-true s (is_needless x s) v satisfied 21 rule.rule_21 refl k i j m low a b c
        (rw node (none-of-three (dead i j) constant (is_always_before x u m j) alive other (not-before j m b c up)))))
        (not_from_true _ gap) (met_after-true v s.log t s.trees agrees direction j m ∙ not_from_true _ up)

    gap-begun : (i m : ℕ) → IsEvent i → IsEvent m → constant ≡ false → v (Gap k i m) ≡ true → O.not_after i m ≡ true
    gap-begun i m a c other gap = elim (cases_Bool (is_never_before x u m i)) [
      | inl never ↦ never-before-says x t (length s.log.rows) bounded s.log s.trees direction u i m refl a c never
      | inr may ↦ sym (met_not_after-true v s.log t s.trees agrees direction i m) ∙ last_of_2 (not (v (Gap k i m))) (part_holds v (not_met_after direction i m))
          (kind-true s (is_needless x s) v satisfied (reach_in (shape_at s k)) u (λ u. Ok (is_not (Gap k i m) ∷ not_met_after u.direction i m ∷ [])) node
          (of_node_events-true s (is_needless x s) v satisfied 22 rule.rule_22 refl k i m low a c (rw node (none-of-two constant (is_never_before x u m i) other may))))
          (not_from_true _ gap)
    ]

    gap-left : (i m : ℕ) → IsEvent i → IsEvent m → constant ≡ false → v (Gap k i m) ≡ true → v (Node l m) ≡ false
    gap-left i m a c other gap = not-true (v (Node l m)) (last_of_2 (not (v (Gap k i m))) (not (v (Node l m)))
        (kind-true s (is_needless x s) v satisfied (reach_in (shape_at s k)) u (λ u. Ok (is_not (Gap k i m) ∷ is_not (Node u.left m) ∷ [])) node
        (of_node_events-true s (is_needless x s) v satisfied 23 rule.rule_23 refl k i m low a c (rw node other)))
        (not_from_true _ gap))

    module _ (count : length t ≡ length s.log.rows) (left-low : l < length s.trees) where
      event : (e : ℕ) → Among O.points e → IsEvent e
      event e in_ = let less = row_at s.log t s.trees direction e in_ in omega (arith, less, count)

      among : (e : ℕ) → IsEvent e → Among O.points e
      among e a = at_row s.log t s.trees direction e (omega (arith, a, count))

      -- the rules allow these truth values of the node, over the points as it meets them
      pub reach-allowed : AllowedByRules O (is_near direction (rows_in t) I) dead constant (λ e. v (Node l e)) (λ e. v (Node r e)) (λ e. v (Node k e))
          (λ i j. v (Wit k i j)) (λ i j. v (Span k i j)) (λ i m. v (Gap k i m))
      reach-allowed = record {
        near_alive = λ i j a b. near-alive x t (length s.log.rows) bounded s.log s.trees u i j (event i a) (event j b);
        wit_near = λ i j a b. wit-near i j (event i a) (event j b);
        wit_right = λ i j a b. wit-right i j (event i a) (event j b);
        wit_span = λ other i j a b alive. wit-span i j (event i a) (event j b) alive other;
        wit_from = λ other i j a b. from-wit i j (event i a) (event j b) other;
        wit_free = λ is i j a b. free-wit i j (event i a) (event j b) is;
        node_wit = λ i a holds. let (j, b, wit) = node-wit i (event i a) holds in (j, among j b, wit);
        wit_node = λ i j a b. wit-node i j (event i a) (event j b);
        constant_left = λ is m c. constant-exact s x v satisfied l m left-low (event m c) is;
        span_left = λ other i j m a b c alive. span-left i j m (event i a) (event j b) (event m c) alive other;
        no_span_gap = λ other i j a b alive fails. let (m, c, gap) = no_span-gap i j (event i a) (event j b) alive other fails in (m, among m c, gap);
        gap_span = λ other i j m a b c alive. gap-span i j m (event i a) (event j b) (event m c) alive other;
        gap_begun = λ other i m a c. gap-begun i m (event i a) (event m c) other;
        gap_left = λ other i m a c. gap-left i m (event i a) (event m c) other;
      }
