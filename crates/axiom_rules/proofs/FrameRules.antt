-- What witness, span and gap have to do with each other, over any points in order.
use Rattle.std.proofs.Common.{◌≡◌, Bool, true, false, not, ◌&&◌, inl, inr}
use Rattle.std.specs.List.{list_any}
use Rattle.std.proofs.lemmas.Bool.{cases_Bool, and_from, and_parts, false_from_ne_true, not-true, not_from_false}
use Rattle.mt_model.specs.Frame.{Frame, reaches, span, witness}
use Rattle.mt_model.proofs.Members.{Among, all_each, any_some, each_all, some_any}
use Rattle.axiom_rules.specs.Holds.{gap}
use Rattle.axiom_rules.proofs.BoolLemmas.{from_3}
use Rattle.axiom_rules.proofs.Orders.{IsFirst, IsOrder, first_of}
use Rattle.mt_model.proofs.TruthLemmas.{implies-then, implies-from, and_3}

module _ {X : Type 0} (F : Frame X) (l : X → Bool) where
  -- over a span the left side holds
  pub span_at : (x y z : X) → span F l x y ≡ true → Among F.points z → F.not_after x z ≡ true → F.not_after y z ≡ false → l z ≡ true
  span_at x y z h in_ from up = implies-then _ _ (all_each _ F.points z h in_) (and_from _ _ from (not_from_false _ up))

  pub span_from : (x y : X) → ((z : X) → Among F.points z → F.not_after x z ≡ true → F.not_after y z ≡ false → l z ≡ true) → span F l x y ≡ true
  span_from x y h = each_all _ F.points (λ z in_. implies-from _ _ (λ both. let parts = and_parts (F.not_after x z) (not (F.not_after y z)) both in h z in_ parts.0 (not-true _ parts.1)))

  -- what a gap is
  pub gap_parts : (x z : X) → gap F l x z ≡ true → (F.not_after x z ≡ true) × (l z ≡ false) × (span F l x z ≡ true)
  gap_parts x z g = let parts = and_3 (F.not_after x z) (not (l z)) (span F l x z) g in (parts.0, not-true _ parts.1, parts.2)

  module _ (o : IsOrder F) where
    -- up to what is not after a gap there is a span
    pub span_to_gap : (x y z : X) → gap F l x z ≡ true → F.not_after y z ≡ true → span F l x y ≡ true
    span_to_gap x y z g up_to = span_from x y (λ w in_ from up. span_at x z w (gap_parts x z g).2 in_ from (false_from_ne_true _ (λ past. absurd (cc (o.along y z w up_to past)))))

    abbrev fails_from : X → X → Bool
    fails_from x z = F.not_after x z && not (l z)

    -- the first point from x on at which the left side fails is a gap
    first-gap : (x z : X) → IsFirst F o (fails_from x) F.points z → gap F l x z ≡ true
    first-gap x z first =
        let parts = and_parts (F.not_after x z) (not (l z)) first.passing in
        from_3 (F.not_after x z) (not (l z)) (span F l x z) parts.0 parts.1
        (span_from x z (λ w in_ from up. elim (cases_Bool (l w)) [ inl is ↦ is | inr fails ↦ absurd (cc (first.first w in_ (and_from _ _ from (not_from_false _ fails)))) ]))

    -- where there is no span there is a gap
    pub gap_without_span : (x y : X) → span F l x y ≡ false → list_any (λ z. gap F l x z) F.points ≡ true
    gap_without_span x y broken = elim (cases_Bool (list_any (fails_from x) F.points)) [
      | inl some ↦
          let (w, in_, is) = any_some (fails_from x) F.points some in
          let (z, first) = first_of F o (fails_from x) F.points w in_ is in
          some_any (λ z. gap F l x z) F.points z first.among (first-gap x z first)
      | inr none ↦
          let whole : span F l x y ≡ true = span_from x y (λ z in_ from up. elim (cases_Bool (l z)) [
            | inl is ↦ is
            | inr fails ↦ absurd (cc (some_any (fails_from x) F.points z in_ (and_from _ _ from (not_from_false _ fails))))
          ]) in
          absurd (cc)
    ]

module _ {X : Type 0} (F : Frame X) (near : X → X → Bool) (l r : X → Bool) where
  -- what a witness is
  pub witness_parts : (x y : X) → witness F near l r x y ≡ true → (near x y ≡ true) × (r y ≡ true) × (span F l x y ≡ true)
  witness_parts x y w = and_3 (near x y) (r y) (span F l x y) w

  pub witness_from : (x y : X) → near x y ≡ true → r y ≡ true → span F l x y ≡ true → witness F near l r x y ≡ true
  witness_from x y a b c = from_3 (near x y) (r y) (span F l x y) a b c

  -- where a point reaches, there is a witness
  pub reached : (x : X) → reaches F near l r x ≡ true → list_any (λ y. witness F near l r x y) F.points ≡ true
  reached x h =
      let (y, in_, is) = any_some (λ y. F.not_after x y && witness F near l r x y) F.points h in
      some_any (λ y. witness F near l r x y) F.points y in_ (and_parts (F.not_after x y) (witness F near l r x y) is).1

  -- and where there is one that is from here on, it reaches
  pub reaches_from : (x y : X) → Among F.points y → F.not_after x y ≡ true → witness F near l r x y ≡ true → reaches F near l r x ≡ true
  reaches_from x y in_ from w = some_any (λ y. F.not_after x y && witness F near l r x y) F.points y in_ (and_from _ _ from w)
