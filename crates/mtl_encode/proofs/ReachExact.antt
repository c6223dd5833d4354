-- What the rules that are kept on an until or a since leave open is its truth alone, over any points.
use Rattle.std.proofs.Common.{◌≡◌, ◌∙◌, sym, Bool, true, false, inl, inr}
use Rattle.std.proofs.lemmas.Bool.{cases_Bool, false_from_ne_true}
use Rattle.mt_model.specs.Frame.{Frame, reaches, span, witness}
use Rattle.mt_model.proofs.Members.{Among, any_some}
use Rattle.axiom_rules.proofs.BoolLemmas.{apart}
use Rattle.axiom_rules.proofs.FrameRules.{reached, reaches_from, span_at, span_from, witness_from, witness_parts}
use Rattle.std.specs.Cmp.{both_ways}

-- truth values of a node, its witnesses, spans and gaps that the rules allow, over the values of the sides; some pairs of
-- points are dead, and the left side may be `true`
pub record AllowedByRules {X : Type 0} (F : Frame X) (near dead : X → X → Bool) (constant : Bool) (left right node : X → Bool) (wit spans gap : X → X → Bool) : Type 0 where
  -- what is near isn't dead
  pub near_alive : (i j : X) → Among F.points i → Among F.points j → near i j ≡ true → dead i j ≡ false
  -- a witness is near, the right side holds there, and the left side up to there
  pub wit_near : (i j : X) → Among F.points i → Among F.points j → wit i j ≡ true → near i j ≡ true
  pub wit_right : (i j : X) → Among F.points i → Among F.points j → dead i j ≡ false → wit i j ≡ true → right j ≡ true
  pub wit_span : constant ≡ false → (i j : X) → Among F.points i → Among F.points j → dead i j ≡ false → wit i j ≡ true → spans i j ≡ true
  -- and what is all of this is a witness
  pub wit_from : constant ≡ false → (i j : X) → Among F.points i → Among F.points j → near i j ≡ true → right j ≡ true → spans i j ≡ true → wit i j ≡ true
  pub wit_free : constant ≡ true → (i j : X) → Among F.points i → Among F.points j → near i j ≡ true → right j ≡ true → wit i j ≡ true
  -- the node is true where there is a witness, and nowhere else
  pub node_wit : (i : X) → Among F.points i → node i ≡ true → (j : X) × Among F.points j × (wit i j ≡ true)
  pub wit_node : (i j : X) → Among F.points i → Among F.points j → dead i j ≡ false → wit i j ≡ true → node i ≡ true
  -- a left side that is `true` holds
  pub constant_left : constant ≡ true → (m : X) → Among F.points m → left m ≡ true
  -- over a span the left side holds
  pub span_left : constant ≡ false → (i j m : X) → Among F.points i → Among F.points j → Among F.points m → dead i j ≡ false → spans i j ≡ true
      → F.not_after i m ≡ true → F.not_after j m ≡ false → left m ≡ true
  -- where there is no span there is a gap before its end, from here on, at which the left side fails
  pub no_span_gap : constant ≡ false → (i j : X) → Among F.points i → Among F.points j → dead i j ≡ false → spans i j ≡ false → (m : X) × Among F.points m × (gap i m ≡ true)
  pub gap_span : constant ≡ false → (i j m : X) → Among F.points i → Among F.points j → Among F.points m → dead i j ≡ false → gap i m ≡ true → F.not_after j m ≡ true → spans i j ≡ true
  pub gap_begun : constant ≡ false → (i m : X) → Among F.points i → Among F.points m → gap i m ≡ true → F.not_after i m ≡ true
  pub gap_left : constant ≡ false → (i m : X) → Among F.points i → Among F.points m → gap i m ≡ true → left m ≡ false

module _ {X : Type 0} (F : Frame X) (near dead : X → X → Bool) (constant : Bool) (left right node : X → Bool) (wit spans gap : X → X → Bool)
    (allowed : AllowedByRules F near dead constant left right node wit spans gap) where
  span-exact : constant ≡ false → (i j : X) → Among F.points i → Among F.points j → dead i j ≡ false → spans i j ≡ span F left i j
  span-exact other i j a b alive = both_ways _ _ to from
    where
      to : spans i j ≡ true → span F left i j ≡ true
      to h = span_from F left i j (λ m c begun before. allowed.span_left other i j m a b c alive h begun before)

      from : span F left i j ≡ true → spans i j ≡ true
      from h = elim (cases_Bool (spans i j)) [
        | inl is ↦ is
        | inr fails ↦
            let (m, c, g) = allowed.no_span_gap other i j a b alive fails in
            let before = false_from_ne_true (F.not_after j m) (λ up. apart (spans i j) (allowed.gap_span other i j m a b c alive g up) fails) in
            absurd (apart (left m) (span_at F left i j m h c (allowed.gap_begun other i m a c g) before) (allowed.gap_left other i m a c g))
      ]

  free-span : constant ≡ true → (i j : X) → span F left i j ≡ true
  free-span is i j = span_from F left i j (λ m c begun before. allowed.constant_left is m c)

  wit-exact : (i j : X) → Among F.points i → Among F.points j → wit i j ≡ witness F near left right i j
  wit-exact i j a b = both_ways _ _ to from
    where
      spanned : dead i j ≡ false → wit i j ≡ true → span F left i j ≡ true
      spanned alive h = elim (cases_Bool constant) [
        | inl is ↦ free-span is i j
        | inr other ↦ sym (span-exact other i j a b alive) ∙ allowed.wit_span other i j a b alive h
      ]

      to : wit i j ≡ true → witness F near left right i j ≡ true
      to h =
          let close = allowed.wit_near i j a b h in
          let alive = allowed.near_alive i j a b close in
          witness_from F near left right i j close (allowed.wit_right i j a b alive h) (spanned alive h)

      from : witness F near left right i j ≡ true → wit i j ≡ true
      from h =
          let parts = witness_parts F near left right i j h in
          elim (cases_Bool constant) [
            | inl is ↦ allowed.wit_free is i j a b parts.0 parts.1
            | inr other ↦ allowed.wit_from other i j a b parts.0 parts.1 (span-exact other i j a b (allowed.near_alive i j a b parts.0) ∙ parts.2)
          ]

  pub reach-exact : ((i j : X) → near i j ≡ true → F.not_after i j ≡ true) → (i : X) → Among F.points i → node i ≡ reaches F near left right i
  reach-exact ahead i a = both_ways _ _ to from
    where
      to : node i ≡ true → reaches F near left right i ≡ true
      to h =
          let (j, b, is) = allowed.node_wit i a h in
          reaches_from F near left right i j b (ahead i j (allowed.wit_near i j a b is)) (sym (wit-exact i j a b) ∙ is)

      from : reaches F near left right i ≡ true → node i ≡ true
      from h =
          let (j, b, is) = any_some (λ y. witness F near left right i y) F.points (reached F near left right i h) in
          let close = (witness_parts F near left right i j is).0 in
          allowed.wit_node i j a b (allowed.near_alive i j a b close) (wit-exact i j a b ∙ is)
