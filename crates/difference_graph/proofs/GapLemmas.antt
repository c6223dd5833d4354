-- Numbers that are raised below a level: what they still meet, and how many stay below the next level.
use Rattle.std.proofs.Common.{◌≡◌, ◌∙◌, ap, sym, subst, refl, ℕ, zero, suc, ◌+◌, ◌*◌, ◌^◌, ◌<◌, ◌≤◌, ◌⊎◌, inl, inr, List, [], ◌∷◌, ◌++◌, length, set, take, arith, cond, ℤ, pos, ◌+ℤ◌, ◌-ℤ◌, ◌≤ℤ◌, ◌<ℤ◌, get_or, length-set, get_or-set_other}
use Rattle.std.specs.Prelude.{All, int_lt, Option, Some, None, IfSome}
use Rattle.std.proofs.Math.ListN.{get_or-eq_default}
use Rattle.std.proofs.lemmas.Int.{ints, by_lt_z}
use Rattle.std.proofs.lemmas.Bool.{cases_lt, cases_eq}
use Rattle.std.proofs.lemmas.Grind.{get_or-set_at}
use Rattle.std.proofs.Math.Seq.{get_or-append_seam}
use Rattle.std.proofs.lemmas.List.{get_or_default, get_or_append_left, length_push, take_more, take_all}
use Rattle.std.proofs.lemmas.List.Elements.{All-push}
use Rattle.std.proofs.lemmas.List.Sums.{sum_by-cons}
use Rattle.neg_cycle.specs.declared.system.Edge.{Edge}
use Rattle.neg_cycle.specs.declared.system.TheConstants.{MAX_BOUND}
use Rattle.neg_cycle.specs.Systems.{IsWithin, Meets, number_of}
use Rattle.difference_graph.specs.Gaps.{IsNumber, count_below, IsNextBelow, IsFound, IsRaisedBelow}

-- a number below the level is raised, and it is that of a node
pub record IsMoved (level by : ℤ) (old new : List ℤ) (v : ℕ) : Type 0 where
  pub within : v < length old
  pub below : number_of old v <ℤ level
  pub is : number_of new v ≡ number_of old v +ℤ by

-- another number stays
pub record Stays (level : ℤ) (old new : List ℤ) (v : ℕ) : Type 0 where
  pub above : level ≤ℤ number_of old v
  pub is : number_of new v ≡ number_of old v

module _ (level by : ℤ) (old new : List ℤ) (top : level ≤ℤ pos 0) (raised : IsRaisedBelow level by old new) where
  node_of_list : (v : ℕ) → v < length old → IsMoved level by old new v ⊎ Stays level old new v
  node_of_list v within = by_lt_z (number_of old v) level
      (λ below. inl (record { within = within; below = below; is = raised.low v within below }))
      (λ above. inr (record { above = above; is = raised.high v within above }))

  past_list : (v : ℕ) → length old ≤ v → Stays level old new v
  past_list v past =
      let o : number_of old v ≡ pos 0 = get_or-eq_default old (pos 0) past in
      let n : number_of new v ≡ pos 0 = get_or-eq_default new (pos 0) (omega (arith, raised.count, past)) in
      record { above = rw o top; is = n ∙ sym o }

  pub each_node : (v : ℕ) → IsMoved level by old new v ⊎ Stays level old new v
  each_node v = elim (cases_lt v (length old)) [
    | inl within ↦ node_of_list v within
    | inr past ↦ inr (past_list v past)
  ]

-- where the first number is below its level, the second is below its own
one_le : (x y a b : ℤ) → (y <ℤ b → x <ℤ a) → cond (int_lt y b) 1 0 ≤ cond (int_lt x a) 1 0
one_le x y a b below = by_lt_z y b (λ low. let old = below low in grind (arith, ints)) (λ high. grind (arith, ints))

one_less : (x y a b : ℤ) → x <ℤ a → b ≤ℤ y → cond (int_lt y b) 1 0 < cond (int_lt x a) 1 0
one_less x y a b old new = grind (arith, ints)

count_cons : (level x : ℤ) (xs : List ℤ) → count_below level (x ∷ xs) ≡ cond (int_lt x level) 1 0 + count_below level xs
count_cons level x xs = sum_by-cons (λ y. cond (int_lt y level) 1 0) x xs

no_more_below : (xs ys : List ℤ) (a b : ℤ) → length ys ≡ length xs → ((i : ℕ) → i < length xs → number_of ys i <ℤ b → number_of xs i <ℤ a) → count_below b ys ≤ count_below a xs
no_more_below [] [] a b same each = omega arith
no_more_below [] (y ∷ ys) a b same each = absurd (omega (arith, same))
no_more_below (x ∷ xs) [] a b same each = absurd (omega (arith, same))
no_more_below (x ∷ xs) (y ∷ ys) a b same each =
    let first = one_le x y a b (each 0 (omega arith)) in
    let rest = no_more_below xs ys a b (omega (arith, same)) (λ i within. each (suc i) (omega (arith, within))) in
    omega (arith, first, rest, count_cons a x xs, count_cons b y ys)

fewer_below : (xs ys : List ℤ) (a b : ℤ) → length ys ≡ length xs → ((i : ℕ) → i < length xs → number_of ys i <ℤ b → number_of xs i <ℤ a)
    → (i : ℕ) → i < length xs → number_of xs i <ℤ a → b ≤ℤ number_of ys i → count_below b ys < count_below a xs
fewer_below [] ys a b same each i within old new = absurd (omega (arith, within))
fewer_below (x ∷ xs) [] a b same each i within old new = absurd (omega (arith, same))
fewer_below (x ∷ xs) (y ∷ ys) a b same each zero within old new =
    let first = one_less x y a b old new in
    let rest = no_more_below xs ys a b (omega (arith, same)) (λ i below. each (suc i) (omega (arith, below))) in
    omega (arith, first, rest, count_cons a x xs, count_cons b y ys)
fewer_below (x ∷ xs) (y ∷ ys) a b same each (suc i) within old new =
    let first = one_le x y a b (each 0 (omega arith)) in
    let rest = fewer_below xs ys a b (omega (arith, same)) (λ j below. each (suc j) (omega (arith, below))) i (omega (arith, within)) old new in
    omega (arith, first, rest, count_cons a x xs, count_cons b y ys)

-- an edge over a gap that is closed to the greatest bound at most is met still
met_over : (u v y z level next below bound greatest : ℤ) → u ≤ℤ next → level ≤ℤ v → y ≡ u +ℤ (below -ℤ next) → z ≡ v → next ≤ℤ below
    → (next <ℤ below → level ≡ below +ℤ greatest) → pos 0 ≤ℤ (bound +ℤ greatest) → (u -ℤ v) ≤ℤ bound → (y -ℤ z) ≤ℤ bound
met_over u v y z level next below bound greatest low high is_u is_v above cut within meets = by_lt_z next below
    (λ (less : next <ℤ below). let whole = cut less in omega (arith, ints, low, high, is_u, is_v, whole, within))
    (λ (same : below ≤ℤ next). omega (arith, ints, low, high, is_u, is_v, same, above, meets))

-- the gap between a level and the next number below it is closed, which makes a lower level
module _ (level next lower by : ℤ) (old new : List ℤ) (top : level ≤ℤ pos 0) (n : IsNextBelow old level next) (falls : lower <ℤ level) (above : next ≤ℤ lower) (cut : next <ℤ lower → level ≡ lower +ℤ MAX_BOUND)
    (is_by : by ≡ lower -ℤ next) (raised : IsRaisedBelow level by old new) where
  at_most_next : (v : ℕ) → v < length old → number_of old v <ℤ level → number_of old v ≤ℤ next
  at_most_next v in_list below = n.greatest v (pos 0) in_list below

  met_moved : (e : Edge) → IsWithin MAX_BOUND e.bound → Meets old e → IsMoved level by old new e.from → IsMoved level by old new e.to ⊎ Stays level old new e.to → Meets new e
  met_moved e limit meets m to = elim to [
    | inl t ↦ omega (arith, ints, m.is, t.is, meets)
    | inr t ↦ met_over (number_of old e.from) (number_of old e.to) (number_of new e.from) (number_of new e.to) level next lower e.bound
        MAX_BOUND (at_most_next e.from m.within m.below) t.above (omega (arith, ints, m.is, is_by)) t.is above cut limit.low meets
  ]

  met_stays : (e : Edge) → Meets old e → Stays level old new e.from → IsMoved level by old new e.to ⊎ Stays level old new e.to → Meets new e
  met_stays e meets s to = elim to [
    | inl t ↦ omega (arith, ints, s.is, t.is, meets, is_by, above)
    | inr t ↦ omega (arith, ints, s.is, t.is, meets)
  ]

  pub keeps_met : (e : Edge) → IsWithin MAX_BOUND e.bound → Meets old e → Meets new e
  keeps_met e limit meets =
      let to = each_node level by old new top raised e.to in
      elim (each_node level by old new top raised e.from) [
        | inl m ↦ met_moved e limit meets m to
        | inr s ↦ met_stays e meets s to
      ]

  number_closed : (v : ℕ) → IsNumber (number_of old v) → IsNumber (number_of new v)
  number_closed v number = elim (each_node level by old new top raised v) [
    | inl m ↦ record {
      low = omega (arith, ints, m.is, number.low, is_by, above);
      high = omega (arith, ints, m.is, at_most_next v m.within m.below, is_by, falls, top);
    }
    | inr s ↦ rw s.is number
  ]

  pub numbers_closed : All IsNumber old → All IsNumber new
  numbers_closed numbers v d below =
      let in_list : v < length old = omega (arith, raised.count, below) in
      let number : IsNumber (number_of old v) = numbers v (pos 0) in_list in
      rw (get_or_default new v d (pos 0) below) (number_closed v number)

  was_below : (v : ℕ) → v < length old → number_of new v <ℤ lower → number_of old v <ℤ level
  was_below v in_list below = elim (each_node level by old new top raised v) [
    | inl m ↦ m.below
    | inr s ↦ omega (arith, ints, s.is, below, falls)
  ]

  pub count_falls : count_below lower new < count_below level old
  count_falls =
      let held = n.held in
      let low : number_of old n.place <ℤ level = rw held n.below in
      let is = raised.low n.place n.within low in
      fewer_below old new level lower raised.count was_below n.place n.within low (omega (arith, ints, is, held, is_by))

-- the level stays near where the count below it falls
pub level_near : (level lower : ℤ) (count fewer nodes more : ℕ) → level ≤ℤ (lower +ℤ pos (2 ^ 90)) → fewer < count → more ≡ nodes
    → pos (count * 2 ^ 90) ≤ℤ (level +ℤ pos (nodes * 2 ^ 90)) → pos (fewer * 2 ^ 90) ≤ℤ (lower +ℤ pos (more * 2 ^ 90))
level_near level lower count fewer nodes more bound less same near = omega (arith, ints, bound, less, same, near)

-- the next number below a level is a number
pub next_number : (numbers : List ℤ) (level next : ℤ) → All IsNumber numbers → IsNextBelow numbers level next → IsNumber next
next_number numbers level next each n = subst IsNumber n.held (each n.place (pos 0) n.within)

-- one number more was looked at
pub found_takes : (xs : List ℤ) (x level : ℤ) (found : Option ℤ) → IsFound xs level found → x <ℤ level → IfSome found (λ best. best <ℤ x) → IsFound (xs ++ x ∷ []) level (Some x)
found_takes xs x level None none below greater = record {
  below = below;
  greatest = All-push (λ y. y <ℤ level → y ≤ℤ x) xs x (λ k d within low. omega (arith, ints, none k d within, low)) (λ low. omega (arith, ints));
  place = length xs;
  within = omega (arith, length_push xs x);
  held = get_or-append_seam xs x [] (pos 0);
}
found_takes xs x level (Some best) some below greater = record {
  below = below;
  greatest = All-push (λ y. y <ℤ level → y ≤ℤ x) xs x (λ k d within low. omega (arith, ints, some.greatest k d within low, greater)) (λ low. omega (arith, ints));
  place = length xs;
  within = omega (arith, length_push xs x);
  held = get_or-append_seam xs x [] (pos 0);
}

pub found_keeps : (xs : List ℤ) (x level : ℤ) (found : Option ℤ) → IsFound xs level found → ((x <ℤ level) × IfSome found (λ best. best <ℤ x) → ⊥) → IsFound (xs ++ x ∷ []) level found
found_keeps xs x level None none not = All-push (λ y. level ≤ℤ y) xs x none (by_lt_z x level (λ low. absurd (not (low, tt))) (λ high. high))
found_keeps xs x level (Some best) some not = record {
  below = some.below;
  greatest = All-push (λ y. y <ℤ level → y ≤ℤ best) xs x some.greatest (λ low. by_lt_z best x (λ greater. absurd (not (low, greater))) (λ high. high));
  place = some.place;
  within = omega (arith, length_push xs x, some.within);
  held = get_or_append_left xs (x ∷ []) (pos 0) some.place some.within ∙ some.held;
}

-- so it is for the first numbers of a list
pub next_takes : (numbers : List ℤ) (i : ℕ) (level x : ℤ) (found after : Option ℤ) → i < length numbers → x ≡ get_or numbers i (pos 0)
    → IsFound (take i numbers) level found → (x <ℤ level) × IfSome found (λ best. best <ℤ x) → after ≡ Some x
    → IsFound (take (i + 1) numbers) level after
next_takes numbers i level x found after below is held next now =
    rw (now, take_more numbers i (pos 0) below, ← is) (found_takes (take i numbers) x level found held next.0 next.1)

pub next_keeps : (numbers : List ℤ) (i : ℕ) (level x : ℤ) (found after : Option ℤ) → i < length numbers → x ≡ get_or numbers i (pos 0)
    → IsFound (take i numbers) level found → ((x <ℤ level) × IfSome found (λ best. best <ℤ x) → ⊥) → after ≡ found
    → IsFound (take (i + 1) numbers) level after
next_keeps numbers i level x found after below is held not now =
    rw (now, take_more numbers i (pos 0) below, ← is) (found_keeps (take i numbers) x level found held not)

pub next_whole : (numbers : List ℤ) (i : ℕ) (level plain : ℤ) (found : Option ℤ) → length numbers ≤ i → level ≡ plain → IsFound (take i numbers) level found → IsFound numbers plain found
next_whole numbers i level plain found all is held = subst (λ (l : ℤ). IsFound numbers l found) is (subst (λ (xs : List ℤ). IsFound xs level found) (take_all i numbers all) held)

-- the numbers of the first n nodes are raised where they are below a level, and the others are still as they were
pub record IsRaisedSoFar (n : ℕ) (level by : ℤ) (old new : List ℤ) : Type 0 where
  pub count : length new ≡ length old
  pub low : (v : ℕ) → v < n → number_of old v <ℤ level → number_of new v ≡ number_of old v +ℤ by
  pub high : (v : ℕ) → v < n → level ≤ℤ number_of old v → number_of new v ≡ number_of old v
  pub rest : (v : ℕ) → n ≤ v → number_of new v ≡ number_of old v

module _ (n : ℕ) (level by y : ℤ) (old new : List ℤ) (r : IsRaisedSoFar n level by old new) (within : n < length old) where
  at_node : number_of (set new n y) n ≡ y
  at_node = get_or-set_at new n n y (pos 0) refl (omega (arith, r.count, within))

  module _ (low : number_of old n <ℤ level → y ≡ number_of old n +ℤ by) (high : level ≤ℤ number_of old n → y ≡ number_of old n) where
    low_more : (v : ℕ) → v < n + 1 → number_of old v <ℤ level → number_of (set new n y) v ≡ number_of old v +ℤ by
    low_more v below at = elim (cases_eq v n) [
      | inl e ↦ subst (λ (k : ℕ). number_of (set new n y) k ≡ number_of old k +ℤ by) (sym e) (at_node ∙ low (subst (λ (k : ℕ). number_of old k <ℤ level) e at))
      | inr other ↦ get_or-set_other new n v y (pos 0) other ∙ r.low v (omega (arith, below, other)) at
    ]

    high_more : (v : ℕ) → v < n + 1 → level ≤ℤ number_of old v → number_of (set new n y) v ≡ number_of old v
    high_more v below at = elim (cases_eq v n) [
      | inl e ↦ subst (λ (k : ℕ). number_of (set new n y) k ≡ number_of old k) (sym e) (at_node ∙ high (subst (λ (k : ℕ). level ≤ℤ number_of old k) e at))
      | inr other ↦ get_or-set_other new n v y (pos 0) other ∙ r.high v (omega (arith, below, other)) at
    ]

    pub raised_more : IsRaisedSoFar (n + 1) level by old (set new n y)
    raised_more = record {
      count = length-set new n y ∙ r.count;
      low = low_more;
      high = high_more;
      rest = λ v past. get_or-set_other new n v y (pos 0) (λ e. absurd (omega (arith, past, e))) ∙ r.rest v (omega (arith, past));
    }

-- with what the code read and wrote
pub raised_turn : (n : ℕ) (level by x y written : ℤ) (old new : List ℤ) → IsRaisedSoFar n level by old new → n < length old
    → x ≡ number_of new n → written ≡ y → (x <ℤ level → y ≡ x +ℤ by) → (level ≤ℤ x → y ≡ x)
    → IsRaisedSoFar (n + 1) level by old (set new n written)
raised_turn n level by x y written old new r within read is low high =
    let as_before : x ≡ number_of old n = read ∙ r.rest n (omega arith) in
    raised_more n level by written old new r within
    (λ below. is ∙ low (rw as_before below) ∙ ap (λ (z : ℤ). z +ℤ by) as_before)
    (λ above. is ∙ high (rw as_before above) ∙ as_before)
