-- An event is in the past of another where its own number is at most the one that the other's clock has for its host.
use Rattle.std.proofs.Common.{◌≡◌, sym, refl, ℕ, zero, suc, ◌<◌, ◌≤◌, inl, inr, Bool, leb, List, [], ◌∷◌, length, map, arith}
use Rattle.std.specs.Prelude.{◌↔◌, ◌==◌, ◌&&◌, IsTrue, count_by, slice_index, slice_get}
use Rattle.std.specs.Option.{option_map_or}
use Rattle.std.specs.List.{range_with_len}
use Rattle.std.proofs.lemmas.Bool.{and_parts, and_from, and_left, cases_Bool, cases_order, eq-eqb, eqb-true, leb-true, le-leb, false_from_ne_true}
use Rattle.mt_model.specs.declared.log.Row.{Row}
use Rattle.mt_model.specs.Log.{Logged}
use Rattle.mt_model.specs.Timing.{host_of}
use Rattle.mt_model.specs.Laws.{PreviousRowIsLast}
use Rattle.mt_model.specs.Before.{through}
use Rattle.happened_before.specs.Order.{IsClock, IsInPast}
use Rattle.happened_before.proofs.Counts.{count_below-le, count_below-lt}
use Rattle.happened_before.proofs.HostRows.{earlier_is_before}

pub hosts-at : (rows : List Row) (e : ℕ) → slice_index (map (λ r. r.host) rows) e ≡ option_map_or (λ r. r.host) (slice_get rows e) 0
hosts-at [] e = refl
hosts-at (r ∷ rs) zero = refl
hosts-at (r ∷ rs) (suc e) = hosts-at rs e

module _ (law : PreviousRowIsLast) (log : Logged) (e f : ℕ) (within : e < length log.rows) where
  -- the past of what is in a past is in it as well
  past-of-past : IsInPast log e f → (r : ℕ) → IsInPast log r e → IsInPast log r f
  past-of-past past r (inl same) = rw same past
  past-of-past (inl same) r (inr before) = inr (rw (← same) before)
  past-of-past (inr before) r (inr sooner) = inr (through r e f sooner before)

  -- where e is not in f's past, the rows of e's host that are in it happen before e
  past-sooner : (IsInPast log e f → ⊥) → (r : ℕ) → r < length log.rows → host_of log r ≡ host_of log e → IsInPast log r f → IsInPast log r e
  past-sooner none r below same past = elim (cases_order r e) [
    | inl here ↦ inl here
    | inr apart ↦ elim apart [
      | inl lower ↦ inr (earlier_is_before law log r e lower within same)
      | inr higher ↦
          let next = earlier_is_before law log e r higher below (sym same) in
          absurd (none (elim past [ inl is ↦ inr (rw (sym is) next) | inr rest ↦ inr (through e r f next rest) ]))
    ]
  ]

  module _ (p q : ℕ → Bool) (told_e : (r : ℕ) → r < length log.rows → IsTrue (p r) ↔ IsInPast log r e) (told_f : (r : ℕ) → r < length log.rows → IsTrue (q r) ↔ IsInPast log r f) where
    abbrev of_host : (ℕ → Bool) → ℕ → Bool
    of_host test r = test r && (host_of log r == host_of log e)

    abbrev count : (ℕ → Bool) → ℕ
    count test = count_by (of_host test) (range_with_len 0 (length log.rows))

    count-le : IsInPast log e f → count p ≤ count q
    count-le past = count_below-le (of_host p) (of_host q) (length log.rows) (λ r below passes.
        let parts = and_parts (p r) (host_of log r == host_of log e) passes in
        and_from (q r) (host_of log r == host_of log e) ((told_f r below).1 (past-of-past past r ((told_e r below).0 parts.0))) parts.1)

    count-lt : (IsInPast log e f → ⊥) → count q < count p
    count-lt none = count_below-lt (of_host q) (of_host p) (length log.rows) e
        (λ r below passes.
        let parts = and_parts (q r) (host_of log r == host_of log e) passes in
        let same = eqb-true (host_of log r) (host_of log e) parts.1 in
        and_from (p r) (host_of log r == host_of log e) ((told_e r below).1 (past-sooner none r below same ((told_f r below).0 parts.0))) parts.1)
        within
        (and_left (q e) (host_of log e == host_of log e) (false_from_ne_true (q e) (λ passes. none ((told_f e within).0 passes))))
        (and_from (p e) (host_of log e == host_of log e) ((told_e e within).1 (inl refl)) (eq-eqb (host_of log e) (host_of log e) refl))

    past-from_le : count p ≤ count q → IsInPast log e f
    past-from_le less = elim (cases_Bool (q e)) [
      | inl passes ↦ (told_f e within).0 passes
      | inr fails ↦
          let more = count-lt (λ past. let passes = (told_f e within).1 past in cc) in
          absurd (omega arith)
    ]

  -- the comparison of two clocks at e's host tells whether e is in the past of f
  pub told-by_clocks : (c d : List ℕ) (h : ℕ) → h ≡ host_of log e → h < length c → IsClock log e c → IsClock log f d → IsTrue (leb (slice_index c h) (slice_index d h)) ↔ IsInPast log e f
  told-by_clocks c d h same low ce cf =
      let host : host_of log e < length log.hosts = let size = ce.hosts in omega arith in
      let first : slice_index c h ≡ count_by (λ r. ce.past r && (host_of log r == host_of log e)) (range_with_len 0 (length log.rows)) = rw same (ce.number (host_of log e) host) in
      let second : slice_index d h ≡ count_by (λ r. cf.past r && (host_of log r == host_of log e)) (range_with_len 0 (length log.rows)) = rw same (cf.number (host_of log e) host) in (
        λ passes. let less = leb-true (slice_index c h) (slice_index d h) passes in
            past-from_le ce.past cf.past ce.told cf.told (omega arith),
        λ past. let less = count-le ce.past cf.past ce.told cf.told past in
            le-leb (slice_index c h) (slice_index d h) (omega arith),
      )
