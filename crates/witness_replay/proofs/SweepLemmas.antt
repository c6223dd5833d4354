-- What a sweep knows, and the nearest row of what it searches for.
use Rattle.std.proofs.Common.{◌≡◌, ◌∙◌, sym, refl, ℕ, ◌-◌, ◌<◌, ◌≤◌, Bool, true, false, ◌&&◌, List, length, Option, Some, None, arith, ℤ, inl, inr}
use Rattle.std.specs.Prelude.{nat_lt, option_map, MatchOption}
use Rattle.std.proofs.lemmas.Bool.{and_from, and_parts, cases_Bool, cases_lt, lt-ltb}
use Rattle.mt_model.specs.Frame.{Frame}
use Rattle.formula_arena.specs.declared.direction.Direction.{Direction}
use Rattle.witness_replay.specs.Columns.{value_at}
use Rattle.witness_replay.specs.Directions.{is_far, rows_from}
use Rattle.witness_replay.specs.Sweeps.{AreFar, AreNear, IsFirstHit, IsSwept, has_value, is_hit}
use Rattle.witness_replay.specs.Timelines.{IsTimeline, row_met}
use Rattle.witness_replay.specs.declared.sweep.Sweep.{Sweep}
use Rattle.witness_replay.specs.declared.timeline.Moment.{Moment}
use Rattle.witness_replay.proofs.TimelineLemmas.{far-none, far-to_later, far-from_earlier, met-each, met-in, met-ordered}
use Rattle.witness_replay.proofs.FirstRows.{IsFirstGap, IsFirstOf, is_candidate, is_gap}

module _ (d : Direction) (t : List ℤ) (moments : List Moment) (timeline : IsTimeline t moments) where
  abbrev F : Frame ℕ
  F = rows_from d t

  abbrev row : ℕ → ℕ
  row = row_met d moments

  -- the places before the one at which a sweep ends are too near
  pub near-rest : (low e p : ℕ) → p ≤ length t → (nat_lt 0 p && is_far d t low e (row (p - 1))) ≡ false → AreNear d t moments low e p
  near-rest low e p within ends = λ k before. elim (cases_Bool (is_far d t low e (row k))) [
    | inl far ↦
        let last : p - 1 < length t = omega (arith, within, before) in
        let more = far-to_later d t low e (row k) (row (p - 1)) (met-ordered d t moments timeline k (p - 1) (omega (arith, before)) last) far in
        let some = lt-ltb 0 p (omega (arith, before)) in
        let no = and_from (nat_lt 0 p) (is_far d t low e (row (p - 1))) some more in absurd (cc)
    | inr near ↦ near
  ]

  -- what is far enough from a row is so from those that are met before it
  pub far-earlier : (low p q place : ℕ) → p ≤ q → q < length t → AreFar d t moments low (row q) place → AreFar d t moments low (row p) place
  far-earlier low p q place before within far = λ k low' high. far-from_earlier d t low (row p) (row q) (row k) (met-ordered d t moments timeline p q before within) (far k low' high)

  -- a sweep over all that is far enough has the nearest row at which the side has the value
  pub first-swept : (value : Bool) (side : List Bool) (low e : ℕ) (sweep : Sweep) → IsSwept (is_hit d moments value side) (length t) sweep
      → AreFar d t moments low e sweep.place → AreNear d t moments low e sweep.place → IsFirstOf F (is_candidate d t low (has_value value side) e) (length t) (option_map row sweep.hit)
  first-swept value side low e sweep swept far near = go sweep.hit swept.known
    where
      candidate : ℕ → Bool
      candidate = is_candidate d t low (has_value value side) e

      taken-in : (k : ℕ) → k < length t → candidate (row k) ≡ true → sweep.place ≤ k
      taken-in k within is = elim (cases_lt k sweep.place) [
        | inl before ↦
            let no = near k before in
            let (far', _) = and_parts (is_far d t low e (row k)) (has_value value side (row k)) is in absurd (cc)
        | inr after ↦ after
      ]

      go : (hit : Option ℕ)
          → MatchOption hit ((k : ℕ) → sweep.place ≤ k → k < length t → is_hit d moments value side k ≡ false) (IsFirstHit (is_hit d moments value side) sweep.place (length t))
          → IsFirstOf F candidate (length t) (option_map row hit)
      go None known = λ m within. elim (cases_Bool (candidate m)) [
        | inl is ↦
            let (k, k_in, here) = met-each d t moments timeline m within in
            let is_k : candidate (row k) ≡ true = rw here is in
            let (_, holds) = and_parts (is_far d t low e (row k)) (has_value value side (row k)) is_k in
            let no = known k (taken-in k k_in is_k) k_in in absurd (cc)
        | inr fails ↦ fails
      ]
      go (Some h) known = record {
        within = met-in d t moments timeline h known.within;
        passed = and_from (is_far d t low e (row h)) (has_value value side (row h)) (far h known.from known.within) known.hit;
        first = λ m within is.
            let (k, k_in, here) = met-each d t moments timeline m within in
            let is_k : candidate (row k) ≡ true = rw here is in
            let (_, holds) = and_parts (is_far d t low e (row k)) (has_value value side (row k)) is_k in
            rw (← here) (met-ordered d t moments timeline h k (known.first k (taken-in k k_in is_k) k_in holds) k_in);
      }

  first-same : (p q : ℕ → Bool) → ((m : ℕ) → p m ≡ q m) → (found : Option ℕ) → IsFirstOf F p (length t) found → IsFirstOf F q (length t) found
  first-same p q same None none = λ m within. sym (same m) ∙ none m within
  first-same p q same (Some g) some = record { within = some.within; passed = sym (same g) ∙ some.passed; first = λ m within is. some.first m within (same m ∙ is) }

  -- with no least distance it has the first gap
  pub gap-swept : (side : List Bool) (e : ℕ) (sweep : Sweep) → IsSwept (is_hit d moments false side) (length t) sweep
      → AreFar d t moments 0 e sweep.place → AreNear d t moments 0 e sweep.place → IsFirstGap F (value_at side) e (length t) (option_map row sweep.hit)
  gap-swept side e sweep swept far near =
      first-same (is_candidate d t 0 (has_value false side) e) (is_gap F (value_at side) e) (λ m. rw (far-none d t e m) refl) (option_map row sweep.hit)
      (first-swept false side 0 e sweep swept far near)
