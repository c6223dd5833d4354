-- What holds of the rows that tell of each proposition.
use Rattle.std.proofs.Common.{◌≡◌, ap, refl, subst, ℕ, ◌+◌, ◌<◌, ◌≤◌, cond, List, [], ◌∷◌, length, Option, Some, None, arith}
use Rattle.std.specs.Prelude.{AllPairs, count_by, is_some, option_and_then, slice_get}
use Rattle.std.specs.List.{cons_option, filter_map, range_with_len}
use Rattle.std.specs.Option.{option_map_or}
use Rattle.std.proofs.lemmas.List.FromFn.{length-range_with_len}
use Rattle.std.proofs.lemmas.List.Sums.{count_by-le-length, sum_by-cons}
use Rattle.mt_model.specs.Form.{Form, True, False, Prop, Not, And, Or, Implies, Until, Since, Eventually, Always, Once, Historically}
use Rattle.mt_model.specs.State.{Change, change_at, changes_of, host_named, pulses_of}
use Rattle.axiom_rules.specs.declared.proposition.PropositionRows.{PropositionRows}
use Rattle.axiom_rules.specs.declared.shape.Shape.{Shape}
use Rattle.axiom_rules.specs.declared.shape.Shape.TheVariants as shape
use Rattle.axiom_rules.specs.NodeShapes.{changes_in, proposition_in, pulses_in, rows_named, shape_at, shape_of}
use Rattle.axiom_rules.specs.Sought.{Sought}
use Rattle.axiom_rules.proofs.PulseLemmas.{pulses-few, pulses-rise}

module _ (s : Sought) (P : PropositionRows → Type 0) (each : (host name : List ℕ) → P (rows_named s.log host name)) where
  shape-case : (f : Form) (rows : PropositionRows) → proposition_in (shape_of s.log s.trees f) ≡ Some rows → P rows
  shape-case (Prop host name) rows is = let same : rows_named s.log host name ≡ rows = cc in subst P same (each host name)
  shape-case True rows is = absurd (cc)
  shape-case False rows is = absurd (cc)
  shape-case (Not f) rows is = absurd (cc)
  shape-case (And f g) rows is = absurd (cc)
  shape-case (Or f g) rows is = absurd (cc)
  shape-case (Implies f g) rows is = absurd (cc)
  shape-case (Until I f g) rows is = absurd (cc)
  shape-case (Since I f g) rows is = absurd (cc)
  shape-case (Eventually I f) rows is = absurd (cc)
  shape-case (Always I f) rows is = absurd (cc)
  shape-case (Once I f) rows is = absurd (cc)
  shape-case (Historically I f) rows is = absurd (cc)

  -- what holds of the rows of each proposition holds of those in the shape of a node
  pub proposition-case : (o : Option Form) (rows : PropositionRows) → proposition_in (option_and_then (shape_of s.log s.trees) o) ≡ Some rows → P rows
  proposition-case None rows is = absurd (cc)
  proposition-case (Some f) rows is = shape-case f rows is

-- the changes and the pulses of a proposition are among its rows
pub changes-among : (o : Option Shape) (changes : List Change) → changes_in o ≡ Some changes → (rows : PropositionRows) × (proposition_in o ≡ Some rows) × (rows.changes ≡ changes)
changes-among None changes is = absurd (cc)
changes-among (Some shape.True) changes is = absurd (cc)
changes-among (Some (shape.Prop host name rows)) changes is = let same : rows.changes ≡ changes = cc in (rows, refl, same)
changes-among (Some (shape.Not a)) changes is = absurd (cc)
changes-among (Some (shape.And a b)) changes is = absurd (cc)
changes-among (Some (shape.Reach r)) changes is = absurd (cc)

pub pulses-among : (o : Option Shape) (pulses : List ℕ) → pulses_in o ≡ Some pulses → (rows : PropositionRows) × (proposition_in o ≡ Some rows) × (rows.pulses ≡ pulses)
pulses-among None pulses is = absurd (cc)
pulses-among (Some shape.True) pulses is = absurd (cc)
pulses-among (Some (shape.Prop host name rows)) pulses is = let same : rows.pulses ≡ pulses = cc in (rows, refl, same)
pulses-among (Some (shape.Not a)) pulses is = absurd (cc)
pulses-among (Some (shape.And a b)) pulses is = absurd (cc)
pulses-among (Some (shape.Reach r)) pulses is = absurd (cc)

-- there are no more changes than rows that are one
pub changes-count : (h : ℕ → Option Change) (rows : List ℕ) → length (filter_map h rows) ≤ count_by (λ e. is_some (h e)) rows
changes-count h [] = omega arith
changes-count h (e ∷ rows) =
    let sum = sum_by-cons (λ e. cond (is_some (h e)) 1 0) e rows in
    rw sum (go (h e) (changes-count h rows))
  where
    go : (o : Option Change) → length (filter_map h rows) ≤ count_by (λ e. is_some (h e)) rows → length (cons_option o (filter_map h rows)) ≤ cond (is_some o) 1 0 + count_by (λ e. is_some (h e)) rows
    go None low = omega (arith, low)
    go (Some c) low = omega (arith, low)

module _ (s : Sought) where
  -- a proposition has at most one change for each row, and one pulse, and its pulses rise
  pub record AreRowsOf (rows : PropositionRows) : Type 0 where
    pub few_changes : length rows.changes ≤ length s.log.rows
    pub few_pulses : length rows.pulses ≤ length s.log.rows
    pub rising : AllPairs (λ u v. u < v) rows.pulses

  of-named : (host name : List ℕ) → AreRowsOf (rows_named s.log host name)
  of-named host name = record { few_changes = changes (host_named s.log host); few_pulses = pulses (host_named s.log host); rising = rise (host_named s.log host) }
    where
      changes : (o : Option ℕ) → length (option_map_or (λ h. changes_of s.log h name) o []) ≤ length s.log.rows
      changes None = omega arith
      changes (Some h) =
          let rows = range_with_len 0 (length s.log.rows) in
          let count = changes-count (change_at s.log h name) rows in
          let all = count_by-le-length (λ e. is_some (change_at s.log h name e)) rows in
          omega (arith, count, all, length-range_with_len 0 (length s.log.rows))

      pulses : (o : Option ℕ) → length (option_map_or (λ h. pulses_of s.log h name) o []) ≤ length s.log.rows
      pulses None = omega arith
      pulses (Some h) = pulses-few s.log h name

      rise : (o : Option ℕ) → AllPairs (λ u v. u < v) (option_map_or (λ h. pulses_of s.log h name) o [])
      rise None = λ i j d less low. absurd (omega (arith, low))
      rise (Some h) = pulses-rise s.log h name

  pub proposition-rows : (k : ℕ) (rows : PropositionRows) → proposition_in (shape_at s k) ≡ Some rows → AreRowsOf rows
  proposition-rows k = proposition-case s AreRowsOf of-named (slice_get s.trees k)

  pub few-changes : (k : ℕ) (changes : List Change) → changes_in (shape_at s k) ≡ Some changes → length changes ≤ length s.log.rows
  few-changes k changes is =
      let (rows, there, same) = changes-among (shape_at s k) changes is in
      let of = proposition-rows k rows there in
      omega (arith, of.few_changes, ap length same)

  pub few-pulses : (k : ℕ) (pulses : List ℕ) → pulses_in (shape_at s k) ≡ Some pulses → length pulses ≤ length s.log.rows
  few-pulses k pulses is =
      let (rows, there, same) = pulses-among (shape_at s k) pulses is in
      let of = proposition-rows k rows there in
      omega (arith, of.few_pulses, ap length same)
