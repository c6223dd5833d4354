-- The rows of one host happen one after another.
use Rattle.std.proofs.Common.{◌≡◌, ◌∙◌, sym, refl, ap, ℕ, zero, suc, ◌<◌, inl, inr, length, Option, Some, None, arith}
use Rattle.std.proofs.lemmas.Bool.{cases_order}
use Rattle.mt_model.specs.Log.{Logged}
use Rattle.mt_model.specs.Timing.{host_of, previous_row}
use Rattle.mt_model.specs.Laws.{PreviousRowIsLast}
use Rattle.mt_model.specs.Before.{Before, directly, through}

module _ (law : PreviousRowIsLast) (log : Logged) where
  -- an earlier row of f's host happens before f, if it happens before the previous row p wherever it isn't p
  past_previous : (e p f : ℕ) → previous_row log f ≡ Some p → e < f → f < length log.rows → host_of log e ≡ host_of log f → (e < p → Before log e p) → Before log e f
  past_previous e p f is less within same past = elim (cases_order e p) [
    | inl here ↦ directly e f (within, inl (is ∙ ap Some (sym here)))
    | inr apart ↦ elim apart [
      | inl lower ↦ through e p f (past lower) (directly p f (within, inl is))
      | inr higher ↦ absurd ((law.found log p f is).none_between e higher less same)
    ]
  ]

  -- by way of the rows between
  past_row : (n e f : ℕ) → f < n → e < f → f < length log.rows → host_of log e ≡ host_of log f → Before log e f
  past_row zero e f small less within same = absurd (omega arith)
  past_row (suc n) e f small less within same = by (previous_row log f) refl (past_row n)
    where
      by : (o : Option ℕ) → previous_row log f ≡ o → ((a b : ℕ) → b < n → a < b → b < length log.rows → host_of log a ≡ host_of log b → Before log a b) → Before log e f
      by None is rest = absurd (law.absent log f is e less same)
      by (Some p) is rest =
          let last = law.found log p f is in
          let order = last.before in
          past_previous e p f is less within same (λ earlier. rest e p (omega arith) earlier (omega arith) (same ∙ sym last.same_host))

  -- an earlier row of a host happens before a later one
  pub earlier_is_before : (e f : ℕ) → e < f → f < length log.rows → host_of log e ≡ host_of log f → Before log e f
  earlier_is_before e f less within same = past_row (suc f) e f (omega arith) less within same

-- what something happens before is a row
pub before-within : {log : Logged} {e f : ℕ} → Before log e f → f < length log.rows
before-within (directly e f near) = near.0
before-within (through e k f one two) = before-within two
