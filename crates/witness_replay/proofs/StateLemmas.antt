-- What the changes among the rows before a row make of a proposition.
use Rattle.std.proofs.Common.{◌≡◌, ◌∙◌, sym, ap, refl, ℕ, zero, suc, ◌+◌, Bool, true, false, cond, List, [], ◌∷◌, ◌++◌, Option, Some, None, ◌<◌, inl, inr, arith, ℤ}
use Rattle.std.specs.Prelude.{◌==◌, find, reverse, option_and_then, option_map, slice_get, int_le, IfSome}
use Rattle.std.specs.List.{cons_option, filter_map, range_with_len}
use Rattle.std.specs.Option.{option_map_or}
use Rattle.std.proofs.lemmas.Bool.{cases_Bool}
use Rattle.std.proofs.lemmas.List.{append-nil, reverse-append}
use Rattle.mt_model.specs.Log.{Logged}
use Rattle.mt_model.specs.Timing.{host_of, time_of}
use Rattle.mt_model.specs.State.{Change, change_at, effect_of}
use Rattle.mt_list.proofs.Lists.{given_more}

-- a change whose true time is at most an instant
abbrev pub is_by : List ℤ → ℤ → Change → Bool
is_by t instant c = int_le (time_of t c.row) instant

-- the last change in time that the rows before row k make
abbrev pub last_before : Logged → List ℤ → ℤ → ℕ → List ℕ → ℕ → Option Change
last_before log t instant host name k = find (is_by t instant) (reverse (filter_map (change_at log host name) (range_with_len 0 k)))

-- the state as the rows before row k make it
abbrev pub state_before : Logged → List ℤ → ℤ → ℕ → List ℕ → ℕ → Bool
state_before log t instant host name k = option_map_or (λ c. c.sets) (last_before log t instant host name k) false

-- the row of a change
pub change-row : (log : Logged) (host : ℕ) (name : List ℕ) (k : ℕ) → IfSome (change_at log host name k) (λ c. c.row ≡ k)
change-row log host name k = go (host_of log k == host) (option_and_then (λ r. effect_of name r.act) (slice_get log.rows k))
  where
    go : (own : Bool) (made : Option Bool) → IfSome (cond own (option_map (λ sets. record { row = k; sets = sets }) made) None) (λ (c : Change). c.row ≡ k)
    go true None = tt
    go true (Some sets) = refl
    go false made = tt

-- the last that passes, with perhaps one more
last-more : {X : Type 0} (p : X → Bool) (xs : List X) (more : Option X)
    → find p (reverse (xs ++ cons_option more [])) ≡ option_map_or (λ x. cond (p x) (Some x) (find p (reverse xs))) more (find p (reverse xs))
last-more p xs None = rw append-nil refl
last-more p xs (Some x) = rw (reverse-append xs (x ∷ [])) refl

-- the rows before row k + 1 are row k and those before it
pub state_before-more : (log : Logged) (t : List ℤ) (instant : ℤ) (host : ℕ) (name : List ℕ) (k : ℕ) (found : Option Change)
    → change_at log host name k ≡ found
    → state_before log t instant host name (k + 1)
    ≡ option_map_or (λ c. c.sets) (option_map_or (λ c. cond (is_by t instant c) (Some c) (last_before log t instant host name k)) found (last_before log t instant host name k)) false
state_before-more log t instant host name k found is =
    ap (λ cs. option_map_or (λ c. c.sets) (find (is_by t instant) (reverse cs)) false) (given_more (change_at log host name) k)
    ∙ rw is (ap (λ c. option_map_or (λ c. c.sets) c false) (last-more (is_by t instant) (filter_map (change_at log host name) (range_with_len 0 k)) found))

module _ (log : Logged) (t : List ℤ) (instant : ℤ) (host : ℕ) (name : List ℕ) where
  -- a row that makes a change in time decides
  state_before-some : (k : ℕ) (c : Change) → change_at log host name k ≡ Some c → int_le (time_of t k) instant ≡ true → state_before log t instant host name (k + 1) ≡ c.sets
  state_before-some k c found by =
      let row : c.row ≡ k = rw found at (change-row log host name k) in
      state_before-more log t instant host name k (Some c) found ∙ rw (row, by) refl

  -- any other row does not count
  state_before-none : (k : ℕ) → (int_le (time_of t k) instant ≡ true → change_at log host name k ≡ None) → state_before log t instant host name (k + 1) ≡ state_before log t instant host name k
  state_before-none k none = go (change_at log host name k) refl (change-row log host name k)
    where
      go : (found : Option Change) → change_at log host name k ≡ found → IfSome found (λ c. c.row ≡ k) → state_before log t instant host name (k + 1) ≡ state_before log t instant host name k
      go None found row = state_before-more log t instant host name k None found
      go (Some c) found row = elim (cases_Bool (int_le (time_of t k) instant)) [
        | inl by ↦ let is : Some c ≡ None = sym found ∙ none by in absurd (cc)
        | inr late ↦
            let fails : int_le (time_of t c.row) instant ≡ false = rw row late in
            state_before-more log t instant host name k (Some c) found ∙ rw fails refl
      ]

  -- with no change in time among the first rows the state is false
  pub state_before-never : (k : ℕ) → ((e : ℕ) → e < k → int_le (time_of t e) instant ≡ true → change_at log host name e ≡ None) → state_before log t instant host name k ≡ false
  state_before-never zero none = refl
  state_before-never (suc k) none =
      let more : suc k ≡ k + 1 = omega arith in
      ap (state_before log t instant host name) more ∙ (state_before-none k (none k (omega arith)) ∙ state_before-never k (λ e less. none e (omega (arith, less))))

  -- with no change in time among the rows after row r it is what row r makes of it
  pub state_before-last : (r n : ℕ) (c : Change) → change_at log host name r ≡ Some c → int_le (time_of t r) instant ≡ true
      → ((e : ℕ) → r < e → e < r + 1 + n → int_le (time_of t e) instant ≡ true → change_at log host name e ≡ None) → state_before log t instant host name (r + 1 + n) ≡ c.sets
  state_before-last r zero c found by none =
      let same : r + 1 + 0 ≡ r + 1 = omega arith in
      ap (state_before log t instant host name) same ∙ state_before-some r c found by
  state_before-last r (suc n) c found by none =
      let more : r + 1 + suc n ≡ r + 1 + n + 1 = omega arith in
      ap (state_before log t instant host name) more
      ∙ (state_before-none (r + 1 + n) (none (r + 1 + n) (omega arith) (omega arith)) ∙ state_before-last r n c found by (λ e after less. none e after (omega (arith, less))))
