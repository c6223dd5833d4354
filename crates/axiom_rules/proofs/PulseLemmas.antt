-- The pulse rows of a proposition: they rise, and its state where it is pulsed.
use Rattle.std.proofs.Common.{◌≡◌, ◌∙◌, sym, ap, ℕ, zero, suc, ◌+◌, ◌<◌, ◌≤◌, ◌==◌, Bool, true, false, List, [], ◌∷◌, ◌++◌, length, Some, arith}
use Rattle.std.specs.Prelude.{AllPairs, filter, slice_get}
use Rattle.std.specs.List.{AllByRecursion, list_any, range_with_len}
use Rattle.std.specs.Option.{option_map_or}
use Rattle.std.proofs.lemmas.Bool.{and_parts, cases_Bool, or_left, or_right}
use Rattle.std.proofs.lemmas.List.{append-nil}
use Rattle.std.proofs.lemmas.List.Elements.{filter-append}
use Rattle.std.proofs.lemmas.List.FromFn.{get_or-range_with_len, length-range_with_len}
use Rattle.std.proofs.lemmas.List.Kept.{AllPairs-filter}
use Rattle.std.proofs.Common.{Option, None, inl, inr, refl}
use Rattle.mt_model.specs.declared.log.Act.{Act}
use Rattle.mt_model.specs.declared.log.Act.TheVariants.{Set, Clear, Send, Recv, Note, Pulse}
use Rattle.mt_model.specs.declared.log.Row.{Row}
use Rattle.mt_model.specs.Log.{Logged, is_pulse}
use Rattle.mt_model.specs.State.{is_pulse_at, is_pulse_of, pulses_of}
use Rattle.mt_model.specs.Timing.{host_of}
use Rattle.axiom_rules.specs.Rules.{is_pulse_row}
use Rattle.mt_list.proofs.Lists.{range_more}

-- numbers that follow one another rise, ..
rising-range : (a n : ℕ) → AllPairs (λ x y. x < y) (range_with_len a n)
rising-range a n i j d less low =
    let high : j < n = omega (arith, low, length-range_with_len a n) in
    rw (get_or-range_with_len a n i d (omega (arith, less, high)), get_or-range_with_len a n j d high) (omega (arith, less))

-- .. and so do pulse rows
pub pulses-rise : (log : Logged) (host : ℕ) (name : List ℕ) → AllPairs (λ x y. x < y) (pulses_of log host name)
pulses-rise log host name = AllPairs-filter (λ x y. x < y) (is_pulse_at log host name) (range_with_len 0 (length log.rows)) (rising-range 0 (length log.rows))

module _ (log : Logged) (host : ℕ) (name : List ℕ) where
  -- a row of the log that is a pulse row
  abbrev pub IsPulse : ℕ → Type 0
  IsPulse u = (u < length log.rows) × (is_pulse_row log u ≡ true)

  act-pulses : (act : Act) → is_pulse_of name act ≡ true → is_pulse act ≡ true
  act-pulses (Set n) is = absurd (cc)
  act-pulses (Clear n) is = absurd (cc)
  act-pulses (Send m) is = absurd (cc)
  act-pulses (Recv m) is = absurd (cc)
  act-pulses (Note n) is = absurd (cc)
  act-pulses (Pulse n) is = refl

  row-pulses : (o : Option Row) → option_map_or (λ (r : Row). is_pulse_of name r.act) o false ≡ true → option_map_or (λ (r : Row). is_pulse r.act) o false ≡ true
  row-pulses None is = absurd (cc)
  row-pulses (Some r) is = act-pulses r.act is

  pulse-row : (u : ℕ) → is_pulse_at log host name u ≡ true → is_pulse_row log u ≡ true
  pulse-row u is = row-pulses (slice_get log.rows u) (and_parts (host_of log u == host) _ is).1

  pulses-from : (a n : ℕ) → a + n ≤ length log.rows → AllByRecursion IsPulse (filter (is_pulse_at log host name) (range_with_len a n))
  pulses-from a zero within = tt
  pulses-from a (suc n) within = elim (cases_Bool (is_pulse_at log host name a)) [
    | inl is ↦ rw is ((omega arith, pulse-row a is), pulses-from (a + 1) n (omega arith))
    | inr fails ↦ rw fails (pulses-from (a + 1) n (omega arith))
  ]

  -- the pulse rows of a proposition are such rows
  pub pulses-are : AllByRecursion IsPulse (pulses_of log host name)
  pulses-are = pulses-from 0 (length log.rows) (omega arith)

-- there are no more than rows
pub filter-short : (p : ℕ → Bool) (xs : List ℕ) → length (filter p xs) ≤ length xs
filter-short p [] = omega arith
filter-short p (x ∷ xs) = elim (cases_Bool (p x)) [
  | inl is ↦ let ih = filter-short p xs in rw is (omega (arith, ih))
  | inr fails ↦ let ih = filter-short p xs in rw fails (omega (arith, ih))
]

pub pulses-few : (log : Logged) (host : ℕ) (name : List ℕ) → length (pulses_of log host name) ≤ length log.rows
pulses-few log host name = omega (arith, filter-short (is_pulse_at log host name) (range_with_len 0 (length log.rows)), length-range_with_len 0 (length log.rows))

-- the numbers that pass among one more
filter-more : (p : ℕ → Bool) (k : ℕ) → filter p (range_with_len 0 (k + 1)) ≡ filter p (range_with_len 0 k) ++ filter p (k ∷ [])
filter-more p k =
    let e : 0 + k ≡ k = omega arith in
    ap (filter p) (range_more 0 k) ∙ filter-append p (range_with_len 0 k) ((0 + k) ∷ []) ∙ rw e refl

pub pulses-some : (p : ℕ → Bool) (k : ℕ) (old new : List ℕ) → old ≡ filter p (range_with_len 0 k) → p k ≡ true → new ≡ old ++ k ∷ [] → new ≡ filter p (range_with_len 0 (k + 1))
pulses-some p k old new is passes more =
    let last : filter p (k ∷ []) ≡ k ∷ [] = rw passes refl in
    more ∙ ap (λ us. us ++ k ∷ []) is ∙ sym (filter-more p k ∙ ap (λ us. filter p (range_with_len 0 k) ++ us) last)

pub pulses-none : (p : ℕ → Bool) (k : ℕ) (old new : List ℕ) → old ≡ filter p (range_with_len 0 k) → p k ≡ false → new ≡ old → new ≡ filter p (range_with_len 0 (k + 1))
pulses-none p k old new is fails same =
    let last : filter p (k ∷ []) ≡ [] = rw fails refl in
    same ∙ is ∙ sym (filter-more p k ∙ ap (λ us. filter p (range_with_len 0 k) ++ us) last ∙ append-nil (filter p (range_with_len 0 k)))

-- an event of a list at a place that passes
pub passes-at : (p : ℕ → Bool) (us : List ℕ) (place u : ℕ) → slice_get us place ≡ Some u → p u ≡ true → list_any p us ≡ true
passes-at p [] place u there is = absurd (cc)
passes-at p (x ∷ us) zero u there is = let same : x ≡ u = cc in or_left (p x) (list_any p us) (rw same is)
passes-at p (x ∷ us) (suc place) u there is = or_right (p x) (list_any p us) (passes-at p us place u there is)

-- two tests that agree
pub any-agrees : (p q : ℕ → Bool) (us : List ℕ) → ((u : ℕ) → p u ≡ q u) → list_any p us ≡ list_any q us
any-agrees p q [] agree = refl
any-agrees p q (u ∷ us) agree = rw (agree u, any-agrees p q us agree) refl
