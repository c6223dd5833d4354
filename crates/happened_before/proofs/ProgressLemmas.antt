-- One more event is finished.
use Rattle.std.proofs.Common.{◌≡◌, ◌≢◌, ◌∙◌, sym, refl, ap, ℕ, ◌+◌, ◌^◌, ◌<◌, ◌≤◌, inl, inr, Bool, true, false, List, [], length, get_or, set, Option, Some, None, arith}
use Rattle.std.specs.Prelude.{◌==◌, not, slice_index}
use Rattle.std.proofs.lemmas.Bool.{cases_eq, cases_lt}
use Rattle.std.proofs.lemmas.List.{get_or_past, get_or-set_same, get_or-set_other, length-set}
use Rattle.std.proofs.lemmas.List.Sums.{count_by-le-length, get_or-le-sum_by, sum_by-set}
use Rattle.happened_before.specs.declared.causes.Causes.{Causes}
use Rattle.happened_before.specs.Causes.{IsAmong, IsReady, causes_at, is_finished}
use Rattle.happened_before.specs.Progress.{AreClocks, FollowsClocks, HaveClocks, IsFinished, number_after, number_at, number_of, waiting_count}
use Rattle.happened_before.proofs.Counts.{one}

finished-within : (finished : List Bool) (e : ℕ) → is_finished finished e ≡ true → e < length finished
finished-within finished e passes = elim (cases_lt e (length finished)) [
  | inl within ↦ within
  | inr past ↦ let fails = get_or_past finished e false past in cc
]

waiting-some : (finished : List Bool) (e : ℕ) → e < length finished → is_finished finished e ≡ false → 1 ≤ waiting_count finished
waiting-some finished e within fails =
    let here : one (not (get_or finished e false)) ≡ 1 = rw fails refl in
    omega (arith, get_or-le-sum_by (λ b. one (not b)) finished e false within)

pub waiting-set : (finished : List Bool) (e : ℕ) → e < length finished → is_finished finished e ≡ false → waiting_count (set finished e true) + 1 ≡ waiting_count finished
waiting-set finished e within fails =
    let here : one (not (get_or finished e false)) ≡ 1 = rw fails refl in
    omega (arith, sum_by-set (λ b. one (not b)) finished e true false within)

one-most : (b : Bool) → one b ≤ 1
one-most true = omega arith
one-most false = omega arith

module _ (width : ℕ) (hosts : List ℕ) (table : List Causes) where
  module _ (finished : List Bool) (clocks : List (List ℕ)) (are : AreClocks width hosts table finished clocks) (e : ℕ) (ready : IsReady table finished e) where
    -- the causes of a ready event have their clocks
    pub ready-have : length table < 2 ^ 32 → HaveClocks width clocks (causes_at table e)
    ready-have few = record {
      within = λ d among. let within = finished-within finished d (ready.causes d among) in omega (arith, within, are.flags, are.count);
      wide = λ d among. (are.each d (ready.causes d among)).follows.wide;
      small = λ d h among host.
          let small = (are.each d (ready.causes d among)).small h host in
          let some = waiting-some finished e (omega (arith, are.flags, ready.within)) ready.unfinished in
          omega (arith, small, some, are.flags);
    }

    module _ (clock : List ℕ) (follows : FollowsClocks width (slice_index hosts e) clocks (causes_at table e) clock) where
      abbrev clocks' : List (List ℕ)
      clocks' = set clocks e clock

      abbrev finished' : List Bool
      finished' = set finished e true

      -- an event that was finished is another one, and keeps its clock
      other : (d : ℕ) → is_finished finished d ≡ true → d ≢ e
      other d passes same = let fails = ready.unfinished in let here = rw same at passes in cc

      kept : (d : ℕ) → is_finished finished d ≡ true → get_or clocks' d [] ≡ get_or clocks d []
      kept d passes = get_or-set_other clocks e d clock [] (other d passes)

      stays : (d : ℕ) → is_finished finished d ≡ true → is_finished finished' d ≡ true
      stays d passes = get_or-set_other finished e d true false (other d passes) ∙ passes

      number-kept : (cause : Option ℕ) (h : ℕ) → ((d : ℕ) → cause ≡ Some d → is_finished finished d ≡ true) → number_of clocks' cause h ≡ number_of clocks cause h
      number-kept None h passes = refl
      number-kept (Some d) h passes = ap (λ c. slice_index c h) (kept d (passes d refl))

      after-kept : (causes : Causes) (host h : ℕ) → ((d : ℕ) → IsAmong causes d → is_finished finished d ≡ true) → number_after clocks' causes host h ≡ number_after clocks causes host h
      after-kept causes host h passes =
          rw (number-kept causes.previous h (λ d is. passes d (inl is)), number-kept causes.send h (λ d is. passes d (inr is))) refl

      here : get_or clocks' e [] ≡ clock
      here = get_or-set_same clocks e clock [] (omega (arith, are.count, ready.within))

      waiting : waiting_count finished' + 1 ≡ waiting_count finished
      waiting = waiting-set finished e (omega (arith, are.flags, ready.within)) ready.unfinished

      same-count : length finished' ≡ length finished
      same-count = length-set finished e true

      number-small : (cause : Option ℕ) (h : ℕ) → h < width → ((d : ℕ) → cause ≡ Some d → is_finished finished d ≡ true) → (number_of clocks cause h + waiting_count finished) ≤ length finished
      number-small None h host passes = omega (arith, count_by-le-length not finished)
      number-small (Some d) h host passes = (are.each d (passes d refl)).small h host

      finished-here : IsFinished width hosts table finished' clocks' e
      finished-here = record {
        causes = λ d among. stays d (ready.causes d among);
        follows = record {
          wide = rw here follows.wide;
          numbers = λ h host. ap (λ c. slice_index c h) here ∙ follows.numbers h host ∙ sym (after-kept (causes_at table e) (slice_index hosts e) h ready.causes);
        };
        small = λ h host.
            let is : number_at clocks' e h ≡ number_after clocks (causes_at table e) (slice_index hosts e) h = ap (λ c. slice_index c h) here ∙ follows.numbers h host in
            let previous = number-small (causes_at table e).previous h host (λ d at. ready.causes d (inl at)) in
            let send = number-small (causes_at table e).send h host (λ d at. ready.causes d (inr at)) in
            omega (arith, is, one-most (h == slice_index hosts e), waiting, same-count);
      }

      finished-there : (d : ℕ) → is_finished finished d ≡ true → IsFinished width hosts table finished' clocks' d
      finished-there d passes =
          let was = are.each d passes in
          record {
            causes = λ c among. stays c (was.causes c among);
            follows = record {
              wide = rw (kept d passes) was.follows.wide;
              numbers = λ h host. ap (λ c. slice_index c h) (kept d passes) ∙ was.follows.numbers h host ∙ sym (after-kept (causes_at table d) (slice_index hosts d) h was.causes);
            };
            small = λ h host.
                let is : number_at clocks' d h ≡ number_at clocks d h = ap (λ c. slice_index c h) (kept d passes) in
                omega (arith, is, was.small h host, waiting, same-count);
          }

      pub progress-set : AreClocks width hosts table finished' clocks'
      progress-set = record {
        flags = same-count ∙ are.flags;
        count = length-set clocks e clock ∙ are.count;
        each = λ f passes. elim (cases_eq f e) [
          | inl is ↦ rw is finished-here
          | inr apart ↦ finished-there f (sym (get_or-set_other finished e f true false apart) ∙ passes)
        ];
      }
