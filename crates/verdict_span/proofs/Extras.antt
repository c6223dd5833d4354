-- What an extra bound changes of a log: which timings it admits, and nothing else.
use Rattle.std.proofs.Common.{◌≡◌, refl, subst, ap, arith, ℕ, zero, suc, Bool, List, [], ◌∷◌, ◌++◌, length, slice_get, Some, inl, inr, ℤ, ◌-ℤ◌, ◌≤ℤ◌, neg_ℤ}
use Rattle.std.proofs.lemmas.Int.{ints}
use Rattle.std.proofs.lemmas.List.Elements.{All-append, All-cons, All-nil}
use Rattle.std.proofs.Math.ListN.{length-append}
use Rattle.mt_model.specs.declared.log.Extra.{Extra}
use Rattle.mt_model.specs.declared.limits.TheConstants.{MAX_EXTRA}
use Rattle.mt_model.specs.Log.{IsExtra, IsLog, IsWithin, Logged, with_extra}
use Rattle.mt_model.specs.Positions.{positions_of}
use Rattle.mt_model.specs.Timing.{Admissible, time_of}
use Rattle.mt_model.specs.Truth.{positions_in}
use Rattle.skew_bounds.specs.Tight.{difference}
use Rattle.axiom_rules.proofs.ShapeLemmas.{slice-end}
use Rattle.best_answer.proofs.SameStates.{truths}
use Rattle.verdict_span.specs.Laws.{ExtrasKeepTruth, ExtrasOnlyExclude}
use Rattle.verdict_span.specs.Spaced.{CanBeSpaced, spaced}
use Rattle.mt_list.proofs.Lists.{got_last}

-- one more at the end of a list
got-kept : {X : Type 0} (xs : List X) (x y : X) (k : ℕ) → slice_get xs k ≡ Some y → slice_get (xs ++ x ∷ []) k ≡ Some y
got-kept [] x y k is = absurd (cc)
got-kept (z ∷ zs) x y zero is = is
got-kept (z ∷ zs) x y (suc k) is = got-kept zs x y k is

module _ (log : Logged) (x : Extra) (t : List ℤ) where
  fewer : Admissible (with_extra log x) t → Admissible log t
  fewer ok = record {
    count = ok.count;
    low = ok.low;
    high = ok.high;
    rise = ok.rise;
    message = ok.message;
    late = ok.late;
    extra = λ k y got. ok.extra k y (got-kept log.extras x y k got);
    clocks = record { offsets = ok.clocks.offsets; are = record { count = ok.clocks.are.count; under = ok.clocks.are.under; over = ok.clocks.are.over } };
  }

  met : Admissible (with_extra log x) t → (time_of t x.e -ℤ time_of t x.f) ≤ℤ x.c
  met ok = ok.extra (length log.extras) x (got_last log.extras x)

  both : Admissible log t → (time_of t x.e -ℤ time_of t x.f) ≤ℤ x.c → Admissible (with_extra log x) t
  both ok holds = record {
    count = ok.count;
    low = ok.low;
    high = ok.high;
    rise = ok.rise;
    message = ok.message;
    late = ok.late;
    extra = λ k y got. elim (slice-end log.extras x y k got) [
      | inl old ↦ ok.extra k y old
      | inr new ↦ subst (λ (z : Extra). (time_of t z.e -ℤ time_of t z.f) ≤ℤ z.c) new.1 holds
    ];
    clocks = record { offsets = ok.clocks.offsets; are = record { count = ok.clocks.are.count; under = ok.clocks.are.under; over = ok.clocks.are.over } };
  }

turned : (a b c : ℤ) → (a -ℤ b) ≤ℤ neg_ℤ c → c ≤ℤ (b -ℤ a)
turned a b c less = omega (arith, ints, less)

back : (a b c : ℤ) → c ≤ℤ (b -ℤ a) → (a -ℤ b) ≤ℤ neg_ℤ c
back a b c less = omega (arith, ints, less)

module _ (log : Logged) (e to : ℕ) (c : ℤ) (t : List ℤ) where
  abbrev pub the-extra : Extra
  the-extra = record { e = e; f = to; c = neg_ℤ c }

  pub unspaced : Admissible (spaced e to c log) t → Admissible log t
  unspaced ok = fewer log the-extra t ok

  pub far : Admissible (spaced e to c log) t → c ≤ℤ difference t e to
  far ok = turned (time_of t e) (time_of t to) c (met log the-extra t ok)

  pub spaced-out : Admissible log t → c ≤ℤ difference t e to → Admissible (spaced e to c log) t
  spaced-out ok less = both log the-extra t ok (back (time_of t e) (time_of t to) c less)

pub extras-only-exclude : ExtrasOnlyExclude
extras-only-exclude = record {
  admits = λ log x t. (λ ok. (fewer log x t ok, met log x t ok), λ ok. both log x t ok.0 ok.1);
  spaces = λ log e to c t. (λ ok. (unspaced log e to c t ok, far log e to c t ok), λ ok. spaced-out log e to c t ok.0 ok.1);
}

pub extras-keep-truth : ExtrasKeepTruth
extras-keep-truth log x t i f = ap (λ (p : ℕ → Bool). p i) (truths (with_extra log x) log t (λ u host name. refl) (positions_in (positions_of t)) f)

neg-within : (c : ℤ) → IsWithin MAX_EXTRA c → IsWithin MAX_EXTRA (neg_ℤ c)
neg-within c within = record { low = omega (arith, ints, within.high); high = omega (arith, ints, within.low) }

-- the log with the extra bound is valid
pub spaced-valid : (log : Logged) (e to : ℕ) (c : ℤ) → IsLog log → CanBeSpaced log e to → IsWithin MAX_EXTRA c → IsLog (spaced e to c log)
spaced-valid log e to c valid pair within = record {
  some_hosts = valid.some_hosts;
  few_hosts = valid.few_hosts;
  some_rows = valid.some_rows;
  few_rows = valid.few_rows;
  few_extras = omega (arith, length-append log.extras (the-extra log e to c [] ∷ []), pair.room);
  names = valid.names;
  hosts = valid.hosts;
  rows = valid.rows;
  resyncs = valid.resyncs;
  clocks = valid.clocks;
  readings = valid.readings;
  extras = All-append (IsExtra (length log.rows)) log.extras (the-extra log e to c [] ∷ []) valid.extras
      (All-cons (IsExtra (length log.rows)) (the-extra log e to c []) []
      (record { e = pair.row; f = pair.other; apart = pair.apart; bound = neg-within c within }) (All-nil (IsExtra (length log.rows))));
}
