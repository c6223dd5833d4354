-- A log of version 1 admits what it admitted, and its propositions have the states that they had.
use Rattle.std.proofs.Common.{◌≡◌, ◌∙◌, sym, refl, ap, ℕ, suc, zero, ◌+◌, ◌==◌, Bool, false, List, [], length, Option, Some, None, pos}
use Rattle.std.specs.Prelude.{slice_get, filter, option_map, option_and_then}
use Rattle.std.specs.List.{range_with_len}
use Rattle.std.specs.Option.{option_map_or}
use Rattle.std.proofs.Math.Bool.{and-false}
use Rattle.mt_model.specs.declared.log.Act.{Act}
use Rattle.mt_model.specs.declared.log.Act.TheVariants.{Set, Clear, Send, Recv, Note, Pulse}
use Rattle.mt_model.specs.declared.log.Host.{Host}
use Rattle.mt_model.specs.declared.log.Row.{Row}
use Rattle.mt_model.specs.declared.limits.TheConstants.{MIN_DELAY}
use Rattle.mt_model.specs.Log.{Logged, is_pulse}
use Rattle.mt_model.specs.State.{is_pulse_at, is_pulse_of, pulses_of}
use Rattle.mt_model.specs.Timing.{declared_gap, declared_skew, gap_of, host_of, least_delay, most_delay, resync_of, skew_of}
use Rattle.mt_model.specs.VersionOne.{HasNoLatency, HasNoPulses, IsVersionOne, StatesOfVersionOneAreKept, VersionOneIsKept}
use Rattle.mt_model.proofs.Resyncs.{at-place}
use Rattle.mt_model.proofs.Unread.{offsets-unread}

module _ (log : Logged) (old : IsVersionOne log) where
  no-resync : (e : ℕ) → resync_of log e ≡ None
  no-resync e = rw old.no_resyncs refl

  skew-is : (e : ℕ) → skew_of log e ≡ declared_skew log e
  skew-is e = rw (no-resync e) refl

  gap-is : (e : ℕ) → gap_of log e ≡ declared_gap log e
  gap-is e = rw (no-resync e) refl

  least-from : (o : Option Host) (n : ℕ) → slice_get log.hosts n ≡ o → option_map_or (λ h. pos h.least) o (pos MIN_DELAY) ≡ pos 1
  least-from None n found = refl
  least-from (Some h) n found = ap pos ((at-place HasNoLatency log.hosts n h old.no_latencies found).least)

  least-is : (r : ℕ) → least_delay log r ≡ pos 1
  least-is r = least-from (slice_get log.hosts (host_of log r)) (host_of log r) refl

  most-from : (o : Option Host) (n : ℕ) → slice_get log.hosts n ≡ o → option_and_then (λ h. option_map pos h.most) o ≡ None
  most-from None n found = refl
  most-from (Some h) n found = ap (option_map pos) ((at-place HasNoLatency log.hosts n h old.no_latencies found).most)

  most-is : (r : ℕ) → most_delay log r ≡ None
  most-is r = most-from (slice_get log.hosts (host_of log r)) (host_of log r) refl

pub kept : VersionOneIsKept
kept log t old = (
  λ ok. record {
    count = ok.count;
    low = λ e within. rw (← skew-is log old e) (ok.low e within);
    high = λ e within. rw (← skew-is log old e) (ok.high e within);
    rise = λ e f within before. rw (← gap-is log old f) (ok.rise e f within before);
    message = λ s r within sent. rw (← least-is log old r) (ok.message s r within sent);
    extra = ok.extra;
  },
  λ ok. record {
    count = ok.count;
    low = λ e within. rw (skew-is log old e) (ok.low e within);
    high = λ e within. rw (skew-is log old e) (ok.high e within);
    rise = λ e f within before. rw (gap-is log old f) (ok.rise e f within before);
    message = λ s r within sent. rw (least-is log old r) (ok.message s r within sent);
    late = λ s r most within sent limited. let none : None ≡ Some most = sym (most-is log old r) ∙ limited in absurd (cc);
    extra = ok.extra;
    clocks = offsets-unread log old.no_readings t;
  },
)

-- an act that is no pulse pulses no proposition
no-pulse_of : (name : List ℕ) (act : Act) → is_pulse act ≡ false → is_pulse_of name act ≡ false
no-pulse_of name (Set n) none = refl
no-pulse_of name (Clear n) none = refl
no-pulse_of name (Send m) none = refl
no-pulse_of name (Recv m) none = refl
no-pulse_of name (Note n) none = refl
no-pulse_of name (Pulse n) none = absurd (cc)

-- a test that no number passes leaves none
none-pass : (test : ℕ → Bool) → ((e : ℕ) → test e ≡ false) → (n a : ℕ) → filter test (range_with_len a n) ≡ []
none-pass test fails zero a = refl
none-pass test fails (suc n) a = rw (fails a) (none-pass test fails n (a + 1))

module _ (log : Logged) (none : HasNoPulses log) (host : ℕ) (name : List ℕ) where
  no-pulse_in : (o : Option Row) (e : ℕ) → slice_get log.rows e ≡ o → option_map_or (λ r. is_pulse_of name r.act) o false ≡ false
  no-pulse_in None e found = refl
  no-pulse_in (Some r) e found = no-pulse_of name r.act (at-place (λ r. is_pulse r.act ≡ false) log.rows e r none found)

  no-pulse_at : (e : ℕ) → is_pulse_at log host name e ≡ false
  no-pulse_at e = rw (no-pulse_in (slice_get log.rows e) e refl) (and-false (host_of log e == host))

  no-pulses : pulses_of log host name ≡ []
  no-pulses = none-pass (is_pulse_at log host name) no-pulse_at (length log.rows) 0

pub states_kept : StatesOfVersionOneAreKept
states_kept log t instant host name none = rw (no-pulses log none host name) refl
