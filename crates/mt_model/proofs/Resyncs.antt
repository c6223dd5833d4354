-- What the clock of a row goes by: the last resync of its host that does not stand behind it, or its host.
use Rattle.std.proofs.Common.{◌≡◌, ◌∙◌, sym, refl, ℕ, ◌<◌, ◌-◌, List, length, reverse, Bool, Option, Some, None, All, pos, ◌≤ℤ◌, arith}
use Rattle.std.specs.Prelude.{IfSome, find, slice_get}
use Rattle.std.specs.List.{position_or_len}
use Rattle.std.specs.Option.{option_map_or}
use Rattle.std.proofs.lemmas.Int.{ints}
use Rattle.std.proofs.lemmas.List.{get_or-reverse, length-reverse}
use Rattle.std.proofs.lemmas.List.Elements.{All-get_or}
use Rattle.std.proofs.lemmas.List.Folds.{find_at}
use Rattle.std.proofs.lemmas.Option.{get_or_from_slice_get, slice_get_within}
use Rattle.mt_model.specs.declared.log.Host.{Host}
use Rattle.mt_model.specs.declared.resync.Resync.{Resync}
use Rattle.mt_model.specs.declared.limits.TheConstants.{MAX_GAP, MAX_SKEW, MIN_DELAY}
use Rattle.mt_model.specs.Log.{Logged, IsHost, IsLog, IsResync, IsWithin}
use Rattle.mt_model.specs.Spans.{IsSpan, span_of}
use Rattle.mt_model.specs.Timing.{applies_to, declared_gap, declared_skew, gap_of, host_of, least_delay, resync_of}

-- what holds of each element holds of one that is found at a place
pub at-place : {X : Type 0} (P : X → Type 0) (xs : List X) (k : ℕ) (x : X) → All P xs → slice_get xs k ≡ Some x → P x
at-place P xs k x each found = rw (← get_or_from_slice_get xs k x x found) (All-get_or P xs k x (slice_get_within xs k x found) each)

pub All-reverse : {X : Type 0} (P : X → Type 0) (xs : List X) → All P xs → All P (reverse xs)
All-reverse P xs each k d within =
    let below : k < length xs = rw length-reverse at within in
    rw (get_or-reverse xs k d below) (each (length xs - 1 - k) d (omega arith))

-- what holds of each element holds of the last one that passes a test
pub last-holds : {X : Type 0} (P : X → Type 0) (test : X → Bool) (xs : List X) (x : X) → All P xs → find test (reverse xs) ≡ Some x → P x
last-holds P test xs x each found =
    at-place P (reverse xs) (position_or_len test (reverse xs)) x (All-reverse P xs each) (sym (find_at test (reverse xs)) ∙ found)

module _ (log : Logged) (valid : IsLog log) where
  declared-gap-least : (o : Option Host) (n : ℕ) → slice_get log.hosts n ≡ o → pos 0 ≤ℤ option_map_or (λ h. h.gap) o (pos 0)
  declared-gap-least None n found = omega (arith, ints)
  declared-gap-least (Some h) n found = (at-place IsHost log.hosts n h valid.hosts found).gap_low

  -- no gap is below 0
  pub gap-least : (e : ℕ) → pos 0 ≤ℤ gap_of log e
  gap-least e = go (resync_of log e) refl
    where
      go : (o : Option Resync) → resync_of log e ≡ o → pos 0 ≤ℤ option_map_or (λ r. r.gap) o (declared_gap log e)
      go None is = declared-gap-least (slice_get log.hosts (host_of log e)) (host_of log e) refl
      go (Some r) is = (last-holds (IsResync (length log.hosts) (length log.rows)) (applies_to log e) log.resyncs r valid.resyncs.each is).gap_low

  -- the resync by which a row's clock goes is one of the log
  pub valid-resync : (e : ℕ) (found : Option Resync) → found ≡ resync_of log e → IfSome found (IsResync (length log.hosts) (length log.rows))
  valid-resync e None is = tt
  valid-resync e (Some r) is = last-holds (IsResync (length log.hosts) (length log.rows)) (applies_to log e) log.resyncs r valid.resyncs.each (sym is)

  declared-skew-within : (o : Option Host) (n : ℕ) → slice_get log.hosts n ≡ o → IsWithin MAX_SKEW (option_map_or (λ h. h.skew) o (pos 0))
  declared-skew-within None n found = record { low = omega (arith, ints); high = omega (arith, ints) }
  declared-skew-within (Some h) n found = let host = at-place IsHost log.hosts n h valid.hosts found in record { low = omega (arith, ints, host.skew_low); high = host.skew_high }

  declared-gap-within : (o : Option Host) (n : ℕ) → slice_get log.hosts n ≡ o → IsWithin MAX_GAP (option_map_or (λ h. h.gap) o (pos 0))
  declared-gap-within None n found = record { low = omega (arith, ints); high = omega (arith, ints) }
  declared-gap-within (Some h) n found = let host = at-place IsHost log.hosts n h valid.hosts found in record { low = omega (arith, ints, host.gap_low); high = host.gap_high }

  -- the skew and the gap of a row are in their ranges
  pub span-within : (e : ℕ) → IsSpan (span_of log e)
  span-within e = record { skew = skew (resync_of log e) refl; gap = gap (resync_of log e) refl }
    where
      skew : (o : Option Resync) → o ≡ resync_of log e → IsWithin MAX_SKEW (option_map_or (λ r. r.skew) o (declared_skew log e))
      skew None is = declared-skew-within (slice_get log.hosts (host_of log e)) (host_of log e) refl
      skew (Some r) is = let resync = valid-resync e (Some r) is in record { low = omega (arith, ints, resync.skew_low); high = resync.skew_high }

      gap : (o : Option Resync) → o ≡ resync_of log e → IsWithin MAX_GAP (option_map_or (λ r. r.gap) o (declared_gap log e))
      gap None is = declared-gap-within (slice_get log.hosts (host_of log e)) (host_of log e) refl
      gap (Some r) is = let resync = valid-resync e (Some r) is in record { low = omega (arith, ints, resync.gap_low); high = resync.gap_high }

  delay-least : (o : Option Host) (n : ℕ) → slice_get log.hosts n ≡ o → pos 1 ≤ℤ option_map_or (λ h. pos h.least) o (pos MIN_DELAY)
  delay-least None n found = omega (arith, ints)
  delay-least (Some h) n found = let low = (at-place IsHost log.hosts n h valid.hosts found).delays.least_low in omega (arith, ints, low)

  -- a receive comes after its send
  pub least-delay : (r : ℕ) → pos 1 ≤ℤ least_delay log r
  least-delay r = delay-least (slice_get log.hosts (host_of log r)) (host_of log r) refl
