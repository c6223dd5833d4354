-- The skew and the gap of each row.
use Rattle.std.specs.Prelude.{◌≡◌, ℕ, ◌==◌, ◌<◌, ◌≤◌, List, length, map, find, reverse, slice_get, slice_index_or, pos}
use Rattle.std.specs.List.{range_with_len}
use Rattle.std.specs.Option.{option_map_or}
use Rattle.mt_model.specs.declared.log.Host.{Host}
use Rattle.mt_model.specs.declared.resync.Resync.{Resync}
use Rattle.mt_model.specs.declared.spans.Span.{Span}
use Rattle.mt_model.specs.declared.limits.TheConstants.{MAX_GAP, MAX_SKEW}
use Rattle.mt_model.specs.Log.{IsWithin, Logged}
use Rattle.mt_model.specs.Timing.{gap_of, skew_of}

-- a skew and a gap, neither of a magnitude above its limit
pub record IsSpan (s : Span) : Type 0 where
  pub skew : IsWithin MAX_SKEW s.skew
  pub gap : IsWithin MAX_GAP s.gap

-- what a host says before any resync
abbrev pub declared_span : Host → Span
declared_span h = record { skew = h.skew; gap = h.gap }

-- what a resync says
abbrev pub resynced_span : Resync → Span
resynced_span r = record { skew = r.skew; gap = r.gap }

-- the span of a host after these resyncs: what the last of them says that is of the host, else what the host says
abbrev pub span_after : List Host → List Resync → ℕ → Span
span_after hosts resyncs h =
    option_map_or resynced_span (find (λ r. r.host == h) (reverse resyncs)) (option_map_or declared_span (slice_get hosts h) (record { skew = pos 0; gap = pos 0 }))

-- a span for each host after these resyncs
pub record AreHostSpans (hosts : List Host) (resyncs : List Resync) (host_spans : List Span) : Type 0 where
  pub count : length host_spans ≡ length hosts
  pub each : (h : ℕ) (d : Span) → h < length hosts → slice_index_or host_spans h d ≡ span_after hosts resyncs h

-- the first k resyncs are those that do not stand behind row e
pub record HavePassed (resyncs : List Resync) (k e : ℕ) : Type 0 where
  pub within : k ≤ length resyncs
  pub before : (i : ℕ) (d : Resync) → i < k → (slice_index_or resyncs i d).place ≤ e
  pub behind : (d : Resync) → k < length resyncs → e < (slice_index_or resyncs k d).place

-- the skew and the gap of row e
abbrev pub span_of : Logged → ℕ → Span
span_of log e = record { skew = skew_of log e; gap = gap_of log e }

-- those of each row, in the order of the rows
abbrev pub spans_of : Logged → List Span
spans_of log = map (span_of log) (range_with_len 0 (length log.rows))
