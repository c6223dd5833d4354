-- The spans of a log's rows, place by place.
use Rattle.std.proofs.Common.{◌≡◌, zero-add, ℕ, ◌<◌, List, length, get_or}
use Rattle.std.proofs.lemmas.List.FromFn.{get_or-map-range_with_len, length-map-range_with_len}
use Rattle.mt_model.specs.declared.spans.Span.{Span}
use Rattle.mt_model.specs.Log.{IsLog, Logged}
use Rattle.mt_model.specs.Spans.{span_of, spans_of}
use Rattle.mt_model.proofs.Resyncs.{span-within}
use Rattle.skew_bounds.specs.Edges.{IsSpanAt}

module _ (log : Logged) (spans : List Span) (all : spans ≡ spans_of log) where
  pub spans-count : length spans ≡ length log.rows
  spans-count = rw all (length-map-range_with_len (span_of log) 0 (length log.rows))

  pub span-at : IsLog log → (e : ℕ) (d : Span) → e < length log.rows → IsSpanAt log e (get_or spans e d)
  span-at valid e d row =
      let same : get_or spans e d ≡ span_of log e = rw all (get_or-map-range_with_len (span_of log) 0 (length log.rows) e e d row (zero-add e)) in
      record { row = row; same = same; range = rw same (span-within log valid e) }
