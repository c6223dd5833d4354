use Rattle.std.proofs.Common.{◌∙◌, sym, ap, ◌++◌, []}
use Rattle.std.specs.Prelude.{slice_index_or, string_bytes}
use Rattle.happened_before.specs.Order.{clock_of}
use Rattle.skew_bounds.proofs.Ranges.{flat_map-range}
use Rattle.skew_answers.specs.Texts.{clock_line}
use Rattle.skew_answers.proofs.texts.written_clocks.Goals as goal

pub loop-event-preserved : goal.loop-event-preserved
loop-event-preserved c =
    let order = c.args.order.now in
    let event = c.loop-event.event in
    let clock = c.clock-clock.ensures.value ∙ ap (clock_of order) c.new.ensures.number in
    let line = c.as_str.ensures.value ∙ c.in_ok-line.ensures ∙ ap (clock_line event) clock in
    let more = flat_map-range (λ e. clock_line e (slice_index_or order.clocks e [])) event in
    c.in_ok-push_str.ensures.bytes ∙ ap (λ bytes. string_bytes c.loop-event.text ++ bytes) line
    ∙ ap (λ bytes. bytes ++ clock_line event (slice_index_or order.clocks event [])) c.loop-event.invariant ∙ sym more
