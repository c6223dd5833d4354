use Rattle.std.proofs.Common.{◌≡◌, ◌<◌, ◌∙◌, ap, arith}
use Rattle.std.specs.Prelude.{length, slice_index}
use Rattle.mt_model.specs.Timing.{host_of}
use Rattle.happened_before.proofs.BeforeLemmas.{hosts-at, told-by_clocks}
use Rattle.happened_before.proofs.order.Order.counts.Goals as goal

pub returns : goal.returns
returns c = record {
  counts = λ log is.
      let row : c.args.e < length log.rows = omega (arith, c.requires.second, is.events) in
      let host : c.host-host.result ≡ host_of log c.args.e = c.host-host.ensures.host ∙ ap (λ hs. slice_index hs c.args.e) is.hosts ∙ hosts-at log.rows c.args.e in
      let low : c.host-host.result < length c.clock.result.now = rw c.clock.ensures.value (c.host-host.ensures.within c.args.e c.requires.second) in
      told-by_clocks c.previous_row_is_last.ensures log c.args.e c.args.f row c.clock.result.now c.clock-2.result.now c.host-host.result host low
      (c.clock.ensures.clock log is) (c.clock-2.ensures.clock log is);
}
