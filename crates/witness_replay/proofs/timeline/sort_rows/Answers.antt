use Rattle.std.proofs.lemmas.List.Sorted.{answers_always}
use Rattle.std.proofs.Common.{rules}
use Rattle.witness_replay.proofs.TimelineLemmas.{timeline-sorted}
use Rattle.witness_replay.proofs.timeline.sort_rows.Goals as goal

pub returns : goal.returns
returns c =
    let sorted = c.sort_unstable_by_key.ensures.sorted (λ m. m.time) (answers_always _ _ _ (λ f a r g h. search rules)) in
    timeline-sorted c.args.times.now c.place_rows.new.moments _ c.place_rows.ensures.len c.place_rows.ensures.each c.sort_unstable_by_key.ensures.permutation c.sort_unstable_by_key.ensures.len sorted
