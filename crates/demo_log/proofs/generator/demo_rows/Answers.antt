use Rattle.std.proofs.Common.{◌≡◌, ◌∙◌, suc, ◌+◌, ap, arith, map}
use Rattle.std.specs.List.{range_with_len}
use Rattle.demo_log.specs.DemoLog.{demo_row, drawn, next_state, row_with, state_after}
use Rattle.demo_log.proofs.SeedLogs.{made-more}
use Rattle.demo_log.proofs.generator.demo_rows.Goals as goal

pub loop-place-preserved : goal.loop-place-preserved
loop-place-preserved c =
    let place = c.loop-place.place in
    let seed = c.args.seed in
    let state : c.next_state-state.result ≡ state_after (suc place) seed = c.next_state-state.ensures.state ∙ ap next_state c.loop-place.invariant.1 in
    let row : c.in_ok-demo_row.field-0 ≡ demo_row seed place = c.in_ok-demo_row.ensures ∙ ap (row_with place) (c.drawn.ensures.drawn ∙ ap drawn state) in
    let next : suc place ≡ place + 1 = omega arith in
    (made-more (demo_row seed) place c.loop-place.rows c.push.new.self c.in_ok-demo_row.field-0 c.loop-place.invariant.0 row c.in_ok-push.ensures.ok, state ∙ ap (λ n. state_after n seed) next)

pub returns : goal.returns
returns c =
    let all : c.loop-place.place ≡ 24 = omega arith in
    c.loop-place.invariant.0 ∙ ap (λ n. map (demo_row c.args.seed) (range_with_len 0 n)) all
