use Rattle.std.proofs.Common.{◌≡◌, ◌∙◌, ◌++◌, refl, subst, sym, ap, ℕ, length, take, arith}
use Rattle.std.specs.Prelude.{slice_index, slice_index_or}
use Rattle.std.specs.List.{flat_map, range_with_len}
use Rattle.std.proofs.Math.Seq.{take-length}
use Rattle.mtl_encode.proofs.ChangeRules.{first-thirds}
use Rattle.mtl_encode.proofs.ClauseGrowth.{gains-next, gains-none, gains-taken, room-next, room-taken}
use Rattle.mtl_encode.specs.Growth.{Gains, HasRoom}
use Rattle.mtl_encode.specs.Instances.{kept, out_by, rule_at, with_one, with_three, with_two}
use Rattle.mtl_encode.proofs.clauses.Clauses.add_instances.Goals as goal

-- there is room for the next instance, since there is for all
pub add-requires-clause-room : goal.add-requires-clause-room
add-requires-clause-room c =
    let s = c.args.source.rules.now in
    let out = out_by c.args.source.tight.now s in
    let n = c.args.number in
    let counts = c.args.counts in
    let one = room-next s (with_one s out n counts) c.args.self.now c.loop-a.self c.loop-a.a c.loop-a.invariant (slice_index counts 0) c.loop-a-test.true c.requires.room in
    let all = subst (λ rules. HasRoom s (c.loop-a.self.rules ++ rules)) (sym (c.seconds-seconds.ensures.enough out)) one in
    let two = room-taken s (with_two s out n counts c.loop-a.a) c.seconds-seconds.result.now c.loop-a.self c.loop-b.self c.loop-b.b-index _ c.loop-b-test.true c.loop-b.invariant all in
    let three = room-next s (with_three s out n counts c.loop-a.a _) c.loop-b.self c.loop-c.self c.loop-c.c c.loop-c.invariant (slice_index counts 2)
    (omega (arith, c.loop-c-test.true, c.third_count-thirds.ensures.at_most)) two in
    room-next s (λ d. kept s out (rule_at n c.loop-a.a _ c.loop-c.c d)) c.loop-c.self c.loop-d.self c.loop-d.d c.loop-d.invariant (slice_index counts 3) c.loop-d-test.true three

pub loop-d-preserved : goal.loop-d-preserved
loop-d-preserved c =
    let s = c.args.source.rules.now in
    let out = out_by c.args.source.tight.now s in
    gains-next s (λ d. kept s out (rule_at c.args.number c.loop-a.a _ c.loop-c.c d)) c.loop-c.self c.loop-d.self c.loop-d.d c.loop-d.invariant c.add.new.self c.in_ok-add.ensures

-- where no span is needed nothing is gained
pub loop-c-preserved-then-passes_over_span : goal.loop-c-preserved-then-passes_over_span
loop-c-preserved-then-passes_over_span c =
    let s = c.args.source.rules.now in
    let three = with_three s (out_by c.args.source.tight.now s) c.args.number c.args.counts c.loop-a.a _ in
    gains-next s three c.loop-b.self c.loop-c.self c.loop-c.c c.loop-c.invariant c.loop-c.self
    (gains-none s c.loop-c.self c.loop-c.self (three c.loop-c.c) c.loop-c.invariant.clauses refl (c.passes_over_span.ensures c.if-passes_over_span.true c.args.counts))

pub loop-c-preserved : goal.loop-c-preserved
loop-c-preserved c =
    let s = c.args.source.rules.now in
    let out = out_by c.args.source.tight.now s in
    let b = slice_index_or c.seconds-seconds.result.now c.loop-b.b-index 0 in
    let end : c.loop-d.d ≡ slice_index c.args.counts 3 = omega (arith, c.loop-d-test.false, c.loop-d.auto.d-end) in
    gains-next s (with_three s out c.args.number c.args.counts c.loop-a.a b) c.loop-b.self c.loop-c.self c.loop-c.c c.loop-c.invariant c.loop-d.self
    (subst (λ (n : ℕ). Gains s c.loop-c.self c.loop-d.self (flat_map (λ d. kept s out (rule_at c.args.number c.loop-a.a b c.loop-c.c d)) (range_with_len 0 n))) end c.loop-d.invariant)

-- the third arguments from the last one gone through on have no clause
pub loop-b-preserved : goal.loop-b-preserved
loop-b-preserved c =
    let s = c.args.source.rules.now in
    let out = out_by c.args.source.tight.now s in
    let number = c.args.number in
    let counts = c.args.counts in
    let b = slice_index_or c.seconds-seconds.result.now c.loop-b.b-index 0 in
    let end : c.loop-c.c ≡ c.third_count-thirds.result = omega (arith, c.loop-c-test.false, c.loop-c.auto.c-end) in
    let gained = subst (λ (n : ℕ). Gains s c.loop-b.self c.loop-c.self (flat_map (with_three s out number counts c.loop-a.a b) (range_with_len 0 n))) end c.loop-c.invariant in
    let all = first-thirds s out number counts c.third_count-thirds.result c.loop-a.a b c.third_count-thirds.ensures.at_most (λ k d low high. c.third_count-thirds.ensures.no_clause b k d low high) in
    gains-taken s (with_two s out number counts c.loop-a.a) c.seconds-seconds.result.now c.loop-a.self c.loop-b.self c.loop-b.b-index _ c.loop-b-test.true c.loop-b.invariant c.loop-c.self
    (subst (Gains s c.loop-b.self c.loop-c.self) (sym all) gained)

pub loop-a-preserved-then-keeps_none : goal.loop-a-preserved-then-keeps_none
loop-a-preserved-then-keeps_none c =
    let s = c.args.source.rules.now in
    let one = with_one s (out_by c.args.source.tight.now s) c.args.number c.args.counts in
    gains-next s one c.args.self.now c.loop-a.self c.loop-a.a c.loop-a.invariant c.loop-a.self
    (gains-none s c.loop-a.self c.loop-a.self (one c.loop-a.a) c.loop-a.invariant.clauses refl (c.keeps_none.ensures c.if-keeps_none.true c.args.source.tight.now c.args.counts))

-- the second arguments gone through are enough
pub loop-a-preserved : goal.loop-a-preserved
loop-a-preserved c =
    let s = c.args.source.rules.now in
    let out = out_by c.args.source.tight.now s in
    let two = with_two s out c.args.number c.args.counts c.loop-a.a in
    let seconds = c.seconds-seconds.result.now in
    let end : c.loop-b.b-index ≡ length seconds = omega (arith, c.loop-b-test.false, c.loop-b.auto.b-index-end) in
    let gone = subst (λ (n : ℕ). Gains s c.loop-a.self c.loop-b.self (flat_map two (take n seconds))) end c.loop-b.invariant in
    gains-next s (with_one s out c.args.number c.args.counts) c.args.self.now c.loop-a.self c.loop-a.a c.loop-a.invariant c.loop-b.self
    (subst (Gains s c.loop-a.self c.loop-b.self) (ap (flat_map two) (take-length seconds) ∙ c.seconds-seconds.ensures.enough out) gone)
