use Rattle.std.proofs.Common.{◌≡◌, ℕ, List, rules}
use Rattle.std.proofs.lemmas.List.{take_rest}
use Rattle.mt_model.proofs.Pairs.{pair_found, pairs_more}
use Rattle.mt_model.proofs.reading.are_apart.Goals as goal

pub returns-then-is_among : goal.returns-then-is_among
returns-then-is_among c =
    let found = rw (take_rest, c.bytes.ensures.same) at (c.is_among.ensures.0 (search (rules, c.if-is_among.true))) in
    (λ e. absurd (cc), λ all. absurd (pair_found (λ (m n : List ℕ). n ≡ m) c.args.names.now c.loop-i.i c.index-names-i.result c.loop-i-test.true c.index-names-i.is found all))

pub loop-i-preserved : goal.loop-i-preserved
loop-i-preserved c = pairs_more (λ (m n : List ℕ). n ≡ m) c.args.names.now c.loop-i.i c.index-names-i.result c.loop-i-test.true c.index-names-i.is c.loop-i.invariant (λ any. let yes = c.is_among.ensures.1 (rw (take_rest, c.bytes.ensures.same) any) in search (rules, yes, c.if-is_among.false))
