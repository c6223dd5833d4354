use Rattle.std.proofs.lemmas.List.{take_rest}
use Rattle.mt_port.proofs.Files.{distinct_from, not_distinct_from}
use Rattle.mt_port.proofs.memory.MemShelf.are_distinct.Goals as goal

pub returns-then-is_some : goal.returns-then-is_some
returns-then-is_some c =
    let files = c.args.files.now in
    let apart = not_distinct_from files _ c.loop-i.i c.index-files-i.result c.as_str.result.now c.loop-i-test.true (take_rest files _) c.as_str.ensures.value in
    (λ no. absurd cc, λ all. absurd (apart (λ none. let no = c.index_of.ensures.absent.1 none in absurd cc) (c.loop-i.invariant.0 all)))

pub loop-i-preserved : goal.loop-i-preserved
loop-i-preserved c =
    let files = c.args.files.now in
    let step = distinct_from files _ c.loop-i.i c.index-files-i.result c.as_str.result.now c.loop-i-test.true (take_rest files _) c.as_str.ensures.value (c.index_of.ensures.absent.0 cc) in
    (λ all. step.0 (c.loop-i.invariant.0 all), λ rest. c.loop-i.invariant.1 (step.1 rest))
