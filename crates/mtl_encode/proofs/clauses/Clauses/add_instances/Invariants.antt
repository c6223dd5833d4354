use Rattle.std.proofs.Common.{take}
use Rattle.std.specs.List.{flat_map, range_with_len}
use Rattle.mtl_encode.specs.Growth.{Gains}
use Rattle.mtl_encode.specs.Instances.{kept, out_by, rule_at, with_one, with_three, with_two}
use Rattle.mtl_encode.proofs.clauses.Clauses.add_instances.Given as goal

-- each loop has gained the instances of the arguments that it went through since it began
abbrev pub invariant-loop-a : goal.invariant-loop-a
invariant-loop-a l =
    let s = l.source.rules.now in
    Gains s l.fn.self l.self (flat_map (with_one s (out_by l.source.tight.now s) l.number l.counts) (range_with_len 0 l.a))

abbrev pub invariant-loop-b : goal.invariant-loop-b
invariant-loop-b l =
    let s = l.source.rules.now in
    Gains s l.initial.self l.self (flat_map (with_two s (out_by l.source.tight.now s) l.number l.counts l.a) (take l.b-index l.seconds))

abbrev pub invariant-loop-c : goal.invariant-loop-c
invariant-loop-c l =
    let s = l.source.rules.now in
    Gains s l.initial.self l.self (flat_map (with_three s (out_by l.source.tight.now s) l.number l.counts l.a l.b) (range_with_len 0 l.c))

abbrev pub invariant-loop-d : goal.invariant-loop-d
invariant-loop-d l =
    let s = l.source.rules.now in
    Gains s l.initial.self l.self (flat_map (λ d. kept s (out_by l.source.tight.now s) (rule_at l.number l.a l.b l.c d)) (range_with_len 0 l.d))
