use Rattle.std.proofs.Common.{◌∙◌, ap, arith, rules, sym}
use Rattle.std.proofs.lemmas.List.Sorted.{IsPartitionPoint-from_clause}
use Rattle.proof_check.specs.Places.{comes_before, literal_at}
use Rattle.proof_check.proofs.PlaceLemmas.{parted, stands_first, stands_nowhere}
use Rattle.proof_check.proofs.TakeLemmas.{equal_same, unequal_apart}
use Rattle.proof_check.proofs.places.first_place.Goals as goal

pub returns-then-eq : goal.returns-then-eq
returns-then-eq c =
    let lits = c.args.lits.now in
    let l = c.args.literal.now in
    let point =
    IsPartitionPoint-from_clause (λ k. comes_before (literal_at lits k) l) _ _ c.partition_point-at.ensures.partitioned
    (parted lits c.args.places.now c.requires.sorted l) (λ a r q k. search rules) in
    let read = rw c.in-Some.is at c.get.ensures.lookup in
    stands_first lits c.args.places.now c.requires.sorted l c.partition_point-at.result point c.in-Some.place.now read.3.0 (read.3.1 0)
    (sym c.literal_at.ensures ∙ equal_same c.literal_at.result l c.eq.result c.eq.ensures c.if-eq.true)

pub returns-else-eq : goal.returns-else-eq
returns-else-eq c =
    let lits = c.args.lits.now in
    let l = c.args.literal.now in
    let point =
    IsPartitionPoint-from_clause (λ k. comes_before (literal_at lits k) l) _ _ c.partition_point-at.ensures.partitioned
    (parted lits c.args.places.now c.requires.sorted l) (λ a r q k. search rules) in
    let read = rw c.in-Some.is at c.get.ensures.lookup in
    stands_nowhere lits c.args.places.now c.requires.sorted l c.partition_point-at.result point
    (λ low there. unequal_apart c.literal_at.result l c.eq.result c.eq.ensures c.if-eq.false (c.literal_at.ensures ∙ ap (literal_at lits) (read.3.1 0) ∙ there))

pub returns-in_default : goal.returns-in_default
returns-in_default c =
    let lits = c.args.lits.now in
    let l = c.args.literal.now in
    let point =
    IsPartitionPoint-from_clause (λ k. comes_before (literal_at lits k) l) _ _ c.partition_point-at.ensures.partitioned
    (parted lits c.args.places.now c.requires.sorted l) (λ a r q k. search rules) in
    let read = rw c.in_default.is at c.get.ensures.lookup in
    stands_nowhere lits c.args.places.now c.requires.sorted l c.partition_point-at.result point (λ low there. omega (arith, low, read.3))
