use Rattle.std.proofs.Common.{◌≡◌, subst, ℕ, [], length, arith}
use Rattle.std.specs.List.{range_with_len}
use Rattle.std.specs.List.Sorted.{IsPermutation}
use Rattle.std.proofs.lemmas.List.Sorted.{IsPermutation-refl}
use Rattle.mtl_encode.specs.Variables.{vars_in}
use Rattle.mtl_encode.proofs.Rankings.{range-more}
use Rattle.mtl_encode.proofs.variables.ranking_of.Goals as goal

pub loop-v-init : goal.loop-v-init
loop-v-init c = rw (c.new.ensures.items, c.new-2.ensures.items) (IsPermutation-refl [])

pub loop-v-preserved : goal.loop-v-preserved
loop-v-preserved c = range-more c.loop-v.v (vars_in c.loop-v.ranking) (vars_in c.add.new.self) c.loop-v.invariant c.in_ok-add.ensures

pub returns : goal.returns
returns c =
    let end : c.loop-v.v ≡ length c.args.atoms.now = omega (arith, c.loop-v-test.false, c.loop-v.auto.v-end, c.len-v-end.ensures.atoms) in
    subst (λ (n : ℕ). IsPermutation (range_with_len 0 n) (vars_in c.loop-v.ranking)) end c.loop-v.invariant
