use Rattle.std.proofs.Common.{◌≡◌, ◌∙◌, ◌≤◌, sym, arith}
use Rattle.std.proofs.lemmas.Bool.Decides.{nat_tests}
use Rattle.mtl_encode.proofs.ChangeRules.{change_count, no-change, no-pulse, third-change, third-pulse}
use Rattle.mtl_encode.specs.Growth.{pulse_count}
use Rattle.mtl_encode.proofs.listing.third_count.Goals as goal

-- a change from the last one on has no clause
pub returns-in-AChange-clause-no_clause : goal.returns-in-AChange-clause-no_clause
returns-in-AChange-clause-no_clause c = λ b p d low high.
    let is : c.args.number ≡ 2 = third-change c.args.number c.in-Some.arguments (sym c.in-Some.is ∙ c.arguments_of.ensures) c.in-AChange.is in
    let past : change_count c.args.rules.now c.args.a ≤ p = grind (arith, nat_tests, c.change_count.ensures.count, c.min.ensures) in
    rw is (no-change c.args.rules.now c.args.a b p d past)

-- nor has a pulse
pub returns-in-APulse-clause-no_clause : goal.returns-in-APulse-clause-no_clause
returns-in-APulse-clause-no_clause c = λ b p d low high.
    let is : c.args.number ≡ 27 = third-pulse c.args.number c.in-Some.arguments (sym c.in-Some.is ∙ c.arguments_of.ensures) c.in-APulse.is in
    let past : pulse_count c.args.rules.now c.args.a ≤ p = grind (arith, nat_tests, c.pulse_count.ensures.count, c.min-in-APulse.ensures) in
    rw is (no-pulse c.args.rules.now c.args.a b p d past)
