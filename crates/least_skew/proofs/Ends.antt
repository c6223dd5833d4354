-- How the ends between which the least widening lies come nearer, and what is answered where they meet.
use Rattle.std.proofs.Common.{◌≡◌, subst, arith, ℕ, ◌+◌, ◌-◌, ◌≤◌, List, Option, Some, None, ℤ}
use Rattle.skew_bounds.specs.Tight.{IsConsistent}
use Rattle.proof_log.specs.declared.line.Line.{Line}
use Rattle.best_answer.specs.declared.aim.Aim.{Aim}
use Rattle.best_answer.specs.Aims.{RefuteWithin}
use Rattle.least_skew.specs.declared.tolerance.Tolerance.TheVariants as tolerance
use Rattle.least_skew.specs.Brackets.{IsAbove, IsRight}
use Rattle.least_skew.specs.Least.{IsBelow, wide}

module _ (a : Aim) (max : ℕ) where
  -- the greatest widening is searched, and none above it
  pub high-most : (high : ℕ) (witness : Option (List ℤ)) → IsAbove a max high witness → high ≤ max + 1
  high-most high None is = omega (arith, is)
  high-most high (Some t) is = let within = is.0 in omega (arith, within)

  pub low-refuted : (s : ℕ) (lines : List Line) → RefuteWithin a (wide s a.log.now) lines → IsBelow a.log.now a.nodes.now a.value a.budget (s + 1) (Some lines)
  low-refuted s lines refuted =
      let back : s ≡ s + 1 - 1 = omega arith in
      (omega arith, subst (λ n. RefuteWithin a (wide n a.log.now) lines) back refuted)

  -- nothing was found up to the greatest widening
  pub never : (high : ℕ) (lines : List Line) → high ≡ max + 1 → IsBelow a.log.now a.nodes.now a.value a.budget high (Some lines) → IsConsistent (wide max a.log.now)
      → IsRight a max (tolerance.Never lines)
  never high lines above below consistent =
      let back : high - 1 ≡ max = omega (arith, above) in
      record { consistent = consistent; refuted = subst (λ n. RefuteWithin a (wide n a.log.now) lines) back below.1 }
