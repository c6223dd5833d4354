-- Between which widenings the least one with a value lies.
use Rattle.std.specs.Prelude.{◌≡◌, ℕ, ◌+◌, ◌≤◌, List, Option, Some, None, ℤ}
use Rattle.formula_arena.specs.Nodes.{nodes_of}
use Rattle.question.specs.Size.{IsSmall}
use Rattle.best_answer.specs.declared.aim.Aim.{Aim}
use Rattle.best_answer.specs.Aims.{Gives}
use Rattle.least_skew.specs.declared.bracket.Bracket.{Bracket}
use Rattle.least_skew.specs.declared.tolerance.Tolerance.{Tolerance}
use Rattle.least_skew.specs.Least.{IsBelow, LeastRight, wide}

module _ (a : Aim) (max : ℕ) where
  -- the timing gives the value with the widening high; and where none is known, high is one more than the greatest widening
  abbrev pub IsAbove : ℕ → Option (List ℤ) → Type 0
  IsAbove high None = high ≡ max + 1
  IsAbove high (Some t) = (high ≤ max) × Gives a (wide high a.log.now) t

  -- lines refute the value directly below the one end, and a timing gives it at the other one, where they are known
  pub record IsBracket (b : Bracket) : Type 0 where
    pub in_order : b.low ≤ b.high
    pub below : IsBelow a.log.now a.nodes.now a.value a.budget b.low b.below
    pub above : IsAbove b.high b.witness

  -- the answer is right for what is sought
  abbrev pub IsRight : Tolerance → Type 0
  IsRight answer = LeastRight a.log.now a.nodes.now a.value max a.budget answer

  -- with each widening up to the greatest one the problem is small enough
  abbrev pub AreSmall : Type 0
  AreSmall = (s : ℕ) → s ≤ max → IsSmall (wide s a.log.now) (nodes_of a.nodes.now)
