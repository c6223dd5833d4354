-- From the first broken bound to whether times are admissible.
use Rattle.std.proofs.Common.{◌≡◌, ◌∙◌, sym, List, length, Option, Some, None, ℤ}
use Rattle.std.specs.Prelude.{IsNone, IsSome}
use Rattle.mt_model.specs.declared.bound.Bound.{Bound}
use Rattle.mt_model.specs.Bounds.{UnbrokenIsAdmissible, first_broken}
use Rattle.mt_model.specs.Log.{IsLog, Logged}
use Rattle.mt_model.specs.Timing.{Admissible}

module _ (law : UnbrokenIsAdmissible) (log : Logged) (valid : IsLog log) (t : List ℤ) (count : length t ≡ length log.rows) where
  pub admissible-none : (r : Option Bound) → r ≡ first_broken log t → IsNone r → Admissible log t
  admissible-none None is none = (law log t valid count).0 (sym is)
  admissible-none (Some b) is none = absurd (cc)

  pub excluded-some : (r : Option Bound) → r ≡ first_broken log t → IsSome r → Admissible log t → ⊥
  excluded-some None is some admissible = cc
  excluded-some (Some b) is some admissible = let no : Some b ≡ None = is ∙ (law log t valid count).1 admissible in cc
