-- What a shelf counts of its openings.
use Rattle.std.proofs.Common.{◌≡◌, ◌^◌, ◌-◌, ℕ, List, ◌∷◌, length, arith}
use Rattle.std.specs.Prelude.{min}
use Rattle.std.proofs.lemmas.Grind.{common_steps}
use Rattle.mt_port.specs.Memory.{one_more}

-- one more opening is counted as one more
pub one_more_counted : (before now : ℕ) (name : List ℕ) (past : List (List ℕ)) → now ≡ one_more before → before ≡ min (length past) (2 ^ 64 - 1)
    → now ≡ min (length (name ∷ past)) (2 ^ 64 - 1)
one_more_counted before now name past more counted = grind (arith, common_steps)
