-- What a search between two widenings gives.
use Rattle.std.specs.Prelude.{ℕ, ◌-◌, ◌<◌, ◌≤◌}
use Rattle.best_answer.specs.declared.aim.Aim.{Aim}
use Rattle.least_skew.specs.declared.bracket.Bracket.{Bracket}
use Rattle.least_skew.specs.declared.turn.Turned.{Turned}
use Rattle.least_skew.specs.declared.turn.Turned.TheVariants as turned
use Rattle.least_skew.specs.Brackets.{IsBracket}
use Rattle.least_skew.specs.Least.{IsUnknown}

-- the ends are nearer to each other than this, or the budget was spent
abbrev pub IsTurned : Aim → ℕ → ℕ → Turned → Type 0
IsTurned a max width (turned.Narrowed b) = IsBracket a max b × (b.high - b.low < width)
IsTurned a max width (turned.Spent s lines) = IsUnknown a.log.now a.nodes.now a.value max a.budget s lines

-- what is found with the widening s turns the bracket, whatever the greatest widening is that its ends go up to
abbrev pub Turns : Aim → Bracket → ℕ → Turned → Type 0
Turns a b s found = (max : ℕ) → s ≤ max → IsBracket a max b → IsTurned a max (b.high - b.low) found
