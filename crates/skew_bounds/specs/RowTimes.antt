-- The times of the rows by the numbers of their nodes.
use Rattle.std.specs.Prelude.{ℕ, List, map, drop, take, ℤ, ◌-ℤ◌}
use Rattle.neg_cycle.specs.Systems.{number_of}

-- the times of so many rows, where these are the numbers of the nodes: the zero moment is node 0, and row e is node e + 1
abbrev pub times_of : ℕ → List ℤ → List ℤ
times_of rows numbers = map (λ x. x -ℤ number_of numbers 0) (take rows (drop 1 numbers))
