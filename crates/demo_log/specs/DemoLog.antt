-- The log of a seed: six hosts and 24 rows, whose local times are drawn.
use Rattle.std.specs.Prelude.{ℕ, zero, suc, ◌+◌, ◌*◌, ◌^◌, ◌/◌, ◌%◌, ◌==◌, if◌then◌else◌, List, ◌++◌, map, codes, None, ℤ, pos}
use Rattle.std.specs.List.{range_with_len}
use Rattle.std.specs.Fmt.{decimal}
use Rattle.mt_model.specs.declared.log.Act.{Act}
use Rattle.mt_model.specs.declared.log.Act.TheVariants.{Set, Clear, Send, Recv, Note}
use Rattle.mt_model.specs.declared.log.Host.{Host}
use Rattle.mt_model.specs.declared.log.Row.{Row}
use Rattle.mt_model.specs.declared.limits.TheConstants.{MIN_DELAY}
use Rattle.mt_model.specs.Log.{Logged, IsLog, plain_log}
use Rattle.mt_model.specs.Timing.{Admissible}

-- the state after this one: a linear congruential generator modulo 2^64
abbrev pub next_state : ℕ → ℕ
next_state x = (6364136223846793005 * x + 1442695040888963407) % 2 ^ 64

-- the state after so many draws from a seed
abbrev pub state_after : ℕ → ℕ → ℕ
state_after zero seed = seed
state_after (suc draws) seed = next_state (state_after draws seed)

-- what a draw gives that comes to this state: a number from 0 to 4, of the state's upper bits
abbrev pub drawn : ℕ → ℕ
drawn x = x / 2 ^ 33 % 5

-- the draw for row r, of which each row takes one
abbrev pub draw_for : ℕ → ℕ → ℕ
draw_for seed r = drawn (state_after (suc r) seed)

-- a letter and a number, as `m0`
abbrev pub numbered : List ℕ → ℕ → List ℕ
numbered letter n = letter ++ decimal n

-- the hosts `h0`, `h1` and so on have skew 3 and gap 1, and no latency
abbrev pub demo_host : ℕ → Host
demo_host k = record { name = numbered (codes "h") k; skew = pos 3; gap = pos 1; least = MIN_DELAY; most = None }

-- a proposition is set in the even rounds and cleared in the odd ones
abbrev pub switched : List ℕ → ℕ → Act
switched name n = if n % 2 == 0 then Set name else Clear name

-- what happens on a host in round n: `h0`, `h1` and `h5` switch `p`, `q` and `r`; `h2` sends the round's message, and `h3` receives it; and `h4` notes
abbrev pub demo_act : ℕ → ℕ → Act
demo_act host n =
    if host == 0 then switched (codes "p") n
    else if host == 1 then switched (codes "q") n
    else if host == 2 then Send (numbered (codes "m") n)
    else if host == 3 then Recv (numbered (codes "m") n)
    else if host == 4 then Note (codes "tick")
    else switched (codes "r") n

-- row r, for which this is drawn: the hosts take turns, six rows a round, and the local time is 10 r plus what is drawn
abbrev pub row_with : ℕ → ℕ → Row
row_with r draw = record { host = r % 6; local = pos (10 * r + draw); act = demo_act (r % 6) (r / 6) }

-- row r of a seed
abbrev pub demo_row : ℕ → ℕ → Row
demo_row seed r = row_with r (draw_for seed r)

-- the log of a seed
abbrev pub log_of_seed : ℕ → Logged
log_of_seed seed = plain_log (map demo_host (range_with_len 0 6)) (map (demo_row seed) (range_with_len 0 24))

-- each seed has a valid log
abbrev pub SeedsHaveLogs : Type 0
SeedsHaveLogs = (seed : ℕ) → IsLog (log_of_seed seed)

-- the local times of the rows of a seed's log
abbrev pub local_times : ℕ → List ℤ
local_times seed = map (λ r. r.local) (log_of_seed seed).rows

-- the log of each seed admits its local times
abbrev pub SeedsAreConsistent : Type 0
SeedsAreConsistent = (seed : ℕ) → Admissible (log_of_seed seed) (local_times seed)
