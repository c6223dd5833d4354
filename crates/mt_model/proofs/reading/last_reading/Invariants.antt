use Rattle.std.proofs.Common.{◌≡◌, ◌==◌, ◌&&◌, find, nat_le, reverse, take}
use Rattle.mt_model.proofs.reading.last_reading.Given as goal

-- none of those from k on is the one
abbrev pub invariant-loop-k : goal.invariant-loop-k
invariant-loop-k l = find (λ r. r.host == l.host && nat_le r.place l.e) (reverse l.readings) ≡ find (λ r. r.host == l.host && nat_le r.place l.e) (reverse (take l.k l.readings))
