-- Small logs with resyncs and latencies, with what the definitions say of them. The numbers are worked out by hand.
use Rattle.std.proofs.Common.{◌≡◌, refl, ℕ, zero, suc, ◌<◌, List, [], ◌∷◌, Some, None, codes, ℤ, pos, negsuc, ◌+ℤ◌, ◌-ℤ◌, ◌≤ℤ◌, arith}
use Rattle.std.proofs.lemmas.Int.{ints}
use Rattle.std.proofs.lemmas.List.Elements.{All-from_recursion}
use Rattle.mt_model.specs.declared.bound.Bound.TheVariants as bound
use Rattle.mt_model.specs.declared.log.Host.{Host}
use Rattle.mt_model.specs.declared.log.Act.TheVariants.{Note, Send, Recv}
use Rattle.mt_model.specs.declared.step.Step.TheVariants.{Low, High, Rise, Message, Late}
use Rattle.mt_model.specs.Bounds.{bounds_of}
use Rattle.mt_model.specs.Laws.{IsBound}
use Rattle.mt_model.specs.Log.{Logged, log_with, plain_log}
use Rattle.mt_model.specs.Timing.{Admissible, gap_of, local_of, most_delay, previous_row, send_of, skew_of, time_of}
use Rattle.mt_model.specs.Walks.{Conflict, edge_of}
use Rattle.mt_model.proofs.Conflicts.{excludes_timings}
use Rattle.mt_model.proofs.Unread.{offsets-unread}
use Rattle.mt_model.proofs.WorkedCases.{below_two, edge, host, row}

-- Two notes of a host whose clock is exact at the first, and off by up to 5 at the second.

abbrev resynced : Logged
resynced = log_with (host (codes "a") (pos 0) (pos 0) ∷ []) (row 0 (pos 10) (Note (codes "x")) ∷ row 0 (pos 20) (Note (codes "y")) ∷ [])
    (record { place = 1; host = 0; skew = pos 5; gap = pos 0 } ∷ [])

-- A resync does not apply to the row before it.
exact_before : skew_of resynced 0 ≡ pos 0
exact_before = refl

-- It applies to the row after it.
off_after : skew_of resynced 1 ≡ pos 5
off_after = refl

-- The second note at most 5 late.
five_late : Admissible resynced (pos 10 ∷ pos 25 ∷ [])
five_late = record {
  count = refl;
  low = below_two (λ e. (local_of resynced e -ℤ skew_of resynced e) ≤ℤ time_of (pos 10 ∷ pos 25 ∷ []) e) (omega arith) (omega arith);
  high = below_two (λ e. time_of (pos 10 ∷ pos 25 ∷ []) e ≤ℤ (local_of resynced e +ℤ skew_of resynced e)) (omega arith) (omega arith);
  rise = rises;
  message = λ s r low sent. absurd (cc (nothing_received r low));
  late = λ s r most low sent limited. absurd (cc (nothing_received r low));
  extra = λ k x at. absurd (cc);
  clocks = offsets-unread resynced refl (pos 10 ∷ pos 25 ∷ []);
}
  where
    nothing_received : (r : ℕ) → r < 2 → send_of resynced r ≡ None
    nothing_received = below_two (λ r. send_of resynced r ≡ None) refl refl

    rises : (e f : ℕ) → f < 2 → previous_row resynced f ≡ Some e → (time_of (pos 10 ∷ pos 25 ∷ []) e +ℤ gap_of resynced f) ≤ℤ time_of (pos 10 ∷ pos 25 ∷ []) f
    rises e zero low before = absurd (cc)
    rises e (suc zero) low before = let first : 0 ≡ e = cc in rw (← first) (omega arith)
    rises e (suc (suc f)) low before = absurd (omega arith)

-- 26 is 6 after the local time 20.
six_late : Admissible resynced (pos 10 ∷ pos 26 ∷ []) → ⊥
six_late timing = absurd (omega (arith, ints, timing.high 1 (omega arith)))

-- The first note is not off.
first_off : Admissible resynced (pos 11 ∷ pos 25 ∷ []) → ⊥
first_off timing = absurd (omega (arith, ints, timing.high 0 (omega arith)))

-- Of two resyncs of a host before a row the later one applies, and one of another host does not.

abbrev twice : Logged
twice = log_with (host (codes "a") (pos 0) (pos 1) ∷ host (codes "b") (pos 0) (pos 2) ∷ [])
    (row 0 (pos 10) (Note (codes "x")) ∷ row 1 (pos 20) (Note (codes "y")) ∷ row 0 (pos 30) (Note (codes "z")) ∷ [])
    (record { place = 0; host = 0; skew = pos 5; gap = pos 6 } ∷ record { place = 0; host = 0; skew = pos 7; gap = pos 8 }
    ∷ record { place = 2; host = 1; skew = pos 9; gap = pos 3 } ∷ record { place = 3; host = 0; skew = pos 1; gap = pos 1 } ∷ [])

last_of_two : skew_of twice 0 ≡ pos 7
last_of_two = refl

not_yet : gap_of twice 1 ≡ pos 2
not_yet = refl

-- The gap of the later row counts, and a resync behind the last row counts nowhere.
gap_of_later_row : edge_of twice (Rise 2) ≡ Some (edge 1 3 (negsuc 7))
gap_of_later_row = refl

-- A message sent at 10 and received at 30, by clocks that may be off by 5.

abbrev sent_and_received : Host → Logged
sent_and_received receiver =
    plain_log (host (codes "a") (pos 5) (pos 0) ∷ receiver ∷ []) (row 0 (pos 10) (Send (codes "m")) ∷ row 1 (pos 30) (Recv (codes "m")) ∷ [])

-- The receiver says that messages take from 1 to 3.
abbrev brief : Logged
brief = sent_and_received (record { name = codes "b"; skew = pos 5; gap = pos 0; least = 1; most = Some 3 })

-- The latency is that of the receive's host.
limited : most_delay brief 1 ≡ Some (pos 3)
limited = refl

-- The bounds of each row in their order.
bounds_in_order : bounds_of brief ≡ bound.Low 0 ∷ bound.High 0 ∷ bound.Low 1 ∷ bound.High 1 ∷ bound.Message 1 ∷ bound.Late 1 ∷ []
bounds_in_order = refl

-- Received at 25 at least, sent at 15 at most, and yet at most 3 apart: together -7.
brief_conflict : Conflict brief (Low 1 ∷ Late 1 ∷ High 0 ∷ [])
brief_conflict = record {
  edges = edge 0 2 (negsuc 24) ∷ edge 2 1 (pos 3) ∷ edge 1 0 (pos 15) ∷ [];
  found = refl;
  closed = (refl, (refl, refl));
  negative = omega arith;
}

brief_has_no_timing : (t : List ℤ) → Admissible brief t → ⊥
brief_has_no_timing t timing = excludes_timings brief (Low 1 ∷ Late 1 ∷ High 0 ∷ []) t (All-from_recursion IsBound (Low 1 ∷ Late 1 ∷ High 0 ∷ []) (tt, (tt, (tt, tt)))) brief_conflict timing

-- From 2 to 10.
abbrev slow : Logged
slow = sent_and_received (record { name = codes "b"; skew = pos 5; gap = pos 0; least = 2; most = Some 10 })

-- The least delay as an edge.
at_least_two : edge_of slow (Message 1) ≡ Some (edge 1 2 (negsuc 1))
at_least_two = refl

-- 14 and 25 are 11 apart.
too_slow : Admissible slow (pos 14 ∷ pos 25 ∷ []) → ⊥
too_slow timing = absurd (omega (arith, ints, timing.late 0 1 (pos 10) (omega arith) refl refl))

-- Without a greatest delay a receive has no such bound.
abbrev unlimited : Logged
unlimited = sent_and_received (host (codes "b") (pos 5) (pos 0))

no_late_bound : edge_of unlimited (Late 1) ≡ None
no_late_bound = refl

-- A send has none either, whatever its host says.
no_late_send : edge_of (plain_log (record { name = codes "a"; skew = pos 5; gap = pos 0; least = 1; most = Some 3 } ∷ []) (row 0 (pos 10) (Send (codes "m")) ∷ row 0 (pos 30) (Recv (codes "m")) ∷ [])) (Late 0) ≡ None
no_late_send = refl
