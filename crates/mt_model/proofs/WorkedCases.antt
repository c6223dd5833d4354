-- Small logs, with what the definitions say of them. The numbers are worked out by hand.
use Rattle.std.proofs.Common.{◌≡◌, refl, ℕ, zero, suc, ◌<◌, List, [], ◌∷◌, map, true, false, Some, None, codes, ℤ, pos, negsuc, ◌+ℤ◌, ◌-ℤ◌, ◌≤ℤ◌, neg_ℤ, arith}
use Rattle.std.specs.Prelude.{slice_get}
use Rattle.std.proofs.lemmas.Int.{ints}
use Rattle.std.proofs.lemmas.List.Elements.{All-from_recursion}
use Rattle.mt_model.specs.declared.log.Host.{Host}
use Rattle.mt_model.specs.declared.log.Row.{Row}
use Rattle.mt_model.specs.declared.log.Act.{Act}
use Rattle.mt_model.specs.declared.log.Act.TheVariants.{Set, Clear, Send, Recv, Note}
use Rattle.mt_model.specs.declared.log.Extra as extra
use Rattle.mt_model.specs.declared.step.Step.TheVariants.{Low, High, Rise, Message, Extra, Order}
use Rattle.mt_model.specs.declared.limits.TheConstants.{MAX_ORDER}
use Rattle.mt_model.specs.Log.{Logged, plain_log}
use Rattle.mt_model.specs.Name.{is_name, is_reserved}
use Rattle.mt_model.specs.Timing.{Admissible, time_of, local_of, skew_of, gap_of, least_delay, most_delay, previous_row, send_of}
use Rattle.mt_model.specs.Walks.{Edge, edge_of, HasEdges, IsClosedWalk, sum_of_bounds, Conflict}
use Rattle.mt_model.specs.Laws.{IsBound}
use Rattle.mt_model.proofs.Conflicts.{excludes_timings}
use Rattle.mt_model.proofs.Unread.{offsets-unread}

abbrev pub host : List ℕ → ℤ → ℤ → Host
host name skew gap = record { name = name; skew = skew; gap = gap; least = 1; most = None }

abbrev pub row : ℕ → ℤ → Act → Row
row host local act = record { host = host; local = local; act = act }

abbrev log_of : List Host → List Row → Logged
log_of = plain_log

abbrev pub edge : ℕ → ℕ → ℤ → Edge
edge from to bound = record { from = from; to = to; bound = bound }

-- what holds of 0 and of 1 holds of each number below 2
pub below_two : (P : ℕ → Type 0) → P 0 → P 1 → (e : ℕ) → e < 2 → P e
below_two P first second zero low = first
below_two P first second (suc zero) low = second
below_two P first second (suc (suc e)) low = absurd (omega arith)

-- Two hosts of skew 2 and gap 1, with a row each: a request at 10, its answer at 15.

abbrev request : Logged
request = log_of (host (codes "a") (pos 2) (pos 1) ∷ host (codes "b") (pos 2) (pos 1) ∷ []) (row 0 (pos 10) (Set (codes "req")) ∷ row 1 (pos 15) (Set (codes "ack")) ∷ [])

-- No row has an earlier one of its host.
nothing_before : (f : ℕ) → f < 2 → previous_row request f ≡ None
nothing_before = below_two (λ f. previous_row request f ≡ None) refl refl

-- No row receives.
nothing_received : (r : ℕ) → r < 2 → send_of request r ≡ None
nothing_received = below_two (λ r. send_of request r ≡ None) refl refl

-- Each true time is within 2 of its local time. There is nothing else to meet.
request_admits : (x y : ℤ) → pos 8 ≤ℤ x → x ≤ℤ pos 12 → pos 13 ≤ℤ y → y ≤ℤ pos 17 → Admissible request (x ∷ y ∷ [])
request_admits x y a b c d = record {
  count = refl;
  low = below_two _ a c;
  high = below_two _ b d;
  rise = λ e f low before. absurd (cc (nothing_before f low));
  message = λ s r low sent. absurd (cc (nothing_received r low));
  late = λ s r most low sent limited. absurd (cc (nothing_received r low));
  extra = λ k x at. absurd (cc);
  clocks = offsets-unread request refl (x ∷ y ∷ []);
}

-- The local times themselves are a timing.
local_times : Admissible request (pos 10 ∷ pos 15 ∷ [])
local_times = request_admits _ _ (omega arith) (omega arith) (omega arith) (omega arith)

-- The farthest apart that two skews of 2 allow.
farthest_times : Admissible request (pos 8 ∷ pos 17 ∷ [])
farthest_times = request_admits _ _ (omega arith) (omega arith) (omega arith) (omega arith)

-- The nearest.
nearest_times : Admissible request (pos 12 ∷ pos 13 ∷ [])
nearest_times = request_admits _ _ (omega arith) (omega arith) (omega arith) (omega arith)

-- 7 is 3 before the local time 10.
too_early : Admissible request (pos 7 ∷ pos 15 ∷ []) → ⊥
too_early timing = absurd (omega (arith, ints, timing.low 0 (omega arith)))

-- 18 is 3 after the local time 15.
too_late : Admissible request (pos 10 ∷ pos 18 ∷ []) → ⊥
too_late timing = absurd (omega (arith, ints, timing.high 1 (omega arith)))

-- One host with an exact clock and gap 1, and two rows at the same local time.

abbrev instant : Logged
instant = log_of (host (codes "a") (pos 0) (pos 1) ∷ []) (row 0 (pos 10) (Set (codes "p")) ∷ row 0 (pos 10) (Clear (codes "p")) ∷ [])

-- The row before the second is the first.
second_after_first : previous_row instant 1 ≡ Some 0
second_after_first = refl

-- No row comes before the first.
none_before_first : previous_row instant 0 ≡ None
none_before_first = refl

-- At most 10, at least 10, and yet 1 apart: together -1.
instant_conflict : Conflict instant (High 1 ∷ Low 0 ∷ Rise 1 ∷ [])
instant_conflict = record {
  edges = edge 2 0 (pos 10) ∷ edge 0 1 (negsuc 9) ∷ edge 1 2 (negsuc 0) ∷ [];
  found = refl;
  closed = (refl, (refl, refl));
  negative = omega arith;
}

-- So that log has no timing.
instant_has_no_timing : (t : List ℤ) → Admissible instant t → ⊥
instant_has_no_timing t timing = excludes_timings instant (High 1 ∷ Low 0 ∷ Rise 1 ∷ []) t (All-from_recursion IsBound (High 1 ∷ Low 0 ∷ Rise 1 ∷ []) (tt, (tt, (tt, tt)))) instant_conflict timing

-- Two hosts of skew 1: a message is sent at 20 and received at 10.

abbrev early_receive : Logged
early_receive = log_of (host (codes "a") (pos 1) (pos 0) ∷ host (codes "b") (pos 1) (pos 0) ∷ []) (row 0 (pos 20) (Send (codes "m")) ∷ row 1 (pos 10) (Recv (codes "m")) ∷ [])

-- Row 0 sends what row 1 receives.
sent_first : send_of early_receive 1 ≡ Some 0
sent_first = refl

-- A send is no receive.
send_has_no_send : send_of early_receive 0 ≡ None
send_has_no_send = refl

-- Received by 11, sent from 19 on, and received after it was sent: 11 - 19 - 1 = -9.
early_receive_conflict : Conflict early_receive (High 1 ∷ Low 0 ∷ Message 1 ∷ [])
early_receive_conflict = record {
  edges = edge 2 0 (pos 11) ∷ edge 0 1 (negsuc 18) ∷ edge 1 2 (negsuc 0) ∷ [];
  found = refl;
  closed = (refl, (refl, refl));
  negative = omega arith;
}

-- That sum.
early_receive_sum : sum_of_bounds (edge 2 0 (pos 11) ∷ edge 0 1 (negsuc 18) ∷ edge 1 2 (negsuc 0) ∷ []) ≡ negsuc 8
early_receive_sum = refl

-- At most 10 and at least 10, on a row of an exact clock.
abbrev there_and_back : List Edge
there_and_back = edge 1 0 (pos 10) ∷ edge 0 1 (negsuc 9) ∷ []

-- They are the edges of the two steps.
there_and_back_edges : HasEdges instant (High 0 ∷ Low 0 ∷ []) there_and_back
there_and_back_edges = refl

-- They lead from the row to the zero moment and back.
there_and_back_closed : IsClosedWalk there_and_back
there_and_back_closed = (refl, refl)

-- Their bounds are 10 and -10.
there_and_back_sum : sum_of_bounds there_and_back ≡ pos 0
there_and_back_sum = refl

-- Steps have one list of edges.
same_edges : (xs ys : List Edge) → map Some xs ≡ map Some ys → xs ≡ ys
same_edges [] [] same = refl
same_edges [] (y ∷ ys) same = absurd (cc)
same_edges (x ∷ xs) [] same = absurd (cc)
same_edges (x ∷ xs) (y ∷ ys) same = let rest : map Some xs ≡ map Some ys = cc in cc (same_edges xs ys rest)

-- 0 is not negative, so the two steps are no conflict.
there_and_back_agree : Conflict instant (High 0 ∷ Low 0 ∷ []) → ⊥
there_and_back_agree c = absurd (omega (arith, ints, rw (← same_edges there_and_back c.edges c.found) at c.negative))

-- The empty list is no closed walk.
empty_is_open : IsClosedWalk [] → ⊥
empty_is_open closed = closed

-- A walk that ends where it did not begin is not closed.
one_way_is_open : IsClosedWalk (edge 1 0 (pos 10) ∷ []) → ⊥
one_way_is_open closed = absurd (omega (arith, closed))

-- Nor is one whose second edge does not begin where the first ends.
broken_is_open : IsClosedWalk (edge 2 0 (pos 10) ∷ edge 1 2 (negsuc 0) ∷ []) → ⊥
broken_is_open closed = absurd (omega (arith, closed.0))

-- Row 7 is not in the log.
no_row : edge_of instant (Low 7) ≡ None
no_row = refl

-- Nor is row 2, the first number past its rows.
no_row_high : edge_of instant (High 2) ≡ None
no_row_high = refl

-- No row comes before row 0.
no_row_before : edge_of instant (Rise 0) ≡ None
no_row_before = refl

-- A row that is not in the log does not rise.
no_row_rise : edge_of instant (Rise 2) ≡ None
no_row_rise = refl

-- Row 0 receives nothing.
no_message : edge_of instant (Message 0) ≡ None
no_message = refl

-- The log has no extra bound.
no_extra : edge_of instant (Extra 0) ≡ None
no_extra = refl

-- An order step is between two different rows.
order_with_itself : edge_of instant (Order 0 0 (pos 5)) ≡ None
order_with_itself = refl

-- Both of them are in the log.
order_past_rows : edge_of instant (Order 0 2 (pos 5)) ≡ None
order_past_rows = refl

-- The greatest bound of an order step.
order_greatest : edge_of instant (Order 0 1 MAX_ORDER) ≡ Some (edge 1 2 MAX_ORDER)
order_greatest = refl

-- One more is too great.
order_too_great : edge_of instant (Order 0 1 (MAX_ORDER +ℤ pos 1)) ≡ None
order_too_great = refl

-- The least bound of an order step.
order_least : edge_of instant (Order 0 1 (neg_ℤ MAX_ORDER)) ≡ Some (edge 1 2 (neg_ℤ MAX_ORDER))
order_least = refl

-- One less is too small.
order_too_small : edge_of instant (Order 0 1 (neg_ℤ MAX_ORDER -ℤ pos 1)) ≡ None
order_too_small = refl

-- Three rows, the first and the last of one host.

abbrev turns : Logged
turns = log_of (host (codes "a") (pos 0) (pos 3) ∷ host (codes "b") (pos 0) (pos 4) ∷ []) (row 0 (pos 1) (Recv (codes "m")) ∷ row 1 (pos 2) (Note (codes "n")) ∷ row 0 (pos 3) (Send (codes "m")) ∷ [])

-- The row of the other host between them is passed over.
over_the_other_host : previous_row turns 2 ≡ Some 0
over_the_other_host = refl

-- The row of the other host is the first of its host.
first_of_its_host : previous_row turns 1 ≡ None
first_of_its_host = refl

-- The step takes the gap of the row's own host.
gap_of_its_host : edge_of turns (Rise 2) ≡ Some (edge 1 3 (negsuc 2))
gap_of_its_host = refl

-- A send that stands after its receive in the file is found.
send_stands_later : send_of turns 0 ≡ Some 2
send_stands_later = refl

-- Three rows at local time 10, on hosts of skew 5. Host 0 of gap 3 sends in row 0, and host 1 receives in row 2. The extra bound says that row 2 comes at least 2 before row 1.

abbrev crowded : Logged
crowded = record {
  hosts = host (codes "a") (pos 5) (pos 3) ∷ host (codes "b") (pos 5) (pos 0) ∷ [];
  rows = row 0 (pos 10) (Send (codes "m")) ∷ row 0 (pos 10) (Note (codes "n")) ∷ row 1 (pos 10) (Recv (codes "m")) ∷ [];
  resyncs = [];
  clocks = [];
  readings = [];
  extras = record { e = 2; f = 1; c = negsuc 1 } ∷ [];
}

-- what holds of 0, 1 and 2 holds of each number below 3
pub below_three : (P : ℕ → Type 0) → P 0 → P 1 → P 2 → (e : ℕ) → e < 3 → P e
below_three P first second third zero low = first
below_three P first second third (suc zero) low = second
below_three P first second third (suc (suc zero)) low = third
below_three P first second third (suc (suc (suc e))) low = absurd (omega arith)

-- Only row 1 has an earlier row of its host.
crowded_rise : (t : List ℤ) → (time_of t 0 +ℤ pos 3) ≤ℤ time_of t 1 → (e f : ℕ) → f < 3 → previous_row crowded f ≡ Some e → (time_of t e +ℤ gap_of crowded f) ≤ℤ time_of t f
crowded_rise t h e zero low before = absurd (cc)
crowded_rise t h e (suc zero) low before = let first : 0 ≡ e = cc in rw (← first) h
crowded_rise t h e (suc (suc zero)) low before = absurd (cc)
crowded_rise t h e (suc (suc (suc f))) low before = absurd (omega arith)

-- Only row 2 receives, from row 0.
crowded_message : (t : List ℤ) → (time_of t 0 +ℤ pos 1) ≤ℤ time_of t 2 → (s r : ℕ) → r < 3 → send_of crowded r ≡ Some s → (time_of t s +ℤ pos 1) ≤ℤ time_of t r
crowded_message t h s zero low sent = absurd (cc)
crowded_message t h s (suc zero) low sent = absurd (cc)
crowded_message t h s (suc (suc zero)) low sent = let first : 0 ≡ s = cc in rw (← first) h
crowded_message t h s (suc (suc (suc r))) low sent = absurd (omega arith)

-- Each host's least delay is 1.
crowded_delay : (r : ℕ) → r < 3 → least_delay crowded r ≡ pos 1
crowded_delay = below_three (λ r. least_delay crowded r ≡ pos 1) refl refl refl

-- No host has a greatest delay.
crowded_unlimited : (r : ℕ) → r < 3 → most_delay crowded r ≡ None
crowded_unlimited = below_three (λ r. most_delay crowded r ≡ None) refl refl refl

-- There is one extra bound.
crowded_extra : (t : List ℤ) → (time_of t 2 -ℤ time_of t 1) ≤ℤ negsuc 1 → (k : ℕ) (x : extra.Extra) → slice_get crowded.extras k ≡ Some x → (time_of t x.e -ℤ time_of t x.f) ≤ℤ x.c
crowded_extra t h zero x at = let one : record { e = 2; f = 1; c = negsuc 1 } ≡ x = cc in rw (← one) h
crowded_extra t h (suc k) x at = absurd (cc)

abbrev just : List ℤ
just = pos 8 ∷ pos 11 ∷ pos 9 ∷ []

-- The gap, the delay of the message and the extra bound are each just met.
just_in_time : Admissible crowded just
just_in_time = record {
  count = refl;
  low = below_three (λ e. (local_of crowded e -ℤ skew_of crowded e) ≤ℤ time_of just e) (omega arith) (omega arith) (omega arith);
  high = below_three (λ e. time_of just e ≤ℤ (local_of crowded e +ℤ skew_of crowded e)) (omega arith) (omega arith) (omega arith);
  rise = crowded_rise just (omega arith);
  message = λ s r low sent. rw (crowded_delay r low) (crowded_message just (omega arith) s r low sent);
  late = λ s r most low sent limited. absurd (cc (crowded_unlimited r low));
  extra = crowded_extra just (omega arith);
  clocks = offsets-unread crowded refl just;
}

-- 9 and 11 are less than the gap apart.
too_soon : Admissible crowded (pos 9 ∷ pos 11 ∷ pos 9 ∷ []) → ⊥
too_soon timing = absurd (omega (arith, ints, timing.rise 0 1 (omega arith) refl))

-- Received at the moment of its send.
no_delay : Admissible crowded (pos 8 ∷ pos 11 ∷ pos 8 ∷ []) → ⊥
no_delay timing = absurd (omega (arith, ints, timing.message 0 2 (omega arith) refl))

-- Row 2 comes only 1 before row 1.
past_the_bound : Admissible crowded (pos 8 ∷ pos 11 ∷ pos 10 ∷ []) → ⊥
past_the_bound timing = absurd (omega (arith, ints, timing.extra 0 _ refl))

-- A timing has a time for each row.
one_time_short : Admissible crowded (pos 8 ∷ pos 11 ∷ []) → ⊥
one_time_short timing = absurd (omega (arith, timing.count))

-- The extra bound as an edge.
extra_bound : edge_of crowded (Extra 0) ≡ Some (edge 3 2 (negsuc 1))
extra_bound = refl

-- A name of 32 bytes, the longest.
name_of_32 : is_name (codes "abcdefghijklmnopqrstuvwxyz012345") ≡ true
name_of_32 = refl

-- 33 bytes are too long.
name_of_33 : is_name (codes "abcdefghijklmnopqrstuvwxyz0123456") ≡ false
name_of_33 = refl

-- No bytes are no name.
name_of_none : is_name [] ≡ false
name_of_none = refl

-- A name does not begin with a digit.
name_from_digit : is_name (codes "1a") ≡ false
name_from_digit = refl

-- Nor with an underscore.
name_from_underscore : is_name (codes "_a") ≡ false
name_from_underscore = refl

-- Both may come later.
name_of_each_kind : is_name (codes "a_1") ≡ true
name_of_each_kind = refl

-- There are no capitals.
name_of_capital : is_name (codes "A") ≡ false
name_of_capital = refl

-- There is no dash.
name_with_dash : is_name (codes "a-b") ≡ false
name_with_dash = refl

-- `true` names no host.
reserved_true : is_reserved (codes "true") ≡ true
reserved_true = refl

-- `false` names no host.
reserved_false : is_reserved (codes "false") ≡ true
reserved_false = refl

-- `inf` names no host.
reserved_inf : is_reserved (codes "inf") ≡ true
reserved_inf = refl

-- A longer word may.
not_reserved : is_reserved (codes "infinite") ≡ false
not_reserved = refl
