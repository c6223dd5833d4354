-- That the log of each seed admits its local times.
use Rattle.std.proofs.Common.{◌≡◌, ◌∙◌, sym, ap, refl, ℕ, ◌+◌, ◌*◌, ◌/◌, ◌%◌, ◌<◌, ◌≤◌, true, false, List, map, length, get_or, Option, Some, None, pos, ◌+ℤ◌, ◌≤ℤ◌, arith}
use Rattle.std.specs.Prelude.{bytes_eq, option_and_then, option_map, position, slice_get}
use Rattle.std.specs.List.{range_with_len}
use Rattle.std.specs.Option.{option_map_or}
use Rattle.std.proofs.lemmas.Int.{ints}
use Rattle.std.proofs.lemmas.List.FromFn.{get_or-map-range_with_len, length-map-range_with_len}
use Rattle.std.proofs.lemmas.List.Quantifiers.{position-Some}
use Rattle.std.proofs.lemmas.Option.{slice_get-get_or}
use Rattle.std.proofs.lemmas.Slice.Eq.{bytes_eq-Decides}
use Rattle.mt_model.specs.declared.log.Host.{Host}
use Rattle.mt_model.specs.declared.log.Row.{Row}
use Rattle.mt_model.specs.Log.{received_by, sent_by}
use Rattle.mt_model.specs.Timing.{gap_of, host_of, is_send_of, least_delay, local_of, most_delay, previous_row, received_in, send_of, skew_of, time_of}
use Rattle.mt_model.proofs.PreviousRows.{is_last}
use Rattle.mt_model.proofs.Unread.{offsets-unread}
use Rattle.demo_log.specs.DemoLog.{SeedsAreConsistent, demo_act, demo_host, demo_row, draw_for, local_times, log_of_seed}
use Rattle.demo_log.proofs.SeedLogs.{numbered-one, received-act, sent-act}

made-at : {X : Type 0} (f : ℕ → X) (n i : ℕ) → i < n → slice_get (map f (range_with_len 0 n)) i ≡ Some (f i)
made-at f n i below =
    let within : i < length (map f (range_with_len 0 n)) = rw (length-map-range_with_len f 0 n) below in
    slice_get-get_or (map f (range_with_len 0 n)) i (f i) within ∙ ap Some (get_or-map-range_with_len f 0 n i i (f i) below (omega arith))

-- the row that is found by a message, where there is a message
message-in : (rows : List Row) (o : Option (List ℕ)) (s : ℕ) → option_and_then (λ m. position (is_send_of m) rows) o ≡ Some s → (m : List ℕ) × (o ≡ Some m) × (position (is_send_of m) rows ≡ Some s)
message-in rows None s is = absurd (cc)
message-in rows (Some m) s is = (m, refl, is)

-- a row that sends the message
sends : (o : Option (List ℕ)) (m : List ℕ) → option_map_or (λ x. bytes_eq x m) o false ≡ true → o ≡ Some m
sends None m is = absurd (cc)
sends (Some x) m is = ap Some ((bytes_eq-Decides x m).0 is)

module _ (seed : ℕ) where
  abbrev at : ℕ → ℕ
  at r = 10 * r + draw_for seed r

  row-is : (r : ℕ) → r < 24 → slice_get (map (demo_row seed) (range_with_len 0 24)) r ≡ Some (demo_row seed r)
  row-is r small = made-at (demo_row seed) 24 r small

  local-is : (r : ℕ) → r < 24 → local_of (log_of_seed seed) r ≡ pos (at r)
  local-is r small = ap (λ o. option_map_or (λ (x : Row). x.local) o (pos 0)) (row-is r small)

  host-is : (r : ℕ) → r < 24 → host_of (log_of_seed seed) r ≡ r % 6
  host-is r small = ap (λ o. option_map_or (λ (x : Row). x.host) o 0) (row-is r small)

  skew-is : (r : ℕ) → r < 24 → skew_of (log_of_seed seed) r ≡ pos 3
  skew-is r small =
      ap (λ h. option_map_or (λ (x : Host). x.skew) (slice_get (map demo_host (range_with_len 0 6)) h) (pos 0)) (host-is r small)
      ∙ ap (λ o. option_map_or (λ (x : Host). x.skew) o (pos 0)) (made-at demo_host 6 (r % 6) (omega arith))

  gap-is : (r : ℕ) → r < 24 → gap_of (log_of_seed seed) r ≡ pos 1
  gap-is r small =
      ap (λ h. option_map_or (λ (x : Host). x.gap) (slice_get (map demo_host (range_with_len 0 6)) h) (pos 0)) (host-is r small)
      ∙ ap (λ o. option_map_or (λ (x : Host). x.gap) o (pos 0)) (made-at demo_host 6 (r % 6) (omega arith))

  delay-is : (r : ℕ) → r < 24 → least_delay (log_of_seed seed) r ≡ pos 1
  delay-is r small =
      ap (λ h. option_map_or (λ (x : Host). pos x.least) (slice_get (map demo_host (range_with_len 0 6)) h) (pos 1)) (host-is r small)
      ∙ ap (λ o. option_map_or (λ (x : Host). pos x.least) o (pos 1)) (made-at demo_host 6 (r % 6) (omega arith))

  unlimited : (r : ℕ) → r < 24 → most_delay (log_of_seed seed) r ≡ None
  unlimited r small =
      ap (λ h. option_and_then (λ (x : Host). option_map pos x.most) (slice_get (map demo_host (range_with_len 0 6)) h)) (host-is r small)
      ∙ ap (λ o. option_and_then (λ (x : Host). option_map pos x.most) o) (made-at demo_host 6 (r % 6) (omega arith))

  time-is : (r : ℕ) → r < 24 → time_of (local_times seed) r ≡ pos (at r)
  time-is r small = get_or-map-range_with_len (λ k. pos (at k)) 0 24 r r (pos 0) small (omega arith)

  -- a later row has a later local time
  later : (e f : ℕ) → e < f → (pos (at e) +ℤ pos 1) ≤ℤ pos (at f)
  later e f order =
      let first : draw_for seed e < 5 = omega arith in
      let second : draw_for seed f < 5 = omega arith in
      let less : at e + 1 ≤ at f = omega (arith, first, second) in
      omega (arith, ints, less)

  rises : (e f : ℕ) → f < 24 → previous_row (log_of_seed seed) f ≡ Some e → (time_of (local_times seed) e +ℤ gap_of (log_of_seed seed) f) ≤ℤ time_of (local_times seed) f
  rises e f small is =
      let last = is_last.found (log_of_seed seed) e f is in
      rw (time-is e (omega (arith, last.before)), gap-is f small, time-is f small) (later e f last.before)

  sent-earlier : (s r : ℕ) → r < 24 → send_of (log_of_seed seed) r ≡ Some s → s < r
  sent-earlier s r small is =
      let rows = map (demo_row seed) (range_with_len 0 24) in
      let (m, received, place) = message-in rows (received_in (log_of_seed seed) r) s is in
      let (below, passes, first) = position-Some (is_send_of m) rows s (demo_row seed s) place in
      let within : s < 24 = rw (length-map-range_with_len (demo_row seed) 0 24) at below in
      let row : get_or rows s (demo_row seed s) ≡ demo_row seed s = get_or-map-range_with_len (demo_row seed) 0 24 s s (demo_row seed s) within (omega arith) in
      let sent = sends (sent_by (demo_act (s % 6) (s / 6))) m (sym (ap (is_send_of m) row) ∙ passes) in
      let heard : received_by (demo_act (r % 6) (r / 6)) ≡ Some m = sym (ap (λ o. option_and_then (λ (x : Row). received_by x.act) o) (row-is r small)) ∙ received in
      let (sender, as_sent) = sent-act (s % 6) (s / 6) m (omega arith) sent in
      let (receiver, as_heard) = received-act (r % 6) (r / 6) m (omega arith) heard in
      let rounds = numbered-one 109 (s / 6) (r / 6) (omega arith) (omega arith) (sym as_sent ∙ as_heard) in
      omega (arith, sender, receiver, rounds)

  arrives : (s r : ℕ) → r < 24 → send_of (log_of_seed seed) r ≡ Some s → (time_of (local_times seed) s +ℤ least_delay (log_of_seed seed) r) ≤ℤ time_of (local_times seed) r
  arrives s r small is =
      let order = sent-earlier s r small is in
      rw (time-is s (omega (arith, order)), delay-is r small, time-is r small) (later s r order)

pub seeds-consistent : SeedsAreConsistent
seeds-consistent seed = record {
  count = refl;
  low = λ e small. rw (local-is seed e small, skew-is seed e small, time-is seed e small) (omega (arith, ints));
  high = λ e small. rw (local-is seed e small, skew-is seed e small, time-is seed e small) (omega (arith, ints));
  rise = rises seed;
  message = arrives seed;
  late = λ s r most small sent limited. let none = unlimited seed r small in absurd (cc);
  extra = λ k x is. absurd (cc);
  clocks = offsets-unread (log_of_seed seed) refl (local_times seed);
}
