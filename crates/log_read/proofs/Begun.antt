-- What was read so far stays the beginning of a valid log.
use Rattle.std.proofs.Common.{◌≡◌, ◌∙◌, sym, ap, refl, arith, inl, inr, subst, ℕ, suc, ◌<◌, ◌≤◌, Bool, true, false, List, [], ◌∷◌, ◌++◌, length, length-append, get_or, take, Option, Some, None, ℤ, pos, neg_ℤ, ◌≤ℤ◌, ◌==◌}
use Rattle.std.specs.Prelude.{All, AllPairs, IfSome, is_some, option_to_list, codes, map, nat_lt, unwrap_or, if◌then◌else◌, ◌&&◌, ◌||◌, not, int_le, option_map, option_and_then, nat_le, bytes_eq, is_none}
use Rattle.std.specs.Option.{option_map_or}
use Rattle.std.specs.Ordering.{int_eq}
use Rattle.std.specs.Str.Parse.{digits_value}
use Rattle.std.proofs.lemmas.Int.{ints}
use Rattle.std.specs.List.{position_or_len}
use Rattle.std.proofs.lemmas.Bool.{and_parts, cases_eq, eqb-false, leb-true, lt-leb, ltb-false, ltb-true, or_parts}
use Rattle.std.proofs.lemmas.Bool.Decides.{nat_tests}
use Rattle.std.proofs.Math.Seq.{get_or-append_seam, take-append_seam}
use Rattle.std.proofs.lemmas.List.{append-nil, get_or-map, get_or_append_left, length-map, take-append-le}
use Rattle.std.proofs.lemmas.List.Elements.{All-push}
use Rattle.std.proofs.lemmas.List.Quantifiers.{all_pairs_push, position-Some}
use Rattle.std.proofs.lemmas.List.Folds.{find_at, list_any_at}
use Rattle.std.proofs.lemmas.Slice.Eq.{bytes_eq-Decides}
use Rattle.mt_model.specs.declared.log.Act.{Act}
use Rattle.mt_model.specs.declared.log.Host.{Host}
use Rattle.mt_model.specs.declared.log.Row.{Row}
use Rattle.mt_model.specs.declared.limits.TheConstants.{MAX_CLOCKS, MAX_ERROR, MAX_EXTRA, MAX_HOSTS, MAX_ROWS, MAX_WRITTEN_EXTRAS, MAX_WRITTEN_SKEW, MAX_GAP, MAX_LOCAL, MAX_DELAY, MIN_DELAY}
use Rattle.mt_model.specs.declared.resync.Resync.{Resync}
use Rattle.mt_model.specs.declared.reading.Reading.{Reading}
use Rattle.mt_model.specs.declared.log.Extra.{Extra}
use Rattle.mt_model.specs.Log.{AreClockNames, AreInTurn, AreReadings, AreResyncs, IsRead, IsReading, IsLog, IsHost, IsResync, IsRow, IsWithin, IsSent, SendSame, name_in, sent_by, received_by}
use Rattle.mt_model.specs.Name.{is_name, is_reserved}
use Rattle.mt_model.specs.Timing.{is_send_of}
use Rattle.log_read.specs.declared.clock.ClockEntry.{ClockEntry}
use Rattle.log_read.specs.declared.latency.Latency.{Latency}
use Rattle.log_read.specs.declared.fault.LogFault.{LogFault}
use Rattle.log_read.specs.declared.kind.EventKind.{EventKind}
use Rattle.log_read.specs.declared.kind.EventKind.TheVariants as event
use Rattle.decimal.specs.Numbers.{is_number, number_up_to, negated, signed_up_to}
use Rattle.log_read.specs.Records.{Listing, bound_with, clock_named, new_clock, place_of_clock, reading_with, row_number, host_with, row_with, place_of_host, act_of, delay_in, delayed, delayed_by, greatest_in, latency_of, latency_with, least_in, log_from, resync_with}
use Rattle.log_read.specs.LogOf.{bound_fault, clock_fault, is_of_one_row, host_fault, event_fault, is_declared, is_delayed, is_empty, latency_fault, sends_again}
use Rattle.log_read.proofs.Listing.{entry_parts}
use Rattle.log_read.specs.Reading.{IsBegun, IsBound, IsLatency, clock_entry_with}
use Rattle.log_read.proofs.Middles.{All-position_none}
use Rattle.mt_model.proofs.Resyncs.{at-place}

-- where the first test that fails is none, each test passed
four_pass : (a b c d : Bool) (w x y z : LogFault) → (if a then Some w else if b then Some x else if c then Some y else if d then Some z else None) ≡ None
    → (a ≡ false) × (b ≡ false) × (c ≡ false) × (d ≡ false)
four_pass true b c d w x y z h = cc
four_pass false true c d w x y z h = cc
four_pass false false true d w x y z h = cc
four_pass false false false true w x y z h = cc
four_pass false false false false w x y z h = (refl, refl, refl, refl)

found_is : (b : Bool) (v z : ℤ) → (if b then Some v else None) ≡ Some z → (v ≡ z) × (b ≡ true)
found_is true v z h = (cc, refl)
found_is false v z h = cc

-- a number that was read is in its range
pub number_in_range : (most : ℤ) (bytes : List ℕ) (z : ℤ) → number_up_to most bytes ≡ Some z → (pos 0 ≤ℤ z) × (z ≤ℤ most)
number_in_range most bytes z h =
    let found = found_is (is_number bytes && int_le (pos (digits_value 10 bytes)) most) (pos (digits_value 10 bytes)) z h in
    let within = (and_parts (is_number bytes) (int_le (pos (digits_value 10 bytes)) most) found.1).1 in
    rw (← found.0) (omega (arith, ints), grind (arith, ints))

-- the fields of a host that was read
record HostRead (name first second : List ℕ) (h : Host) : Type 0 where
  named : h.name ≡ name
  skew : number_up_to MAX_WRITTEN_SKEW first ≡ Some h.skew
  gap : number_up_to MAX_GAP second ≡ Some h.gap
  least : h.least ≡ MIN_DELAY
  most : h.most ≡ None

host_of_numbers : (name : List ℕ) (s g : Option ℤ) (h : Host)
    → option_and_then (λ x. option_map (λ y. let made : Host = record { name = name; skew = x; gap = y; least = MIN_DELAY; most = None } in made) g) s ≡ Some h
    → (h.name ≡ name) × (s ≡ Some h.skew) × (g ≡ Some h.gap) × (h.least ≡ MIN_DELAY) × (h.most ≡ None)
host_of_numbers name None g h e = cc
host_of_numbers name (Some x) None h e = cc
host_of_numbers name (Some x) (Some y) h e = (
  ap (λ o. option_map_or (λ (k : Host). k.name) o name) (sym e),
  ap (λ o. Some (option_map_or (λ (k : Host). k.skew) o x)) e,
  ap
      (λ o. Some (option_map_or (λ (k : Host). k.gap) o y)) e,
  ap (λ o. option_map_or (λ (k : Host). k.least) o MIN_DELAY) (sym e),
  ap
      (λ o. option_map_or (λ (k : Host). k.most) o None) (sym e),
)

host_read : (name skew gap : List ℕ) (h : Host) → host_with name skew gap ≡ Some h → HostRead name skew gap h
host_read name skew gap h e =
    let parts = host_of_numbers name (number_up_to MAX_WRITTEN_SKEW skew) (number_up_to MAX_GAP gap) h e in
    record { named = parts.0; skew = parts.1; gap = parts.2; least = parts.3; most = parts.4 }

-- no host of a list is named so, where the test finds none
not_declared : (hosts : List Host) (name : List ℕ) (k : ℕ) (d : Host) → is_declared hosts name ≡ false → k < length hosts → (get_or hosts k d).name ≡ name → ⊥
not_declared hosts name k d none within same =
    let test : bytes_eq (get_or hosts k d).name name ≡ true = (bytes_eq-Decides (get_or hosts k d).name name).1 same in
    let some = list_any_at (λ h. bytes_eq h.name name) hosts k d within test in
    absurd (cc)

-- bytes that are not refused as no name are a name
named-true : (name : List ℕ) → not (is_name name) ≡ false → is_name name ≡ true
named-true name h = by (is_name name) h
  where
    by : (b : Bool) → not b ≡ false → b ≡ true
    by true h = refl
    by false h = cc

name_in-act_of : (e : EventKind) (name : List ℕ) → name_in (act_of e name) ≡ name
name_in-act_of event.Set name = refl
name_in-act_of event.Clear name = refl
name_in-act_of event.Send name = refl
name_in-act_of event.Recv name = refl
name_in-act_of event.Note name = refl
name_in-act_of event.Pulse name = refl

-- resyncs of a log stay so in one of more hosts and rows
resyncs-more : (hosts rows more_hosts more_rows : ℕ) (rs : List Resync) → hosts ≤ more_hosts → rows ≤ more_rows → AreResyncs hosts rows rs → AreResyncs more_hosts more_rows rs
resyncs-more hosts rows more_hosts more_rows rs wider longer are = record {
  each = λ k d within. let r = are.each k d within in record {
    host = omega (arith, r.host, wider);
    place = omega (arith, r.place, longer);
    skew_low = r.skew_low;
    skew_high = r.skew_high;
    gap_low = r.gap_low;
    gap_high = r.gap_high;
  };
  in_order = are.in_order;
}

-- so do readings, whose clocks are the same
readings-more : (hosts rows more_hosts more_rows clocks : ℕ) (rs : List Reading) → hosts ≤ more_hosts → rows ≤ more_rows → AreReadings hosts rows clocks rs → AreReadings more_hosts more_rows clocks rs
readings-more hosts rows more_hosts more_rows clocks rs wider longer are = record {
  each = λ k d within. let r = are.each k d within in record {
    host = omega (arith, r.host, wider);
    place = omega (arith, r.place, longer);
    clock = r.clock;
    error_low = r.error_low;
    error_high = r.error_high;
  };
  in_order = are.in_order;
  in_turn = are.in_turn;
  read = are.read;
}

-- a host that has no fault may be added
pub begun_host : (place : ℕ) (log : Listing) (h : Host) (name skew gap : List ℕ) → IsBegun log → host_fault place log.hosts name skew gap ≡ None → host_with name skew gap ≡ Some h
    → IsBegun (record { hosts = log.hosts ++ h ∷ []; rows = log.rows; resyncs = log.resyncs; latencies = log.latencies; clocks = log.clocks; readings = log.readings; bounds = log.bounds })
begun_host place log h name skew gap begun clear e =
    let read = host_read name skew gap h e in
    let tests =
    four_pass (not (is_name name) || is_reserved name) (is_declared log.hosts name) (nat_le MAX_HOSTS (length log.hosts))
    (is_none (number_up_to MAX_WRITTEN_SKEW skew) || is_none (number_up_to MAX_GAP gap)) _ _ _ _ clear in
    let skews = number_in_range MAX_WRITTEN_SKEW skew h.skew read.skew in
    let gaps = number_in_range MAX_GAP gap h.gap read.gap in
    let host : IsHost h = record {
      called = rw read.named (named-true name (or_parts (not (is_name name)) (is_reserved name) tests.0).0);
      name = rw read.named ((or_parts (not (is_name name)) (is_reserved name) tests.0).1);
      skew_low = skews.0;
      skew_high = omega (arith, ints, skews.1);
      gap_low = gaps.0;
      gap_high = gaps.1;
      delays = record {
        least_low = rw read.least (omega arith);
        least_high = rw read.least (omega arith);
        most_low = rw read.most tt;
        most_high = rw read.most tt;
      };
    } in
    record {
      few_hosts = let room = tests.2 in grind (arith, nat_tests, length-append);
      few_rows = begun.few_rows;
      names = all_pairs_push (λ (g k : Host). k.name ≡ g.name → ⊥) log.hosts h begun.names (λ k d within same. not_declared log.hosts name k d tests.1 within (sym same ∙ read.named));
      hosts = All-push IsHost log.hosts h begun.hosts host;
      rows = λ k d within. let row = begun.rows k d within in record { host = omega (arith, row.host, length-append log.hosts (h ∷ [])); local = row.local; named = row.named };
      sent_once = begun.sent_once;
      resyncs =
          resyncs-more (length log.hosts) (length log.rows) (length (log.hosts ++ h ∷ [])) (length log.rows) log.resyncs (omega (arith, length-append log.hosts (h ∷ []))) (omega arith) begun.resyncs;
      latencies = begun.latencies;
      clocks = begun.clocks;
      readings =
          readings-more (length log.hosts) (length log.rows) (length (log.hosts ++ h ∷ [])) (length log.rows) (length log.clocks) log.readings (omega (arith, length-append log.hosts (h ∷ []))) (omega arith) begun.readings;
      few_bounds = begun.few_bounds;
      bounds = begun.bounds;
    }

-- the fields of a row that was read
pub record RowRead (hosts : List Host) (e : EventKind) (first second third : List ℕ) (r : Row) : Type 0 where
  pub host : place_of_host hosts first ≡ Some r.host
  pub local : signed_up_to MAX_LOCAL second ≡ Some r.local
  pub act : r.act ≡ act_of e third

row_of_parts : (a : Act) (o : Option ℕ) (l : Option ℤ) (r : Row) → option_and_then (λ x. option_map (λ y. let made : Row = record { host = x; local = y; act = a } in made) l) o ≡ Some r
    → (o ≡ Some r.host) × (l ≡ Some r.local) × (r.act ≡ a)
row_of_parts a None l r e = cc
row_of_parts a (Some x) None r e = cc
row_of_parts a (Some x) (Some y) r e =
    (ap (λ o. Some (option_map_or (λ (k : Row). k.host) o x)) e, ap (λ o. Some (option_map_or (λ (k : Row). k.local) o y)) e, ap (λ o. option_map_or (λ (k : Row). k.act) o a) (sym e))

pub row_read : (hosts : List Host) (e : EventKind) (host local name : List ℕ) (r : Row) → row_with hosts e host local name ≡ Some r → RowRead hosts e host local name r
row_read hosts e host local name r h =
    let parts = row_of_parts (act_of e name) (place_of_host hosts host) (signed_up_to MAX_LOCAL local) r h in
    record { host = parts.0; local = parts.1; act = parts.2 }

negated_is : (v z : ℤ) → negated v ≡ Some z → neg_ℤ v ≡ z
negated_is v z = opposite (int_eq v (pos 0))
  where
    opposite : (b : Bool) → (if b then None else Some (neg_ℤ v)) ≡ Some z → neg_ℤ v ≡ z
    opposite true h = cc
    opposite false h = cc

opposite_in_range : (most : ℤ) (n : Option ℤ) (z : ℤ) → ((v : ℤ) → n ≡ Some v → (pos 0 ≤ℤ v) × (v ≤ℤ most)) → option_and_then negated n ≡ Some z → IsWithin most z
opposite_in_range most None z within h = cc
opposite_in_range most (Some v) z within h =
    let range = within v refl in
    let same = negated_is v z h in
    record { low = rw (← same) (omega (arith, ints, range.0, range.1)); high = rw (← same) (omega (arith, ints, range.0, range.1)) }

signed_in_range : (most : ℤ) (bytes : List ℕ) (z : ℤ) → signed_up_to most bytes ≡ Some z → IsWithin most z
signed_in_range most [] z = λ h. cc
signed_in_range most (b ∷ bs) z = by (b == 45)
  where
    by : (minus : Bool) → (if minus then option_and_then negated (number_up_to most bs) else number_up_to most (b ∷ bs)) ≡ Some z → IsWithin most z
    by true h = opposite_in_range most (number_up_to most bs) z (number_in_range most bs) h
    by false h =
        let range = number_in_range most (b ∷ bs) z h in
        record { low = omega (arith, ints, range.0, range.1); high = range.1 }

five_pass : (a b c d f : Bool) (v w x y z : LogFault) → (if a then Some v else if b then Some w else if c then Some x else if d then Some y else if f then Some z else None) ≡ None
    → (a ≡ false) × (b ≡ false) × (c ≡ false) × (d ≡ false) × (f ≡ false)
five_pass true b c d f v w x y z h = cc
five_pass false true c d f v w x y z h = cc
five_pass false false true d f v w x y z h = cc
five_pass false false false true f v w x y z h = cc
five_pass false false false false true v w x y z h = cc
five_pass false false false false false v w x y z h = (refl, refl, refl, refl, refl)

-- no row of a list sends what is sent for the first time
not_sent : (rows : List Row) (e : EventKind) (name : List ℕ) (r : Row) (k : ℕ) (d : Row) → sends_again e rows name ≡ false → r.act ≡ act_of e name → k < length rows → SendSame (get_or rows k d) r → ⊥
not_sent rows event.Send name r k d new act within same =
    let second : Some name ≡ Some same.message = ap sent_by (sym act) ∙ same.second in
    let test : is_send_of name (get_or rows k d) ≡ true = rw same.first ((bytes_eq-Decides same.message name).1 (cc)) in
    let some = list_any_at (is_send_of name) rows k d within test in
    absurd (cc)
not_sent rows event.Set name r k d new act within same = absurd (cc (ap sent_by (sym act), same.second))
not_sent rows event.Clear name r k d new act within same = absurd (cc (ap sent_by (sym act), same.second))
not_sent rows event.Recv name r k d new act within same = absurd (cc (ap sent_by (sym act), same.second))
not_sent rows event.Note name r k d new act within same = absurd (cc (ap sent_by (sym act), same.second))
not_sent rows event.Pulse name r k d new act within same = absurd (cc (ap sent_by (sym act), same.second))

-- a row that has no fault may be added
pub begun_row : (place : ℕ) (log : Listing) (r : Row) (e : EventKind) (host local name : List ℕ) → IsBegun log → event_fault place log.hosts log.rows e host local name ≡ None
    → row_with log.hosts e host local name ≡ Some r → IsBegun (record { hosts = log.hosts; rows = log.rows ++ r ∷ []; resyncs = log.resyncs; latencies = log.latencies; clocks = log.clocks; readings = log.readings; bounds = log.bounds })
begun_row place log r e host local name begun clear h =
    let read = row_read log.hosts e host local name r h in
    let tests =
    five_pass (is_none (place_of_host log.hosts host)) (is_none (signed_up_to MAX_LOCAL local)) (not (is_name name)) (sends_again e log.rows name)
    (nat_le MAX_ROWS (length log.rows)) _ _ _ _ _ clear in
    let row : IsRow (length log.hosts) r = record {
      host = (position-Some (λ h. bytes_eq h.name host) log.hosts r.host (record { name = name; skew = pos 0; gap = pos 0; least = MIN_DELAY; most = None }) read.host).0;
      local = signed_in_range MAX_LOCAL local r.local read.local;
      named = rw (read.act, name_in-act_of e name) (named-true name tests.2);
    } in
    record {
      few_hosts = begun.few_hosts;
      few_rows = let room = tests.4 in grind (arith, nat_tests, length-append);
      names = begun.names;
      hosts = begun.hosts;
      rows = All-push (IsRow (length log.hosts)) log.rows r begun.rows row;
      sent_once = all_pairs_push (λ (q p : Row). SendSame q p → ⊥) log.rows r begun.sent_once (λ k d within same. not_sent log.rows e name r k d tests.3 read.act within same);
      resyncs =
          resyncs-more (length log.hosts) (length log.rows) (length log.hosts) (length (log.rows ++ r ∷ [])) log.resyncs (omega arith) (omega (arith, length-append log.rows (r ∷ []))) begun.resyncs;
      latencies = begun.latencies;
      clocks = begun.clocks;
      readings =
          readings-more (length log.hosts) (length log.rows) (length log.hosts) (length (log.rows ++ r ∷ [])) (length log.clocks) log.readings (omega arith) (omega (arith, length-append log.rows (r ∷ []))) begun.readings;
      few_bounds = begun.few_bounds;
      bounds = begun.bounds;
    }

some_host : (hosts : ℕ) (rows : List Row) → All (IsRow hosts) rows → 1 ≤ length rows → 1 ≤ hosts
some_host hosts [] all some = absurd (omega arith)
some_host hosts (r ∷ rs) all some = let row = all 0 r (omega arith) in omega (arith, row.host)

-- the fields of a resync that was read
resync_of_parts : (rows : ℕ) (o : Option ℕ) (s g : Option ℤ) (r : Resync)
    → option_and_then (λ h. option_and_then (λ x. option_map (λ y. let made : Resync = record { place = rows; host = h; skew = x; gap = y } in made) g) s) o ≡ Some r
    → (r.place ≡ rows) × (o ≡ Some r.host) × (s ≡ Some r.skew) × (g ≡ Some r.gap)
resync_of_parts rows None s g r e = absurd (cc)
resync_of_parts rows (Some h) None g r e = absurd (cc)
resync_of_parts rows (Some h) (Some x) None r e = absurd (cc)
resync_of_parts rows (Some h) (Some x) (Some y) r e = (
  ap (λ o. option_map_or (λ (q : Resync). q.place) o rows) (sym e),
  ap (λ o. Some (option_map_or (λ (q : Resync). q.host) o h)) e,
  ap (λ o. Some (option_map_or (λ (q : Resync). q.skew) o x)) e,
  ap (λ o. Some (option_map_or (λ (q : Resync). q.gap) o y)) e,
)

-- a resync that was read may be added
pub begun_resync : (log : Listing) (r : Resync) (host skew gap : List ℕ) → IsBegun log → resync_with log.hosts (length log.rows) host skew gap ≡ Some r
    → IsBegun (record { hosts = log.hosts; rows = log.rows; resyncs = log.resyncs ++ r ∷ []; latencies = log.latencies; clocks = log.clocks; readings = log.readings; bounds = log.bounds })
begun_resync log r host skew gap begun h =
    let read = resync_of_parts (length log.rows) (place_of_host log.hosts host) (number_up_to MAX_WRITTEN_SKEW skew) (number_up_to MAX_GAP gap) r h in
    let skews = number_in_range MAX_WRITTEN_SKEW skew r.skew read.2 in
    let gaps = number_in_range MAX_GAP gap r.gap read.3 in
    let found = (position-Some (λ h. bytes_eq h.name host) log.hosts r.host (record { name = host; skew = pos 0; gap = pos 0; least = MIN_DELAY; most = None }) read.1).0 in
    let one : IsResync (length log.hosts) (length log.rows) r = record {
      host = found;
      place = omega (arith, read.0);
      skew_low = skews.0;
      skew_high = omega (arith, ints, skews.1);
      gap_low = gaps.0;
      gap_high = gaps.1;
    } in
    record {
      few_hosts = begun.few_hosts;
      few_rows = begun.few_rows;
      names = begun.names;
      hosts = begun.hosts;
      rows = begun.rows;
      sent_once = begun.sent_once;
      resyncs = record {
        each = All-push (IsResync (length log.hosts) (length log.rows)) log.resyncs r begun.resyncs.each one;
        in_order =
            all_pairs_push (λ (q p : Resync). q.place ≤ p.place) log.resyncs r begun.resyncs.in_order (λ k d within. let before = begun.resyncs.each k d within in omega (arith, before.place, read.0));
      };
      latencies = begun.latencies;
      clocks = begun.clocks;
      readings = begun.readings;
      few_bounds = begun.few_bounds;
      bounds = begun.bounds;
    }

-- a delay that was read is at most the greatest
delay-high : (field : List ℕ) (n : ℕ) → delay_in field ≡ Some n → n ≤ MAX_DELAY
delay-high field n h = go (is_number field && nat_lt (digits_value 10 field) (suc MAX_DELAY)) refl h
  where
    go : (b : Bool) → (is_number field && nat_lt (digits_value 10 field) (suc MAX_DELAY)) ≡ b → (let o : Option ℕ = (if b then Some (digits_value 10 field) else None) in o) ≡ Some n → n ≤ MAX_DELAY
    go true is same =
        let low = (and_parts (is_number field) (nat_lt (digits_value 10 field) (suc MAX_DELAY)) is).1 in
        let value : digits_value 10 field ≡ n = ap (λ o. unwrap_or o n) same in
        let less = ltb-true (digits_value 10 field) (suc MAX_DELAY) low in
        omega (arith, value, less)
    go false is same = absurd (cc)

least-parts : (o : Option ℕ) (n : ℕ) → option_and_then (λ k. let p : Option ℕ = (if nat_le MIN_DELAY k then Some k else None) in p) o ≡ Some n → (o ≡ Some n) × (MIN_DELAY ≤ n)
least-parts None n h = absurd (cc)
least-parts (Some k) n h = go (nat_le MIN_DELAY k) refl h
  where
    go : (b : Bool) → nat_le MIN_DELAY k ≡ b → (let p : Option ℕ = (if b then Some k else None) in p) ≡ Some n → (Some k ≡ Some n) × (MIN_DELAY ≤ n)
    go true is same = let value : k ≡ n = ap (λ o. unwrap_or o n) same in let low = leb-true MIN_DELAY k is in (same, omega (arith, value, low))
    go false is same = absurd (cc)

greatest-high : (field : List ℕ) (m : Option ℕ) → greatest_in field ≡ Some m → IfSome m (λ most. most ≤ MAX_DELAY)
greatest-high field m h = go (bytes_eq field (codes "inf")) (delay_in field) refl h
  where
    go : (b : Bool) (o : Option ℕ) → delay_in field ≡ o → (let p : Option (Option ℕ) = (if b then Some None else option_map Some o) in p) ≡ Some m → IfSome m (λ most. most ≤ MAX_DELAY)
    go true o is same = let value : None ≡ m = ap (λ p. unwrap_or p m) same in rw (← value) tt
    go false None is same = absurd (cc)
    go false (Some n) is same = let value : Some n ≡ m = ap (λ p. unwrap_or p m) same in rw (← value) (delay-high field n is)

latency_of_parts : (host : List ℕ) (o : Option ℕ) (g : Option (Option ℕ)) (l : Latency)
    → option_and_then (λ x. option_map (λ m. let made : Latency = record { host = host; least = x; most = m } in made) g) o ≡ Some l
    → (o ≡ Some l.least) × (g ≡ Some l.most)
latency_of_parts host None g l e = absurd (cc)
latency_of_parts host (Some x) None l e = absurd (cc)
latency_of_parts host (Some x) (Some m) l e = (ap (λ o. Some (option_map_or (λ (k : Latency). k.least) o x)) e, ap (λ o. Some (option_map_or (λ (k : Latency). k.most) o m)) e)

-- a latency whose greatest delay is not below the least
not-empty : (least : ℕ) (most : Option ℕ) → option_map_or (λ m. nat_lt m least) most false ≡ false → IfSome most (λ m. least ≤ m)
not-empty least None h = tt
not-empty least (Some m) h = ltb-false m least h

-- a latency that has no fault may be added
pub begun_latency : (place : ℕ) (log : Listing) (l : Latency) (host least most : List ℕ) → IsBegun log
    → latency_fault place log.hosts log.latencies host least most ≡ None → latency_with host least most ≡ Some l
    → IsBegun (record { hosts = log.hosts; rows = log.rows; resyncs = log.resyncs; latencies = log.latencies ++ l ∷ []; clocks = log.clocks; readings = log.readings; bounds = log.bounds })
begun_latency place log l host least most begun clear h =
    let tests =
    four_pass (is_none (place_of_host log.hosts host)) (is_delayed log.latencies host) (is_none (least_in least) || is_none (greatest_in most))
    (option_map_or is_empty (latency_with host least most) false) _ _ _ _ clear in
    let read = latency_of_parts host (least_in least) (greatest_in most) l h in
    let parts = least-parts (delay_in least) l.least read.0 in
    let range : is_empty l ≡ false = ap (λ o. option_map_or is_empty o false) (sym h) ∙ tests.3 in
    let one : IsLatency l = record {
      least_low = parts.1;
      least_high = delay-high least l.least parts.0;
      most_low = not-empty l.least l.most range;
      most_high = greatest-high most l.most read.1;
    } in
    record {
      few_hosts = begun.few_hosts;
      few_rows = begun.few_rows;
      names = begun.names;
      hosts = begun.hosts;
      rows = begun.rows;
      sent_once = begun.sent_once;
      resyncs = begun.resyncs;
      latencies = All-push IsLatency log.latencies l begun.latencies one;
      clocks = begun.clocks;
      readings = begun.readings;
      few_bounds = begun.few_bounds;
      bounds = begun.bounds;
    }

-- the fields of a reading that was read
reading_of_parts : (rows clock : ℕ) (o : Option ℕ) (e : Option ℤ) (r : Reading)
    → option_and_then (λ h. option_map (λ x. let made : Reading = record { place = rows; host = h; error = x; clock = clock } in made) e) o ≡ Some r
    → (r.place ≡ rows) × (o ≡ Some r.host) × (e ≡ Some r.error) × (r.clock ≡ clock)
reading_of_parts rows clock None e r is = absurd (cc)
reading_of_parts rows clock (Some h) None r is = absurd (cc)
reading_of_parts rows clock (Some h) (Some x) r is = (
  ap (λ o. option_map_or (λ (q : Reading). q.place) o rows) (sym is),
  ap (λ o. Some (option_map_or (λ (q : Reading). q.host) o h)) is,
  ap (λ o. Some (option_map_or (λ (q : Reading). q.error) o x)) is,
  ap (λ o. option_map_or (λ (q : Reading). q.clock) o clock) (sym is),
)

-- readings of a log with one more at the end, of a clock that there was or of the next one
module _ (hosts rows clocks : ℕ) (rs : List Reading) (r : Reading) (are : AreReadings hosts rows clocks rs) where
  in_order-push : r.place ≡ rows → AllPairs (λ q p. q.place ≤ p.place) (rs ++ r ∷ [])
  in_order-push last = all_pairs_push (λ (q p : Reading). q.place ≤ p.place) rs r are.in_order (λ k d within. let before = are.each k d within in omega (arith, before.place, last))

  in_turn-push : r.clock ≤ clocks → AreInTurn (rs ++ r ∷ [])
  in_turn-push most i k d low less = elim (cases_eq i (length rs)) [
    | inl same ↦
        let at : get_or (rs ++ r ∷ []) i d ≡ r = ap (λ n. get_or (rs ++ r ∷ []) n d) same ∙ get_or-append_seam rs r [] d in
        let all : take i (rs ++ r ∷ []) ≡ rs = ap (λ n. take n (rs ++ r ∷ [])) same ∙ take-append_seam rs (r ∷ []) in
        rw all (are.read k (let below = rw at at less in omega (arith, below, most)))
    | inr other ↦
        let within : i < length rs = let n = rw (length-append rs (r ∷ [])) at low in omega (arith, n, other) in
        let at : get_or (rs ++ r ∷ []) i d ≡ get_or rs i d = get_or_append_left rs (r ∷ []) d i within in
        let some : take i (rs ++ r ∷ []) ≡ take i rs = take-append-le i rs (r ∷ []) (omega (arith, within)) in
        rw some (are.in_turn i k d within (rw at at less))
  ]

  read-kept : (k : ℕ) → IsRead k rs → IsRead k (rs ++ r ∷ [])
  read-kept k (i, y, within, at, is) = (i, y, simp length-append (omega (arith, within)), get_or_append_left rs (r ∷ []) y i within ∙ at, is)

  read-pushed : IsRead r.clock (rs ++ r ∷ [])
  read-pushed = (length rs, r, simp length-append (omega arith), get_or-append_seam rs r [] r, refl)

  readings-again : r.clock < clocks → IsReading hosts rows clocks r → r.place ≡ rows → AreReadings hosts rows clocks (rs ++ r ∷ [])
  readings-again below is last = record {
    each = All-push (IsReading hosts rows clocks) rs r are.each is;
    in_order = in_order-push last;
    in_turn = in_turn-push (omega (arith, below));
    read = λ k less. read-kept k (are.read k less);
  }

  readings-next : r.clock ≡ clocks → IsReading hosts rows (suc clocks) r → r.place ≡ rows → AreReadings hosts rows (suc clocks) (rs ++ r ∷ [])
  readings-next same is last = record {
    each =
        All-push (IsReading hosts rows (suc clocks)) rs r
        (λ k d within. let q = are.each k d within in record { host = q.host; place = q.place; clock = omega (arith, q.clock); error_low = q.error_low; error_high = q.error_high }) is;
    in_order = in_order-push last;
    in_turn = in_turn-push (omega (arith, same));
    read = λ k less. elim (cases_eq k clocks) [
      | inl one ↦ subst (λ n. IsRead n (rs ++ r ∷ [])) (same ∙ sym one) read-pushed
      | inr other ↦ read-kept k (are.read k (omega (arith, less, other)))
    ];
  }

-- the names of clocks stay apart with a new one
names-push : (clocks : List (List ℕ)) (name : List ℕ) → AreClockNames clocks → length clocks < MAX_CLOCKS → is_name name ≡ true → place_of_clock clocks name ≡ None → AreClockNames (clocks ++ name ∷ [])
names-push clocks name are room is new = record {
  few = omega (arith, room, length-append clocks (name ∷ []));
  named = All-push (λ (n : List ℕ). is_name n ≡ true) clocks name are.named is;
  apart =
      all_pairs_push (λ (m n : List ℕ). n ≡ m → ⊥) clocks name are.apart
      (λ k d within same.
      let none = All-position_none (λ n. bytes_eq n name) clocks new k d within in
      let test : bytes_eq (get_or clocks k d) name ≡ true = (bytes_eq-Decides (get_or clocks k d) name).1 (sym same) in
      absurd (cc));
}

-- a reading may be added, of the clock at a place or of a new one of a name
begun_read : (log : Listing) (r : Reading) (name : List ℕ) (o : Option ℕ) → IsBegun log → r.host < length log.hosts → r.place ≡ length log.rows → pos 0 ≤ℤ r.error → r.error ≤ℤ MAX_ERROR → is_name name ≡ true
    → place_of_clock log.clocks name ≡ o → (is_none o && nat_le MAX_CLOCKS (length log.clocks)) ≡ false → r.clock ≡ unwrap_or o (length log.clocks)
    → IsBegun (record {
      hosts = log.hosts;
      rows = log.rows;
      resyncs = log.resyncs;
      latencies = log.latencies;
      clocks = log.clocks ++ option_to_list (let n : Option (List ℕ) = (if is_some o then None else Some name) in n);
      readings = log.readings ++ r ∷ [];
      bounds = log.bounds;
    })
begun_read log r name (Some k) begun host place low high is found room clock =
    let below = (position-Some (λ n. bytes_eq n name) log.clocks k name found).0 in
    let one : IsReading (length log.hosts) (length log.rows) (length log.clocks) r =
    record { host = host; place = omega (arith, place); clock = omega (arith, clock, below); error_low = low; error_high = high } in
    rw (append-nil log.clocks) (record {
      few_hosts = begun.few_hosts;
      few_rows = begun.few_rows;
      names = begun.names;
      hosts = begun.hosts;
      rows = begun.rows;
      sent_once = begun.sent_once;
      resyncs = begun.resyncs;
      latencies = begun.latencies;
      clocks = begun.clocks;
      readings = readings-again (length log.hosts) (length log.rows) (length log.clocks) log.readings r begun.readings (omega (arith, clock, below)) one place;
      few_bounds = begun.few_bounds;
      bounds = begun.bounds;
    })
begun_read log r name None begun host place low high is found room clock =
    let below : length log.clocks < MAX_CLOCKS = grind (arith, nat_tests) in
    let count : length (log.clocks ++ name ∷ []) ≡ suc (length log.clocks) = let sum = length-append log.clocks (name ∷ []) in omega (arith, sum) in
    let one : IsReading (length log.hosts) (length log.rows) (suc (length log.clocks)) r =
    record { host = host; place = omega (arith, place); clock = omega (arith, clock); error_low = low; error_high = high } in
    record {
      few_hosts = begun.few_hosts;
      few_rows = begun.few_rows;
      names = begun.names;
      hosts = begun.hosts;
      rows = begun.rows;
      sent_once = begun.sent_once;
      resyncs = begun.resyncs;
      latencies = begun.latencies;
      clocks = names-push log.clocks name begun.clocks below is found;
      readings = rw count (readings-next (length log.hosts) (length log.rows) (length log.clocks) log.readings r begun.readings clock one place);
      few_bounds = begun.few_bounds;
      bounds = begun.bounds;
    }

-- a reading that has no fault may be added, with the name of its clock where that is a new one
pub begun_clock : (place : ℕ) (log : Listing) (r : Reading) (host error name : List ℕ) → IsBegun log → clock_fault place log.hosts log.clocks host error name ≡ None
    → reading_with log.hosts log.clocks (length log.rows) host error name ≡ Some r
    → IsBegun (record {
      hosts = log.hosts;
      rows = log.rows;
      resyncs = log.resyncs;
      latencies = log.latencies;
      clocks = log.clocks ++ option_to_list (new_clock log.clocks name);
      readings = log.readings ++ r ∷ [];
      bounds = log.bounds;
    })
begun_clock place log r host error name begun clear h =
    let read = reading_of_parts (length log.rows) (clock_named log.clocks name) (place_of_host log.hosts host) (number_up_to MAX_ERROR error) r h in
    let tests =
    four_pass (is_none (place_of_host log.hosts host)) (is_none (number_up_to MAX_ERROR error)) (not (is_name name))
    (is_none (place_of_clock log.clocks name) && nat_le MAX_CLOCKS (length log.clocks)) _ _ _ _ clear in
    let errors = number_in_range MAX_ERROR error r.error read.2 in
    let found = (position-Some (λ h. bytes_eq h.name host) log.hosts r.host (record { name = host; skew = pos 0; gap = pos 0; least = MIN_DELAY; most = None }) read.1).0 in
    begun_read log r name (place_of_clock log.clocks name) begun found read.0 errors.0 errors.1 (named-true name tests.2) refl tests.3 read.3

no_parts : (rows clock : ℕ) (o : Option ℕ) (e : Option ℤ) → option_and_then (λ h. option_map (λ x. let made : Reading = record { place = rows; host = h; error = x; clock = clock } in made) e) o ≡ None
    → is_none o ≡ false → is_none e ≡ false → ⊥
no_parts rows clock None e is some known = absurd (cc)
no_parts rows clock (Some h) None is some known = absurd (cc)
no_parts rows clock (Some h) (Some x) is some known = absurd (cc)

-- a clock record without a fault gives a reading
pub no_reading : (place : ℕ) (log : Listing) (host error name : List ℕ) → clock_fault place log.hosts log.clocks host error name ≡ None
    → reading_with log.hosts log.clocks (length log.rows) host error name ≡ None → ⊥
no_reading place log host error name clear none =
    let tests =
    four_pass (is_none (place_of_host log.hosts host)) (is_none (number_up_to MAX_ERROR error)) (not (is_name name))
    (is_none (place_of_clock log.clocks name) && nat_le MAX_CLOCKS (length log.clocks)) _ _ _ _ clear in
    no_parts (length log.rows) (clock_named log.clocks name) (place_of_host log.hosts host) (number_up_to MAX_ERROR error) none tests.0 tests.1

-- the fields of a bound that was read
bound_of_parts : (e f : Option ℕ) (c : Option ℤ) (x : Extra)
    → option_and_then (λ a. option_and_then (λ b. option_map (λ y. let made : Extra = record { e = a; f = b; c = y } in made) c) f) e ≡ Some x
    → (e ≡ Some x.e) × (f ≡ Some x.f) × (c ≡ Some x.c)
bound_of_parts None f c x is = absurd (cc)
bound_of_parts (Some a) None c x is = absurd (cc)
bound_of_parts (Some a) (Some b) None x is = absurd (cc)
bound_of_parts (Some a) (Some b) (Some y) x is = (
  ap (λ o. Some (option_map_or (λ (q : Extra). q.e) o a)) is,
  ap (λ o. Some (option_map_or (λ (q : Extra). q.f) o b)) is,
  ap (λ o. Some (option_map_or (λ (q : Extra). q.c) o y)) is,
)

three_pass : (a b c : Bool) (w x y : LogFault) → (if a then Some w else if b then Some x else if c then Some y else None) ≡ None → (a ≡ false) × (b ≡ false) × (c ≡ false)
three_pass true b c w x y h = cc
three_pass false true c w x y h = cc
three_pass false false true w x y h = cc
three_pass false false false w x y h = (refl, refl, refl)

-- a bound that has no fault may be added
pub begun_bound : (place : ℕ) (log : Listing) (x : Extra) (later earlier most : List ℕ) → IsBegun log → bound_fault place log.bounds later earlier most ≡ None → bound_with later earlier most ≡ Some x
    → IsBegun (record { hosts = log.hosts; rows = log.rows; resyncs = log.resyncs; latencies = log.latencies; clocks = log.clocks; readings = log.readings; bounds = log.bounds ++ x ∷ [] })
begun_bound place log x later earlier most begun clear h =
    let read = bound_of_parts (row_number later) (row_number earlier) (signed_up_to MAX_EXTRA most) x h in
    let tests =
    three_pass (is_none (row_number later) || is_none (row_number earlier) || is_none (signed_up_to MAX_EXTRA most))
    (option_map_or is_of_one_row (bound_with later earlier most) false) (nat_le MAX_WRITTEN_EXTRAS (length log.bounds)) _ _ _ clear in
    let other : (x.e == x.f) ≡ false = ap (λ o. option_map_or is_of_one_row o false) (sym h) ∙ tests.1 in
    record {
      few_hosts = begun.few_hosts;
      few_rows = begun.few_rows;
      names = begun.names;
      hosts = begun.hosts;
      rows = begun.rows;
      sent_once = begun.sent_once;
      resyncs = begun.resyncs;
      latencies = begun.latencies;
      clocks = begun.clocks;
      readings = begun.readings;
      few_bounds = let room = tests.2 in grind (arith, nat_tests, length-append);
      bounds =
          All-push IsBound log.bounds x begun.bounds (record { apart = eqb-false x.e x.f other; bound = signed_in_range MAX_EXTRA most x.c read.2 });
    }

-- a bound of two rows has no fault where there is room
pub bound-clear : (place : ℕ) (bounds : List Extra) (x : Extra) (later earlier most : List ℕ) → bound_with later earlier most ≡ Some x → (x.e == x.f) ≡ false → length bounds < MAX_WRITTEN_EXTRAS
    → bound_fault place bounds later earlier most ≡ None
bound-clear place bounds x later earlier most h other room =
    let read = bound_of_parts (row_number later) (row_number earlier) (signed_up_to MAX_EXTRA most) x h in
    let free : nat_le MAX_WRITTEN_EXTRAS (length bounds) ≡ false = lt-leb MAX_WRITTEN_EXTRAS (length bounds) room in
    rw (read.0, read.1, read.2, other, free) refl

-- what a clock record gives that has no fault may be added
pub begun_entry : (place : ℕ) (log : Listing) (e : ClockEntry) (host error name : List ℕ) (clocks : List (List ℕ)) (readings : List Reading) → IsBegun log
    → clock_fault place log.hosts log.clocks host error name ≡ None → clock_entry_with log.hosts log.clocks (length log.rows) host error name ≡ Some e
    → clocks ≡ log.clocks ++ option_to_list e.named → readings ≡ log.readings ++ e.reading ∷ []
    → IsBegun (record { hosts = log.hosts; rows = log.rows; resyncs = log.resyncs; latencies = log.latencies; clocks = clocks; readings = readings; bounds = log.bounds })
begun_entry place log e host error name clocks readings begun clear h named read =
    let parts = entry_parts (new_clock log.clocks name) (reading_with log.hosts log.clocks (length log.rows) host error name) e h in
    let names : clocks ≡ log.clocks ++ option_to_list (new_clock log.clocks name) = named ∙ ap (λ o. log.clocks ++ option_to_list o) (sym parts.1) in
    rw (names, read) (begun_clock place log e.reading host error name begun clear parts.0)

-- a host with delays that are stated of it
delayed-host : (latencies : List Latency) (h : Host) → All IsLatency latencies → IsHost h → IsHost (delayed latencies h)
delayed-host latencies h all host = go (latency_of latencies h.name) refl
  where
    go : (o : Option Latency) → latency_of latencies h.name ≡ o → IsHost (delayed_by o h)
    go None is = host
    go (Some l) is =
        let stated = at-place IsLatency latencies (position_or_len (λ k. bytes_eq k.host h.name) latencies) l all (sym (find_at (λ k. bytes_eq k.host h.name) latencies) ∙ is) in
        record {
          called = host.called;
          name = host.name;
          skew_low = host.skew_low;
          skew_high = host.skew_high;
          gap_low = host.gap_low;
          gap_high = host.gap_high;
          delays = record { least_low = stated.least_low; least_high = stated.least_high; most_low = stated.most_low; most_high = stated.most_high };
        }

delayed-name : (o : Option Latency) (h : Host) → (delayed_by o h).name ≡ h.name
delayed-name None h = refl
delayed-name (Some l) h = refl

-- what was read is a valid log, where it has a row and each message that is received is sent
pub finished : (log : Listing) → IsBegun log → 1 ≤ length log.rows → All (λ r. IfSome (received_by r.act) (IsSent log.rows)) log.rows
    → All (λ (x : Extra). (x.e < length log.rows) × (x.f < length log.rows)) log.bounds → IsLog (log_from log)
finished log begun some sent placed =
    let delay = delayed log.latencies in
    let same : length (map delay log.hosts) ≡ length log.hosts = length-map log.hosts delay in
    record {
      some_hosts = rw same (some_host (length log.hosts) log.rows begun.rows some);
      few_hosts = rw same begun.few_hosts;
      some_rows = some;
      few_rows = begun.few_rows;
      few_extras = let few = begun.few_bounds in omega (arith, few);
      names = λ i j d before within.
          let below : j < length log.hosts = rw same at within in
          let first : i < length log.hosts = omega arith in
          rw (
            get_or-map delay log.hosts i d d first,
            get_or-map delay log.hosts j d d below,
            delayed-name
                (latency_of log.latencies (get_or log.hosts i d).name) (get_or log.hosts i d),
            delayed-name
                (latency_of log.latencies (get_or log.hosts j d).name) (get_or log.hosts j d),
          )
          (begun.names i j d before below);
      hosts = λ k d within.
          let below : k < length log.hosts = rw same at within in
          rw (get_or-map delay log.hosts k d d below) (delayed-host log.latencies (get_or log.hosts k d) begun.latencies (begun.hosts k d below));
      rows = rw same (record { each = begun.rows; sent_once = begun.sent_once; sent = sent });
      resyncs = rw same begun.resyncs;
      clocks = begun.clocks;
      readings = rw same begun.readings;
      extras = λ k d within. let x = begun.bounds k d within in let has = placed k d within in record { e = has.0; f = has.1; apart = x.apart; bound = x.bound };
    }
