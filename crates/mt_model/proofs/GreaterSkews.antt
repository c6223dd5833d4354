-- A log whose skews grow stays valid.
use Rattle.std.proofs.Common.{◌≡◌, ℕ, ◌<◌, ◌≤◌, List, [], ◌∷◌, length, map, get_or, All, ℤ, pos, ◌+ℤ◌, ◌≤ℤ◌, arith}
use Rattle.std.specs.Prelude.{AllPairs}
use Rattle.std.proofs.lemmas.Int.{ints}
use Rattle.std.proofs.lemmas.List.{get_or-map, length-map}
use Rattle.std.proofs.lemmas.List.Elements.{All-head}
use Rattle.mt_model.specs.declared.log.Host.{Host}
use Rattle.mt_model.specs.declared.resync.Resync.{Resync}
use Rattle.mt_model.specs.declared.limits.TheConstants.{MAX_SKEW}
use Rattle.mt_model.specs.Log.{AreResyncs, IsHost, IsLog, IsResync, IsWithin, Logged, widened, widened_host, widened_resync}

module _ (s : ℤ) (low : pos 0 ≤ℤ s) where
  abbrev pub HasRoom : Host → Type 0
  HasRoom h = (h.skew +ℤ s) ≤ℤ MAX_SKEW

  abbrev pub HasRoomAfter : Resync → Type 0
  HasRoomAfter r = (r.skew +ℤ s) ≤ℤ MAX_SKEW

  -- there is a host, and its skew is at least 0
  pub least-room : (hosts : List Host) → 1 ≤ length hosts → All IsHost hosts → All HasRoom hosts → s ≤ℤ MAX_SKEW
  least-room [] some each room = absurd (omega arith)
  least-room (h ∷ hs) some each room =
      let host = All-head IsHost h hs each in
      let here = All-head HasRoom h hs room in
      omega (arith, ints, here, host.skew_low)

  host-widened : (h : Host) → IsHost h → HasRoom h → IsHost (widened_host s h)
  host-widened h host room = record {
    called = host.called;
    name = host.name;
    skew_low = omega (arith, ints, host.skew_low);
    skew_high = room;
    gap_low = host.gap_low;
    gap_high = host.gap_high;
    delays = record {
      least_low = host.delays.least_low;
      least_high = host.delays.least_high;
      most_low = host.delays.most_low;
      most_high = host.delays.most_high;
    };
  }

  hosts-widened : (hosts : List Host) → All IsHost hosts → All HasRoom hosts → All IsHost (map (widened_host s) hosts)
  hosts-widened hosts each room k d within =
      let below : k < length hosts = rw length-map at within in
      rw (get_or-map (widened_host s) hosts k d d below) (host-widened (get_or hosts k d) (each k d below) (room k d below))

  names-widened : (hosts : List Host) → AllPairs (λ g h. h.name ≡ g.name → ⊥) hosts → AllPairs (λ g h. h.name ≡ g.name → ⊥) (map (widened_host s) hosts)
  names-widened hosts apart i j d before within =
      let below : j < length hosts = rw length-map at within in
      let first : i < length hosts = omega arith in
      rw (get_or-map (widened_host s) hosts i d d first, get_or-map (widened_host s) hosts j d d below) (apart i j d before below)

  pub skews-within : (hosts rows : ℕ) (rs : List Resync) → All (IsResync hosts rows) rs → All (λ r. IsWithin MAX_SKEW r.skew) rs
  skews-within hosts rows rs each k d within =
      let resync = each k d within in
      record { low = omega (arith, ints, resync.skew_low); high = resync.skew_high }

  resync-widened : (hosts rows : ℕ) (r : Resync) → IsResync hosts rows r → HasRoomAfter r → IsResync hosts rows (widened_resync s r)
  resync-widened hosts rows r resync room = record {
    host = resync.host;
    place = resync.place;
    skew_low = omega (arith, ints, resync.skew_low);
    skew_high = room;
    gap_low = resync.gap_low;
    gap_high = resync.gap_high;
  }

  resyncs-widened : (hosts rows : ℕ) (rs : List Resync) → AreResyncs hosts rows rs → All HasRoomAfter rs → AreResyncs hosts rows (map (widened_resync s) rs)
  resyncs-widened hosts rows rs are room = record {
    each = λ k d within. let below : k < length rs = rw length-map at within in
        rw (get_or-map (widened_resync s) rs k d d below) (resync-widened hosts rows (get_or rs k d) (are.each k d below) (room k d below));
    in_order = λ i j d before within. let below : j < length rs = rw length-map at within in
        let first : i < length rs = omega arith in
        rw (get_or-map (widened_resync s) rs i d d first, get_or-map (widened_resync s) rs j d d below) (are.in_order i j d before below);
  }

  pub log-widened : (log : Logged) → IsLog log → All HasRoom log.hosts → All HasRoomAfter log.resyncs → IsLog (widened s log)
  log-widened log valid room room_after = record {
    some_hosts = simp length-map valid.some_hosts;
    few_hosts = simp length-map valid.few_hosts;
    some_rows = valid.some_rows;
    few_rows = valid.few_rows;
    few_extras = valid.few_extras;
    names = names-widened log.hosts valid.names;
    hosts = hosts-widened log.hosts valid.hosts room;
    rows = simp length-map valid.rows;
    resyncs = simp length-map (resyncs-widened (length log.hosts) (length log.rows) log.resyncs valid.resyncs room_after);
    clocks = valid.clocks;
    readings = simp length-map valid.readings;
    extras = valid.extras;
  }
