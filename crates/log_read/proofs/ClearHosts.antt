-- The records of the hosts of a log's text pass each test.
use Rattle.std.proofs.Common.{◌≡◌, ◌∙◌, sym, ap, refl, subst, arith, ℕ, ◌<◌, ◌≤◌, Bool, false, List, [], ◌∷◌, ◌++◌, length, length-append, map, Some, None, append_assoc}
use Rattle.std.specs.Prelude.{All, if◌then◌else◌, is_none, nat_le, not, ◌||◌, bytes_eq, option_to_list}
use Rattle.std.specs.Fmt.{signed_decimal}
use Rattle.std.proofs.lemmas.Bool.{false_from_ne_true, lt-leb}
use Rattle.std.proofs.lemmas.Int.{ints}
use Rattle.std.proofs.lemmas.List.{append-nil, get_or-map, length-map, map_push}
use Rattle.std.proofs.lemmas.List.Folds.{list_any_none}
use Rattle.std.proofs.lemmas.Slice.Eq.{bytes_eq-Decides}
use Rattle.mt_model.specs.declared.log.Host.{Host}
use Rattle.mt_model.specs.declared.limits.TheConstants.{MAX_HOSTS, MAX_WRITTEN_SKEW, MAX_GAP}
use Rattle.mt_model.specs.Name.{is_name, is_reserved}
use Rattle.log_read.specs.declared.fault.LogFault.{LogFault}
use Rattle.decimal.specs.Numbers.{number_up_to}
use Rattle.log_read.specs.declared.version.Version.{Version}
use Rattle.log_read.specs.Records.{Listing}
use Rattle.log_read.specs.Reading.{with_record}
use Rattle.log_read.specs.LogOf.{fault_of, is_declared}
use Rattle.log_read.specs.LogText.{host_fields}
use Rattle.log_read.proofs.Listing.{listing}
use Rattle.log_read.proofs.Middles.{All-middle, AllPairs-middle}
use Rattle.decimal.proofs.Printed.{number-printed}
use Rattle.log_read.proofs.Runs.{Runs, known-host, runs-cons, runs-none}
use Rattle.log_read.proofs.WrittenRecords.{AreDistinct, IsWritable, bare, host_in-fields}

-- where each of the tests passes, there is no fault
pub four_clear : (a b c d : Bool) (w x y z : LogFault) → a ≡ false → b ≡ false → c ≡ false → d ≡ false
    → (if a then Some w else if b then Some x else if c then Some y else if d then Some z else None) ≡ None
four_clear a b c d w x y z p q r s = rw (p, q, r, s) refl

-- hosts that a text can state together
pub record AreHosts (hosts : List Host) : Type 0 where
  pub few : length hosts ≤ MAX_HOSTS
  pub distinct : AreDistinct hosts
  pub each : All IsWritable hosts

-- what the records of hosts list
abbrev pub hosts_listing : List Host → Listing
hosts_listing hosts = listing (map bare hosts) [] [] [] [] [] []

module _ (v : Version) (before : List Host) (h : Host) (after : List Host) (hosts : AreHosts (before ++ h ∷ after)) where
  -- its name is a new one
  new-host : is_declared (map bare before) h.name ≡ false
  new-host =
      let others = AllPairs-middle (λ (g k : Host). k.name ≡ g.name → ⊥) before h after hosts.distinct in
      list_any_none (λ g. bytes_eq g.name h.name) (map bare before)
      (λ k d within.
      let below : k < length before = rw length-map at within in
      rw (get_or-map bare before k d d below) (false_from_ne_true _ (λ same. others k d below (sym ((bytes_eq-Decides _ h.name).0 same)))))

  -- so its record has no fault
  host-clear : (place : ℕ) → fault_of v place (hosts_listing before) (host_fields h) ≡ None
  host-clear place =
      let is = All-middle IsWritable before h after hosts.each in
      let room : nat_le MAX_HOSTS (length (map bare before)) ≡ false =
      let few = hosts.few in let sum = length-append before (h ∷ after) in let same = length-map before bare in lt-leb _ _ (omega (arith, few, sum, same)) in
      let skew = number-printed MAX_WRITTEN_SKEW h.skew (omega (arith, ints)) is.valid.skew_low is.skew in
      let gap = number-printed MAX_GAP h.gap (omega (arith, ints)) is.valid.gap_low is.valid.gap_high in
      let named : (not (is_name h.name) || is_reserved h.name) ≡ false = rw (is.name, is.valid.name) refl in
      let numbers : (is_none (number_up_to MAX_WRITTEN_SKEW (signed_decimal h.skew)) || is_none (number_up_to MAX_GAP (signed_decimal h.gap))) ≡ false = rw (skew, gap) refl in
      rw (known-host v) (four_clear _ _ _ _ _ _ _ _ named new-host room numbers)

  host-step : with_record (hosts_listing before) (host_fields h) ≡ hosts_listing (before ++ h ∷ [])
  host-step =
      let is = All-middle IsWritable before h after hosts.each in
      let made = λ (hs : List Host). listing hs [] [] [] [] [] [] in
      ap (λ o. made (map bare before ++ option_to_list o)) (host_in-fields h is) ∙ ap made (sym (map_push bare before h))

-- the records of hosts are read as the hosts
pub hosts-run : (v : Version) (before after : List Host) → AreHosts (before ++ after) → Runs v (hosts_listing before) (map host_fields after) (hosts_listing (before ++ after))
hosts-run v before [] hosts = rw (append-nil before) (runs-none v (hosts_listing before))
hosts-run v before (h ∷ hs) hosts =
    let more = hosts-run v (before ++ h ∷ []) hs (subst AreHosts (sym (append_assoc before (h ∷ []) hs)) hosts) in
    let rest = rw (append_assoc before (h ∷ []) hs) at more in
    runs-cons v (hosts_listing before) (hosts_listing (before ++ h ∷ [])) (hosts_listing (before ++ h ∷ hs)) (host_fields h) (map host_fields hs)
    (host-clear v before h hs hosts) (host-step v before h hs hosts) rest
