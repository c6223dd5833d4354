-- The records of the latencies of a log's text pass each test, and give each host its delays back.
use Rattle.std.proofs.Common.{◌≡◌, ◌∙◌, sym, ap, refl, arith, ℕ, suc, ◌+◌, ◌≤◌, ◌==◌, Bool, true, false, cond, List, [], ◌∷◌, ◌++◌, ◌-◌, length, length-append, get_or, map, Option, Some, None, append_assoc}
use Rattle.std.specs.Prelude.{All, IfSome, bytes_eq, codes, filter, find, is_none, is_some, nat_lt, not, option_to_list, ◌||◌}
use Rattle.std.specs.Option.{option_map_or, option_or}
use Rattle.std.specs.Fmt.{decimal}
use Rattle.std.proofs.lemmas.Bool.{eqb-true, false_from_ne_true, le-leb, le-ltb}
use Rattle.std.proofs.lemmas.List.{append-nil, get_or_at, map-append}
use Rattle.std.proofs.Math.Seq.{get_or-append_right}
use Rattle.std.proofs.lemmas.List.Elements.{All-filter, All-map, filter-append}
use Rattle.std.proofs.lemmas.List.Folds.{find-append, list_any_none}
use Rattle.std.proofs.lemmas.Slice.Eq.{bytes_eq-Decides}
use Rattle.mt_model.specs.declared.log.Host.{Host}
use Rattle.mt_model.specs.declared.limits.TheConstants.{MAX_DELAY, MIN_DELAY}
use Rattle.mt_model.specs.Log.{HasDelays}
use Rattle.decimal.proofs.Printed.{number-below-printed}
use Rattle.log_read.specs.declared.latency.Latency.{Latency}
use Rattle.log_read.specs.declared.kind.Kind.TheVariants as kind
use Rattle.log_read.specs.declared.version.Version.{Version}
use Rattle.log_read.specs.LogOf.{fault_of, is_delayed, is_empty, known_in}
use Rattle.log_read.specs.LogText.{has_latency, latency_fields, most_text}
use Rattle.log_read.specs.Reading.{with_record}
use Rattle.log_read.specs.Records.{Listing, delay_in, delayed, delayed_by, greatest_in, latency_in, latency_of, latency_with, least_in, place_of_host, with_delays}
use Rattle.mt_model.proofs.HostSpans.{find-none}
use Rattle.log_read.proofs.ClearHosts.{AreHosts, four_clear}
use Rattle.log_read.proofs.Listing.{listing}
use Rattle.log_read.proofs.Middles.{All-middle, AllPairs-middle}
use Rattle.log_read.proofs.Runs.{Runs, runs-cons, runs-none}
use Rattle.log_read.proofs.WrittenRecords.{AreDistinct, IsWritable, bare, host_name-at, place-bare}

-- the latency of a host
abbrev pub latency_from : Host → Latency
latency_from h = record { host = h.name; least = h.least; most = h.most }

-- the latencies of the hosts that have one
abbrev pub stated : List Host → List Latency
stated hosts = map latency_from (filter has_latency hosts)

-- hosts of other names state no latency of this name
stated-others : (hosts : List Host) (name : List ℕ) → All (λ g. bytes_eq g.name name ≡ false) hosts → All (λ l. bytes_eq l.host name ≡ false) (stated hosts)
stated-others hosts name all =
    All-map (λ (l : Latency). bytes_eq l.host name ≡ false) latency_from (filter has_latency hosts) (All-filter has_latency (λ (g : Host). bytes_eq g.name name ≡ false) hosts all)

stated-none : (hosts : List Host) (name : List ℕ) → All (λ g. bytes_eq g.name name ≡ false) hosts → latency_of (stated hosts) name ≡ None
stated-none hosts name all = find-none (λ l. bytes_eq l.host name) (stated hosts) (stated-others hosts name all)

stated-append : (xs ys : List Host) → stated (xs ++ ys) ≡ stated xs ++ stated ys
stated-append xs ys = ap (map latency_from) (filter-append has_latency xs ys) ∙ map-append latency_from (filter has_latency xs) (filter has_latency ys)

-- a delay that was printed is read as it was
delay-printed : (n : ℕ) → n ≤ MAX_DELAY → delay_in (decimal n) ≡ Some n
delay-printed n high = number-below-printed (suc MAX_DELAY) n (omega arith) (omega (arith, high))

least-printed : (n : ℕ) → MIN_DELAY ≤ n → n ≤ MAX_DELAY → least_in (decimal n) ≡ Some n
least-printed n low high = let test = le-leb MIN_DELAY n low in rw (delay-printed n high, test) refl

-- no number is printed as `inf`
not_inf : (n : ℕ) → n ≤ MAX_DELAY → bytes_eq (decimal n) (codes "inf") ≡ false
not_inf n high = false_from_ne_true _ (λ same.
    let is : decimal n ≡ codes "inf" = (bytes_eq-Decides (decimal n) (codes "inf")).0 same in
    let read = ap delay_in (sym is) ∙ delay-printed n high in
    let none : None ≡ Some n = read in
    absurd (cc none))

most-printed : (m : Option ℕ) → IfSome m (λ most. most ≤ MAX_DELAY) → greatest_in (most_text m) ≡ Some m
most-printed None high = refl
most-printed (Some n) high = let test = not_inf n high in rw (test, delay-printed n high) refl

-- a greatest delay is not below the least
not-empty : (least : ℕ) (most : Option ℕ) → IfSome most (λ m. least ≤ m) → option_map_or (λ m. nat_lt m least) most false ≡ false
not-empty least None low = refl
not-empty least (Some m) low = le-ltb m least low

module _ (h : Host) (delays : HasDelays h) where
  -- the record of a latency states it
  pub stated-read : latency_with h.name (decimal h.least) (most_text h.most) ≡ Some (latency_from h)
  stated-read = rw (least-printed h.least delays.least_low delays.least_high, most-printed h.most delays.most_high) refl

module _ (before : List Host) (h : Host) (after : List Host) (hosts : AreHosts (before ++ h ∷ after)) where
  names-before : All (λ g. bytes_eq g.name h.name ≡ false) before
  names-before k d within =
      let others = AllPairs-middle (λ (g k : Host). k.name ≡ g.name → ⊥) before h after hosts.distinct in
      false_from_ne_true _ (λ same. others k d within (sym ((bytes_eq-Decides _ h.name).0 same)))

  -- the hosts of a log before their latencies, with the latencies of the first ones
  abbrev pub latencies_listing : List Host → Listing
  latencies_listing some = listing (map bare (before ++ h ∷ after)) [] [] (stated some) [] [] []

  latency-clear : (v : Version) → known_in v (Some kind.Latency) ≡ Some kind.Latency → (place : ℕ) → fault_of v place (latencies_listing before) (latency_fields h) ≡ None
  latency-clear v may place =
      let is = All-middle IsWritable before h after hosts.each in
      let delays = is.valid.delays in
      let found : place_of_host (map bare (before ++ h ∷ after)) h.name ≡ Some (length before) =
      ap (place_of_host (map bare (before ++ h ∷ after))) (sym (host_name-at before h after))
      ∙ place-bare (before ++ h ∷ after) (length before) hosts.distinct (let sum = length-append before (h ∷ after) in omega (arith, sum)) in
      let new : is_delayed (stated before) h.name ≡ false = list_any_none (λ l. bytes_eq l.host h.name) (stated before) (stated-others before h.name names-before) in
      let known : is_none (place_of_host (map bare (before ++ h ∷ after)) h.name) ≡ false = ap is_none found in
      let least = least-printed h.least delays.least_low delays.least_high in
      let most = most-printed h.most delays.most_high in
      let numbers : (is_none (least_in (decimal h.least)) || is_none (greatest_in (most_text h.most))) ≡ false = rw (least, most) refl in
      let range : option_map_or is_empty (latency_with h.name (decimal h.least) (most_text h.most)) false ≡ false = rw (stated-read h delays) (not-empty h.least h.most delays.most_low) in
      rw may (four_clear _ _ _ _ _ _ _ _ known new numbers range)

  latency-step : has_latency h ≡ true → with_record (latencies_listing before) (latency_fields h) ≡ latencies_listing (before ++ h ∷ [])
  latency-step has =
      let is = All-middle IsWritable before h after hosts.each in
      let all = map bare (before ++ h ∷ after) in
      let made = λ (hs : List Host) (ls : List Latency). listing hs [] [] ls [] [] [] in
      let one : stated (h ∷ []) ≡ latency_from h ∷ [] = rw has refl in
      ap (λ hs. made hs (stated before ++ option_to_list (latency_in (latency_fields h)))) (append-nil all)
      ∙ ap (λ o. made all (stated before ++ option_to_list o)) (stated-read h is.valid.delays)
      ∙ ap (made all) (ap (λ ls. stated before ++ ls) (sym one) ∙ sym (stated-append before (h ∷ [])))

  latency-skip : has_latency h ≡ false → latencies_listing before ≡ latencies_listing (before ++ h ∷ [])
  latency-skip has =
      let none : stated (h ∷ []) ≡ [] = rw has refl in
      ap (λ ls. listing (map bare (before ++ h ∷ after)) [] [] ls [] [] [])
      (sym (stated-append before (h ∷ []) ∙ ap (λ ls. stated before ++ ls) none ∙ append-nil (stated before)))

-- the hosts of a log before their latencies, with the latencies of some
abbrev pub listing_of : List Host → List Host → Listing
listing_of hosts some = listing (map bare hosts) [] [] (stated some) [] [] []

-- the records of latencies are read as the latencies
pub latencies-run : (v : Version) → known_in v (Some kind.Latency) ≡ Some kind.Latency → (hosts before after : List Host) → before ++ after ≡ hosts → AreHosts hosts
    → Runs v (listing_of hosts before) (map latency_fields (filter has_latency after)) (listing_of hosts hosts)
latencies-run v may hosts before [] split are = let same : before ≡ hosts = sym (append-nil before) ∙ split in rw same (runs-none v (listing_of hosts hosts))
latencies-run v may hosts before (h ∷ hs) split are =
    let more = latencies-run v may hosts (before ++ h ∷ []) hs (append_assoc before (h ∷ []) hs ∙ split) are in
    let parts : AreHosts (before ++ h ∷ hs) = rw split are in
    go (has_latency h) refl more parts
  where
    go : (b : Bool) → has_latency h ≡ b → Runs v (listing_of hosts (before ++ h ∷ [])) (map latency_fields (filter has_latency hs)) (listing_of hosts hosts) → AreHosts (before ++ h ∷ hs)
        → Runs v (listing_of hosts before) (map latency_fields (cond b (h ∷ filter has_latency hs) (filter has_latency hs))) (listing_of hosts hosts)
    go true has more parts =
        runs-cons v (listing_of hosts before) (listing_of hosts (before ++ h ∷ [])) (listing_of hosts hosts) (latency_fields h) (map latency_fields (filter has_latency hs))
        (rw split at (latency-clear before h hs parts v may)) (rw split at (latency-step before h hs parts has)) more
    go false has more parts = rw (rw split at (latency-skip before h hs parts has)) more

same-least : (h : Host) → has_latency h ≡ false → bare h ≡ h
same-least h none =
    let parts = neither (not (h.least == MIN_DELAY)) (is_some h.most) none in
    let least : h.least ≡ MIN_DELAY = eqb-true h.least MIN_DELAY (not-false (h.least == MIN_DELAY) parts.0) in
    ap (λ n. with_delays h n None) (sym least) ∙ ap (with_delays h h.least) (sym (no-most h.most parts.1))
  where
    neither : (a b : Bool) → (a || b) ≡ false → (a ≡ false) × (b ≡ false)
    neither true b e = absurd (cc)
    neither false b e = (refl, e)

    not-false : (b : Bool) → not b ≡ false → b ≡ true
    not-false true e = refl
    not-false false e = absurd (cc)

    no-most : (m : Option ℕ) → is_some m ≡ false → m ≡ None
    no-most None e = refl
    no-most (Some n) e = absurd (cc)

All-others-before : (before : List Host) (h : Host) (after : List Host) → AreDistinct (before ++ h ∷ after) → All (λ g. bytes_eq g.name h.name ≡ false) before
All-others-before before h after distinct k d within =
    let others = AllPairs-middle (λ (g k : Host). k.name ≡ g.name → ⊥) before h after distinct in
    false_from_ne_true _ (λ same. others k d within (sym ((bytes_eq-Decides _ h.name).0 same)))

All-others-after : (before : List Host) (h : Host) (after : List Host) → AreDistinct (before ++ h ∷ after) → All (λ g. bytes_eq g.name h.name ≡ false) after
All-others-after before h after distinct k d within =
    let sum = length-append before (h ∷ after) in
    let apart = distinct (length before) (length before + suc k) d (omega arith) (omega (arith, sum, within)) in
    let here : get_or (before ++ h ∷ after) (length before) d ≡ h = get_or_at before h after d (length before) refl in
    let there : get_or (before ++ h ∷ after) (length before + suc k) d ≡ get_or after k d =
    get_or-append_right before (h ∷ after) (length before + suc k) d (omega arith)
    ∙ ap (λ n. get_or (h ∷ after) n d) (let minus : length before + suc k - length before ≡ suc k = omega arith in minus) in
    false_from_ne_true _ (λ same. (rw (here, there) at apart) ((bytes_eq-Decides _ h.name).0 same))

-- a host gets its delays back
delays-back : (before : List Host) (h : Host) (after : List Host) → AreDistinct (before ++ h ∷ after) → delayed (stated (before ++ h ∷ after)) (bare h) ≡ h
delays-back before h after distinct =
    let first = All-others-before before h after distinct in
    let second = All-others-after before h after distinct in
    let split =
    ap (λ ls. find (λ (l : Latency). bytes_eq l.host h.name) ls) (stated-append before (h ∷ after))
    ∙ find-append (λ (l : Latency). bytes_eq l.host h.name) (stated before) (stated (h ∷ after))
    ∙ ap (λ o. option_or o (latency_of (stated (h ∷ after)) h.name)) (stated-none before h.name first) in
    ap (λ o. delayed_by o (bare h)) split ∙ go (has_latency h) refl (stated-none after h.name second)
  where
    go : (b : Bool) → has_latency h ≡ b → latency_of (stated after) h.name ≡ None
        → delayed_by (latency_of (map latency_from (cond b (h ∷ filter has_latency after) (filter has_latency after))) h.name) (bare h) ≡ h
    go true has none = let test : bytes_eq h.name h.name ≡ true = (bytes_eq-Decides h.name h.name).1 refl in rw test refl
    go false has none = rw none (same-least h has)

delays-from : (hosts before after : List Host) → before ++ after ≡ hosts → AreDistinct hosts → map (delayed (stated hosts)) (map bare after) ≡ after
delays-from hosts before [] split distinct = refl
delays-from hosts before (h ∷ hs) split distinct =
    let here : delayed (stated hosts) (bare h) ≡ h = rw split at (delays-back before h hs (rw split distinct)) in
    let more = delays-from hosts (before ++ h ∷ []) hs (append_assoc before (h ∷ []) hs ∙ split) distinct in
    ap (λ g. g ∷ map (delayed (stated hosts)) (map bare hs)) here ∙ ap (λ gs. h ∷ gs) more

-- the hosts of a log get their delays back
pub all-delays-back : (hosts : List Host) → AreDistinct hosts → map (delayed (stated hosts)) (map bare hosts) ≡ hosts
all-delays-back hosts distinct = delays-from hosts [] hosts refl distinct
