-- What records list, one more record at a time.
use Rattle.std.proofs.Common.{◌≡◌, ◌∙◌, sym, ap, refl, arith, ℕ, ◌+◌, ◌<◌, ◌≤◌, List, [], ◌∷◌, ◌++◌, length, length-append, get_or, Option, Some, None, append_assoc}
use Rattle.std.specs.Prelude.{option_map, option_to_list, Result, Ok, Err}
use Rattle.std.specs.Option.{option_map_or}
use Rattle.std.specs.List.{cons_option, filter_map}
use Rattle.std.proofs.lemmas.List.{append-nil}
use Rattle.std.proofs.lemmas.List.Elements.{filter_map-append}
use Rattle.mt_model.specs.declared.log.Host.{Host}
use Rattle.mt_model.specs.declared.log.Row.{Row}
use Rattle.mt_model.specs.declared.resync.Resync.{Resync}
use Rattle.mt_model.specs.declared.reading.Reading.{Reading}
use Rattle.mt_model.specs.declared.log.Extra.{Extra}
use Rattle.log_read.specs.declared.clock.ClockEntry.{ClockEntry}
use Rattle.log_read.specs.declared.latency.Latency.{Latency}
use Rattle.log_read.specs.declared.fault.LogFault.{LogFault}
use Rattle.log_read.specs.declared.fault.LogFault.TheVariants as fault
use Rattle.log_read.specs.declared.version.Version.{Version}
use Rattle.log_read.specs.declared.version.Version.TheVariants as version
use Rattle.log_read.specs.declared.kind.Kind.{Kind}
use Rattle.log_read.specs.declared.kind.Kind.TheVariants as kind
use Rattle.log_read.specs.declared.kind.EventKind.TheVariants as event
use Rattle.log_read.specs.Records.{Listing, Record, bound_in, clock_in, clocks_after, host_in, hosts_in, kind_of, latency_in, listed, new_clock, reading_in, reading_with, readings_after, resync_in, resyncs_after, row_in, rows_after}
use Rattle.log_read.specs.LogOf.{fault_by, fault_of, known_in}
use Rattle.log_read.specs.Reading.{Adds, clock_entry_with, with_columns, with_record}

-- four items are all of a list of four
pub four_items : {X : Type 0} (xs : List X) (a b c d : X) → 4 ≤ length xs → length xs < 5 → a ≡ get_or xs 0 a → b ≡ get_or xs 1 b → c ≡ get_or xs 2 c → d ≡ get_or xs 3 d
    → xs ≡ a ∷ b ∷ c ∷ d ∷ []
four_items [] a b c d least most p q r s = absurd (omega arith)
four_items (w ∷ []) a b c d least most p q r s = absurd (omega arith)
four_items (w ∷ x ∷ []) a b c d least most p q r s = absurd (omega arith)
four_items (w ∷ x ∷ y ∷ []) a b c d least most p q r s = absurd (omega arith)
four_items (w ∷ x ∷ y ∷ z ∷ []) a b c d least most p q r s = cc
four_items (w ∷ x ∷ y ∷ z ∷ v ∷ vs) a b c d least most p q r s = absurd (omega arith)

-- a kind that a file of the version may have is the one that the word names
known-is : (v : Version) (k : Option Kind) (x : Kind) → known_in v k ≡ Some x → k ≡ Some x
known-is version.One None x h = absurd (cc)
known-is version.One (Some kind.Host) x h = h
known-is version.One (Some (kind.Event event.Pulse)) x h = absurd (cc)
known-is version.One (Some (kind.Event e)) x h = h
known-is version.One (Some kind.Resync) x h = absurd (cc)
known-is version.One (Some kind.Latency) x h = absurd (cc)
known-is version.One (Some kind.Clock) x h = absurd (cc)
known-is version.One (Some kind.Bound) x h = absurd (cc)
known-is version.Two None x h = absurd (cc)
known-is version.Two (Some kind.Clock) x h = absurd (cc)
known-is version.Two (Some kind.Bound) x h = absurd (cc)
known-is version.Two (Some k) x h = h
known-is version.Three k x h = h

-- these hosts, rows, resyncs, latencies, names of clocks, readings and bounds
abbrev pub listing : List Host → List Row → List Resync → List Latency → List (List ℕ) → List Reading → List Extra → Listing
listing hosts rows resyncs latencies clocks readings bounds =
    record { hosts = hosts; rows = rows; resyncs = resyncs; latencies = latencies; clocks = clocks; readings = readings; bounds = bounds }

-- listings are the same where their parts are
pub same-listing : {hs hs2 : List Host} {rs rs2 : List Row} {ys ys2 : List Resync} {ls ls2 : List Latency} {cs cs2 : List (List ℕ)} {ms ms2 : List Reading} {bs bs2 : List Extra}
    → hs ≡ hs2 → rs ≡ rs2 → ys ≡ ys2 → ls ≡ ls2 → cs ≡ cs2 → ms ≡ ms2 → bs ≡ bs2 → listing hs rs ys ls cs ms bs ≡ listing hs2 rs2 ys2 ls2 cs2 ms2 bs2
same-listing p q r s t u v = rw (p, q, r, s, t, u, v) refl

module _ (v : Version) (place : ℕ) (l now : Listing) (fields : Record) (w a b c : List ℕ) (r : Result (Unit {0}) LogFault) (four : fields ≡ w ∷ a ∷ b ∷ c ∷ []) where
  -- a record of a kind that the version has was taken in
  pub record_taken : (k : Option Kind) → known_in v (kind_of w) ≡ k → Adds r (fault_by place l k a b c) now (with_columns l k a b c) → Adds r (fault_of v place l fields) now (with_record l fields)
  record_taken None known added = rw (four, known) (go r added)
    where
      go : (r : Result (Unit {0}) LogFault) → Adds r (Some (fault.Kind place)) now (with_columns l None a b c) → Adds r (Some (fault.Kind place)) now (with_record l (w ∷ a ∷ b ∷ c ∷ []))
      go (Ok done) added = let fault = added.0 in absurd (cc)
      go (Err f) added = added
  record_taken (Some x) known added =
      let is = known-is v (kind_of w) x known in
      let test : known_in v (Some x) ≡ Some x = ap (known_in v) (sym is) ∙ known in
      rw (four, is, test) added

-- a reading, and the name of its clock where it is a new one
pub entry_parts : (n : Option (List ℕ)) (o : Option Reading) (e : ClockEntry) → option_map (λ r. let made : ClockEntry = record { reading = r; named = n } in made) o ≡ Some e → (o ≡ Some e.reading) × (n ≡ e.named)
entry_parts n None e is = absurd (cc)
entry_parts n (Some r) e is = (ap (λ o. Some (option_map_or (λ (k : ClockEntry). k.reading) o r)) is, ap (λ o. option_map_or (λ (k : ClockEntry). k.named) o n) is)

-- the reading and the name of a clock are what its record lists
pub with_entry : (l : Listing) (e : ClockEntry) (host error name : List ℕ) (clocks : List (List ℕ)) (readings : List Reading)
    → clock_entry_with l.hosts l.clocks (length l.rows) host error name ≡ Some e → clocks ≡ l.clocks ++ option_to_list e.named → readings ≡ l.readings ++ e.reading ∷ []
    → listing l.hosts l.rows l.resyncs l.latencies clocks readings l.bounds ≡ with_columns l (Some kind.Clock) host error name
with_entry l e host error name clocks readings h named read =
    let parts = entry_parts (new_clock l.clocks name) (reading_with l.hosts l.clocks (length l.rows) host error name) e h in
    let names : clocks ≡ l.clocks ++ option_to_list (new_clock l.clocks name) = named ∙ ap (λ o. l.clocks ++ option_to_list o) (sym parts.1) in
    rw (names, read, parts.0, append-nil l.hosts, append-nil l.rows, append-nil l.resyncs, append-nil l.latencies, append-nil l.bounds) refl

cons_option-is : {X : Type 0} (o : Option X) (xs : List X) → cons_option o xs ≡ option_to_list o ++ xs
cons_option-is None xs = refl
cons_option-is (Some x) xs = refl

filter_map-push : {X : Type 0} (f : Record → Option X) (rs : List Record) (r : Record) → filter_map f (rs ++ r ∷ []) ≡ filter_map f rs ++ option_to_list (f r)
filter_map-push f rs r = filter_map-append f rs (r ∷ []) ∙ ap (λ xs. filter_map f rs ++ xs) (cons_option-is (f r) [] ∙ append-nil (option_to_list (f r)))

rows_after-push : (hosts : List Host) (rs : List Record) (r : Record) → rows_after hosts (rs ++ r ∷ []) ≡ rows_after hosts rs ++ option_to_list (row_in (hosts ++ hosts_in rs) r)
rows_after-push hosts [] r = rw (append-nil (option_to_list (row_in hosts r)), append-nil hosts) refl
rows_after-push hosts (x ∷ xs) r =
    let more = rows_after-push (hosts ++ option_to_list (host_in x)) xs r in
    let same : (hosts ++ option_to_list (host_in x)) ++ hosts_in xs ≡ hosts ++ hosts_in (x ∷ xs) =
    append_assoc hosts (option_to_list (host_in x)) (hosts_in xs) ∙ ap (λ ys. hosts ++ ys) (sym (cons_option-is (host_in x) (hosts_in xs))) in
    rw (more, same, append_assoc) refl

resyncs_after-push : (hosts : List Host) (n : ℕ) (rs : List Record) (r : Record)
    → resyncs_after hosts n (rs ++ r ∷ []) ≡ resyncs_after hosts n rs ++ option_to_list (resync_in (hosts ++ hosts_in rs) (n + length (rows_after hosts rs)) r)
resyncs_after-push hosts n [] r = let none : n + 0 ≡ n = omega arith in rw (append-nil (option_to_list (resync_in hosts n r)), append-nil hosts, none) refl
resyncs_after-push hosts n (x ∷ xs) r =
    let others = hosts ++ option_to_list (host_in x) in
    let given = option_to_list (row_in hosts x) in
    let more = resyncs_after-push others (n + length given) xs r in
    let same : others ++ hosts_in xs ≡ hosts ++ hosts_in (x ∷ xs) =
    append_assoc hosts (option_to_list (host_in x)) (hosts_in xs) ∙ ap (λ ys. hosts ++ ys) (sym (cons_option-is (host_in x) (hosts_in xs))) in
    let count : n + length given + length (rows_after others xs) ≡ n + length (rows_after hosts (x ∷ xs)) = let sum = length-append given (rows_after others xs) in omega (arith, sum) in
    ap (λ ys. option_to_list (resync_in hosts n x) ++ ys)
    (more ∙ ap (λ hs. resyncs_after others (n + length given) xs ++ option_to_list (resync_in hs (n + length given + length (rows_after others xs)) r)) same
    ∙ ap (λ k. resyncs_after others (n + length given) xs ++ option_to_list (resync_in (hosts ++ hosts_in (x ∷ xs)) k r)) count)
    ∙ sym
    (append_assoc (option_to_list (resync_in hosts n x)) (resyncs_after others (n + length given) xs)
    (option_to_list (resync_in (hosts ++ hosts_in (x ∷ xs)) (n + length (rows_after hosts (x ∷ xs))) r)))

clocks_after-push : (clocks : List (List ℕ)) (rs : List Record) (r : Record) → clocks_after clocks (rs ++ r ∷ []) ≡ clocks_after clocks rs ++ option_to_list (clock_in (clocks ++ clocks_after clocks rs) r)
clocks_after-push clocks [] r = rw (append-nil (option_to_list (clock_in clocks r)), append-nil clocks) refl
clocks_after-push clocks (x ∷ xs) r =
    let first = option_to_list (clock_in clocks x) in
    let rest = clocks_after (clocks ++ first) xs in
    ap (λ ys. first ++ ys) (clocks_after-push (clocks ++ first) xs r ∙ ap (λ cs. rest ++ option_to_list (clock_in cs r)) (append_assoc clocks first rest))
    ∙ sym (append_assoc first rest (option_to_list (clock_in (clocks ++ (first ++ rest)) r)))

readings_after-push : (hosts : List Host) (clocks : List (List ℕ)) (n : ℕ) (rs : List Record) (r : Record)
    → readings_after hosts clocks n (rs ++ r ∷ [])
    ≡ readings_after hosts clocks n rs ++ option_to_list (reading_in (hosts ++ hosts_in rs) (clocks ++ clocks_after clocks rs) (n + length (rows_after hosts rs)) r)
readings_after-push hosts clocks n [] r =
    let none : n + 0 ≡ n = omega arith in
    rw (append-nil (option_to_list (reading_in hosts clocks n r)), append-nil hosts, append-nil clocks, none) refl
readings_after-push hosts clocks n (x ∷ xs) r =
    let others = hosts ++ option_to_list (host_in x) in
    let named = option_to_list (clock_in clocks x) in
    let given = option_to_list (row_in hosts x) in
    let first = option_to_list (reading_in hosts clocks n x) in
    let rest = readings_after others (clocks ++ named) (n + length given) xs in
    let more = readings_after-push others (clocks ++ named) (n + length given) xs r in
    let same : others ++ hosts_in xs ≡ hosts ++ hosts_in (x ∷ xs) =
    append_assoc hosts (option_to_list (host_in x)) (hosts_in xs) ∙ ap (λ ys. hosts ++ ys) (sym (cons_option-is (host_in x) (hosts_in xs))) in
    let names : (clocks ++ named) ++ clocks_after (clocks ++ named) xs ≡ clocks ++ clocks_after clocks (x ∷ xs) = append_assoc clocks named (clocks_after (clocks ++ named) xs) in
    let count : n + length given + length (rows_after others xs) ≡ n + length (rows_after hosts (x ∷ xs)) = let sum = length-append given (rows_after others xs) in omega (arith, sum) in
    ap (λ ys. first ++ ys)
    (more
    ∙ ap (λ hs. rest ++ option_to_list (reading_in hs ((clocks ++ named) ++ clocks_after (clocks ++ named) xs) (n + length given + length (rows_after others xs)) r)) same
    ∙ ap (λ cs. rest ++ option_to_list (reading_in (hosts ++ hosts_in (x ∷ xs)) cs (n + length given + length (rows_after others xs)) r)) names
    ∙ ap (λ k. rest ++ option_to_list (reading_in (hosts ++ hosts_in (x ∷ xs)) (clocks ++ clocks_after clocks (x ∷ xs)) k r)) count)
    ∙ sym (append_assoc first rest (option_to_list (reading_in (hosts ++ hosts_in (x ∷ xs)) (clocks ++ clocks_after clocks (x ∷ xs)) (n + length (rows_after hosts (x ∷ xs))) r)))

-- what one more record lists comes at the end
pub listed-push : (rs : List Record) (r : Record) → listed (rs ++ r ∷ []) ≡ with_record (listed rs) r
listed-push rs r =
    let none : 0 + length (rows_after [] rs) ≡ length (rows_after [] rs) = omega arith in
    same-listing (filter_map-push host_in rs r) (rows_after-push [] rs r)
    (resyncs_after-push [] 0 rs r ∙ ap (λ n. resyncs_after [] 0 rs ++ option_to_list (resync_in (hosts_in rs) n r)) none)
    (filter_map-push latency_in rs r) (clocks_after-push [] rs r)
    (readings_after-push [] [] 0 rs r ∙ ap (λ n. readings_after [] [] 0 rs ++ option_to_list (reading_in (hosts_in rs) (clocks_after [] rs) n r)) none)
    (filter_map-push bound_in rs r)
