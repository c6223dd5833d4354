-- The records of a JSON file are fewer than a list of records may have.
use Rattle.std.proofs.Common.{◌≡◌, subst, refl, arith, inl, inr, ℕ, suc, ◌+◌, ◌<◌, ◌≤◌, Bool, true, false, List, [], ◌∷◌, ◌++◌, length, length-append, Option, Some, None, Ok, Err, option_map, option_and_then, Ordering, Less, Equal, Greater}
use Rattle.std.specs.Prelude.{◌⊎◌, IfOk, MatchResult, Result, codes, if◌then◌else◌}
use Rattle.std.specs.Ordering.{match_ordering}
use Rattle.std.specs.Str.{IsUtf8, is_utf8}
use Rattle.std.proofs.lemmas.Str.{IsUtf8-from_is_utf8, is_utf8-from_IsUtf8}
use Rattle.serde_json.specs.Data.{Data, Items, Members, array, boolean, item, member, no_items, no_members, null, number, object, string}
use Rattle.serde_json.specs.Find.{as_array, get_member}
use Rattle.serde_json.specs.Read.{read}
use Rattle.log_read.specs.LogText.{header}
use Rattle.log_read.specs.Records.{Record}
use Rattle.json_log.specs.declared.fault.JsonFault.{JsonFault}
use Rattle.json_log.specs.declared.fault.JsonFault.TheVariants as fault
use Rattle.json_log.specs.declared.key.Key.{Key}
use Rattle.json_log.specs.declared.key.Key.TheVariants as key
use Rattle.json_log.specs.Entries.{alone, span_record, delayed_host_keys, event_records, host_keys, host_records, in_turn, latency_record, record_of_kind}
use Rattle.json_log.specs.Extends.{Stops}
use Rattle.json_log.specs.JsonLogOf.{json_records, records_at, records_in, records_of, value_of, version_in}
use Rattle.json_log.specs.Keys.{word_of}
use Rattle.json_log.specs.Look.{has_exactly, items_at, text_at, value_at}
use Rattle.json_log.proofs.Sizes.{AtMost, AtMost-and_then, AtMost-map, items_size, members_size, size, size-read}

-- ---- what is at a key is smaller than the object

AtMost-weaker : {A : Type 0} (f : A → ℕ) (m n : ℕ) → m ≤ n → (o : Option A) → AtMost f m o → AtMost f n o
AtMost-weaker f m n le None x = tt
AtMost-weaker f m n le (Some a) x = omega (arith, x, le)

AtMost-match : {A : Type 0} (f : A → ℕ) (n : ℕ) (o : Ordering) (a b : Option A) → AtMost f n a → AtMost f n b → AtMost f n (match_ordering o a b a)
AtMost-match f n Less a b x y = x
AtMost-match f n Equal a b x y = y
AtMost-match f n Greater a b x y = x

abbrev within_object : Data → ℕ
within_object d = suc (suc (size d))

size-get_member : (k : List ℕ) (ms : Members) → AtMost within_object (suc (members_size ms)) (get_member k ms)
size-get_member k no_members = tt
size-get_member k (member l e ms) =
    AtMost-match within_object (suc (members_size (member l e ms))) _ (get_member k ms) (Some e)
    (AtMost-weaker within_object (suc (members_size ms)) _ (omega arith) (get_member k ms) (size-get_member k ms)) (omega arith)

size-value_at : (k : Key) (d : Data) → AtMost within_object (size d) (value_at k d)
size-value_at k null = tt
size-value_at k (boolean b) = tt
size-value_at k (number n) = tt
size-value_at k (string s) = tt
size-value_at k (array ds) = tt
size-value_at k (object ms) = size-get_member (word_of k) ms

abbrev within_array : Items → ℕ
within_array ds = 3 + items_size ds

size-as_array : (d : Data) (n : ℕ) → within_object d ≤ n → AtMost within_array n (as_array d)
size-as_array null n h = tt
size-as_array (boolean b) n h = tt
size-as_array (number x) n h = tt
size-as_array (string s) n h = tt
size-as_array (array ds) n h = omega (arith, h)
size-as_array (object ms) n h = tt

size-items_at : (k : Key) (d : Data) → AtMost within_array (size d) (items_at k d)
size-items_at k d = AtMost-and_then within_object within_array (size d) (size d) as_array (λ e x. size-as_array e (size d) x) (value_at k d) (size-value_at k d)

-- ---- an entry has no more records than parts

some-size : (d : Data) → 1 ≤ size d
some-size null = omega arith
some-size (boolean b) = omega arith
some-size (number n) = omega arith
some-size (string s) = omega arith
some-size (array ds) = omega arith
some-size (object ms) = omega arith

one-alone : (o : Option Record) (n : ℕ) → 1 ≤ n → AtMost length n (alone o)
one-alone None n h = tt
one-alone (Some r) n h = omega (arith, h)

two-in_turn : (first second : Option Record) (n : ℕ) → ((r : Record) → second ≡ Some r → 2 ≤ n) → AtMost length n (in_turn first second)
two-in_turn None second n h = tt
two-in_turn (Some r) None n h = tt
two-in_turn (Some r) (Some s) n h = omega (arith, h s refl)

two-parts : (d : Data) (r : Record) → latency_record d ≡ Some r → 2 ≤ size d
two-parts null r is = absurd (cc)
two-parts (boolean b) r is = absurd (cc)
two-parts (number n) r is = absurd (cc)
two-parts (string s) r is = absurd (cc)
two-parts (array ds) r is = absurd (cc)
two-parts (object no_members) r is = absurd (cc)
two-parts (object (member k d ms)) r is = omega arith

few-host : (d : Data) → AtMost length (size d) (host_records d)
few-host d = by (has_exactly host_keys d) (has_exactly delayed_host_keys d)
  where
    by : (plain late : Bool)
        → AtMost length (size d) (if plain then alone (span_record (codes "host") key.Name d) else if late then in_turn (span_record (codes "host") key.Name d) (latency_record d) else None)
    by true late = one-alone (span_record (codes "host") key.Name d) (size d) (some-size d)
    by false true = two-in_turn (span_record (codes "host") key.Name d) (latency_record d) (size d) (two-parts d)
    by false false = tt

few-event : (d : Data) → AtMost length (size d) (event_records d)
few-event d = one-alone (option_and_then (record_of_kind d) (text_at key.Kind d)) (size d) (some-size d)

-- ---- so has the whole

module _ (of : Data → Option (List Record)) (few : (d : Data) → AtMost length (size d) (of d)) where
  few-in : (ds : Items) → AtMost length (items_size ds) (records_in of ds)
  few-in no_items = omega arith
  few-in (item d ds) =
      AtMost-and_then length length (size d) (items_size (item d ds)) _
      (λ rs x. AtMost-map length length (items_size ds) (items_size (item d ds)) (λ more. rs ++ more) (λ more y. omega (arith, length-append rs more, x, y)) (records_in of ds) (few-in ds))
      (of d) (few d)

  few-at : (k : Key) (d : Data) → AtMost (λ rs. 3 + length rs) (size d) (records_at of k d)
  few-at k d =
      AtMost-and_then within_array (λ rs. 3 + length rs) (size d) (size d) (records_in of) (λ ds x. more ds (records_in of ds) x (few-in ds)) (items_at k d) (size-items_at k d)
    where
      more : (ds : Items) (o : Option (List Record)) → within_array ds ≤ size d → AtMost length (items_size ds) o → AtMost (λ rs. 3 + length rs) (size d) o
      more ds None x y = tt
      more ds (Some rs) x y = omega (arith, x, y)

-- the records of both arrays behind the header
abbrev both : Data → Option (List Record)
both d = option_and_then (λ hosts. option_map (λ events. header (version_in d) ∷ hosts ++ events) (records_at event_records key.Events d)) (records_at host_records key.Hosts d)

few-both : (d : Data) → AtMost (λ rs. 5 + length rs) (size d + size d) (both d)
few-both d =
    AtMost-and_then (λ rs. 3 + length rs) (λ rs. 5 + length rs) (size d) (size d + size d) _
    (λ hosts x. AtMost-map (λ rs. 3 + length rs) (λ rs. 5 + length rs) (size d) (size d + size d) (λ events. header (version_in d) ∷ hosts ++ events)
    (λ events y. omega (arith, length-append hosts events, x, y))
    (records_at event_records key.Events d) (few-at event_records few-event key.Events d)) (records_at host_records key.Hosts d) (few-at host_records few-host key.Hosts d)

few-of : (d : Data) → AtMost (λ rs. 5 + length rs) (size d + size d) (records_of d)
few-of d = by (has_exactly (key.Hosts ∷ key.Events ∷ []) d)
  where
    by : (b : Bool) → AtMost (λ rs. 5 + length rs) (size d + size d) (if b then both d else None)
    by true = few-both d
    by false = tt

pub few-records : (text : List ℕ) (d : Data) (rs : List Record) → length text < 1073741824 → read text ≡ Some d → records_of d ≡ Some rs → length rs < 2147483648
few-records text d rs short reads is =
    let few : 5 + length rs ≤ size d + size d = subst (AtMost (λ rs. 5 + length rs) (size d + size d)) is (few-of d) in
    omega (arith, few, size-read text d reads, short)

-- ---- what bytes are, from what was read

pub value-read : (bytes : List ℕ) (d : Data) → IsUtf8 bytes → read bytes ≡ Some d → value_of bytes ≡ Some d
value-read bytes d text is = rw (is_utf8-from_IsUtf8 bytes text) is

pub value-none : (bytes : List ℕ) → (IsUtf8 bytes → read bytes ≡ None) → value_of bytes ≡ None
value-none bytes none = by (is_utf8 bytes) refl
  where
    by : (b : Bool) → is_utf8 bytes ≡ b → (let o : Option Data = (if b then read bytes else None) in o) ≡ None
    by true is = none (IsUtf8-from_is_utf8 bytes is)
    by false is = refl

pub records-stopped : (bytes : List ℕ) (d : Data) (f : JsonFault) → value_of bytes ≡ Some d → Stops (records_of d) f → (f ≡ fault.Memory) ⊎ (json_records bytes ≡ Err f)
records-stopped bytes d f value (inl memory) = inl memory
records-stopped bytes d f value (inr (shape, none)) = inr (rw (value, none, shape) refl)

pub records-answered : (bytes : List ℕ) (d : Data) (r : Result (List Record) JsonFault) → value_of bytes ≡ Some d → MatchResult r (λ rs. records_of d ≡ Some rs) (Stops (records_of d))
    → MatchResult r (λ rs. json_records bytes ≡ Ok rs) (λ f. (f ≡ fault.Memory) ⊎ (json_records bytes ≡ Err f))
records-answered bytes d (Ok rs) value is = rw (value, is) refl
records-answered bytes d (Err f) value is = records-stopped bytes d f value is

pub records-few : (bytes : List ℕ) (d : Data) (r : Result (List Record) JsonFault) → length bytes < 1073741824 → read bytes ≡ Some d
    → MatchResult r (λ rs. records_of d ≡ Some rs) (Stops (records_of d)) → IfOk r (λ rs. length rs < 2147483648)
records-few bytes d (Ok rs) short reads is = few-records bytes d rs short reads is
records-few bytes d (Err f) short reads is = tt
