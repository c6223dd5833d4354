-- The first fault of records, one more record at a time, and what it means that there is none.
use Rattle.std.proofs.Common.{Ok, Err, ◌≡◌, ◌∙◌, ◌-◌, sym, ap, refl, arith, ℕ, ◌+◌, ◌<◌, ◌≤◌, Bool, true, false, List, [], ◌∷◌, ◌++◌, length, get_or, take, drop, Option, Some, None, add-one}
use Rattle.std.specs.Prelude.{All, IfSome, nat_le, not, position, option_to_list, bytes_eq}
use Rattle.std.specs.Option.{option_map_or}
use Rattle.std.specs.List.{cons_option}
use Rattle.std.proofs.Math.Seq.{drop-cons, take-suc}
use Rattle.std.proofs.lemmas.Bool.{or_parts}
use Rattle.std.proofs.lemmas.Bool.Decides.{nat_tests}
use Rattle.std.proofs.lemmas.List.{length-take-le, take_rest}
use Rattle.std.proofs.lemmas.List.Elements.{All-nil, All-cons, All-head, All-tail, All-append}
use Rattle.std.proofs.lemmas.List.Folds.{Any-from_list_any}
use Rattle.std.proofs.lemmas.Slice.Eq.{bytes_eq-Decides}
use Rattle.mt_model.specs.declared.log.Host.{Host}
use Rattle.mt_model.specs.declared.log.Row.{Row}
use Rattle.mt_model.specs.declared.log.Extra.{Extra}
use Rattle.mt_model.specs.Log.{IsSent, sent_by, received_by}
use Rattle.mt_model.specs.Timing.{is_send_of}
use Rattle.log_read.specs.declared.version.Version.{Version}
use Rattle.log_read.specs.declared.fault.LogFault.TheVariants as fault
use Rattle.log_read.specs.declared.kind.Kind.{Kind}
use Rattle.log_read.specs.declared.kind.Kind.TheVariants as kind
use Rattle.log_read.specs.declared.kind.EventKind.TheVariants as event
use Rattle.log_read.specs.Records.{Listing, Record, bound_in, bounds_in, kind_of, row_by, row_in, host_in, log_from, rows_after, listed}
use Rattle.log_read.specs.LogOf.{fault_of, or_else, first_fault, is_sent, is_unmatched, is_unmatched_by, lacks_row, log_of_records, log_under, log_under_header, names_no_row, version_of}
use Rattle.log_read.specs.Reading.{with_record}
use Rattle.log_read.proofs.Listing.{listed-push}
use Rattle.log_read.proofs.Begun.{row_read}
use Rattle.log_read.proofs.Middles.{All-position_none}

take-more : (records : List Record) (i : ℕ) (r : Record) → i < length records → r ≡ get_or records i r → take (i + 1) records ≡ take i records ++ r ∷ []
take-more records i r within is = rw (add-one, take-suc records i r within, ← is) refl

drop-more : (records : List Record) (i : ℕ) (r : Record) → i < length records → r ≡ get_or records i r → drop i records ≡ r ∷ drop (i + 1) records
drop-more records i r within is = rw (add-one, drop-cons records i r within, ← is) refl

first_fault-step : (v : Version) (records : List Record) (i : ℕ) (r : Record) → i < length records → r ≡ get_or records i r
    → first_fault v (take i records) (drop i records) ≡ or_else (fault_of v (i + 2) (listed (take i records)) r) (first_fault v (take (i + 1) records) (drop (i + 1) records))
first_fault-step v records i r within is =
    let size : length (take i records) ≡ i = length-take-le i records (omega arith) in
    let tail = drop-more records i r within is in
    let front = take-more records i r within is in
    rw (tail, front, size) refl

-- the records before place i have no fault, and were read
pub record IsReadUpTo (v : Version) (records : List Record) (i : ℕ) (log : Listing) : Type 0 where
  pub read : log ≡ listed (take i records)
  pub clear : first_fault v [] records ≡ first_fault v (take i records) (drop i records)

pub read-more : (v : Version) (records : List Record) (i : ℕ) (r : Record) (log now : Listing) → i < length records → r ≡ get_or records i r → IsReadUpTo v records i log
    → fault_of v (i + 2) log r ≡ None → now ≡ with_record log r → IsReadUpTo v records (i + 1) now
read-more v records i r log now within is before none due = record {
  read = due ∙ ap (λ l. with_record l r) before.read ∙ sym (ap listed (take-more records i r within is) ∙ listed-push (take i records) r);
  clear =
      before.clear ∙ first_fault-step v records i r within is
      ∙ ap (λ o. or_else o (first_fault v (take (i + 1) records) (drop (i + 1) records))) (ap (λ l. fault_of v (i + 2) l r) (sym before.read) ∙ none);
}

-- where the test finds a row that sends the message, there is one
pub sent_by-is : (message : List ℕ) (o : Option (List ℕ)) → option_map_or (λ m. bytes_eq m message) o false ≡ true → o ≡ Some message
sent_by-is message None h = cc
sent_by-is message (Some m) h = ap Some ((bytes_eq-Decides m message).0 h)

IsSent-from_test : (rows : List Row) (message : List ℕ) → is_sent rows message ≡ true → IsSent rows message
IsSent-from_test rows message h =
    let found = Any-from_list_any (is_send_of message) rows h in
    (found.0, found.1, found.2, found.3, sent_by-is message (sent_by found.1.act) found.4)

-- the row of a record that is matched receives what is sent
row-matched : (all : List Row) (hosts : List Host) (k : Option Kind) (host local name : List ℕ) (r : Row) → is_unmatched_by all k name ≡ false → row_by hosts k host local name ≡ Some r
    → IfSome (received_by r.act) (IsSent all)
row-matched all hosts None host local name r matched h = cc
row-matched all hosts (Some kind.Host) host local name r matched h = cc
row-matched all hosts (Some kind.Resync) host local name r matched h = cc
row-matched all hosts (Some kind.Latency) host local name r matched h = cc
row-matched all hosts (Some kind.Clock) host local name r matched h = cc
row-matched all hosts (Some kind.Bound) host local name r matched h = cc
row-matched all hosts (Some (kind.Event event.Recv)) host local name r matched h =
    rw ((row_read hosts event.Recv host local name r h).act) (IsSent-from_test all name (let sent = is_sent all name in by sent matched))
  where
    by : (b : Bool) → not b ≡ false → b ≡ true
    by true e = refl
    by false e = cc
row-matched all hosts (Some (kind.Event event.Set)) host local name r matched h = rw ((row_read hosts event.Set host local name r h).act) tt
row-matched all hosts (Some (kind.Event event.Clear)) host local name r matched h = rw ((row_read hosts event.Clear host local name r h).act) tt
row-matched all hosts (Some (kind.Event event.Send)) host local name r matched h = rw ((row_read hosts event.Send host local name r h).act) tt
row-matched all hosts (Some (kind.Event event.Note)) host local name r matched h = rw ((row_read hosts event.Note host local name r h).act) tt
row-matched all hosts (Some (kind.Event event.Pulse)) host local name r matched h = rw ((row_read hosts event.Pulse host local name r h).act) tt

row_in-matched : (all : List Row) (hosts : List Host) (q : Record) (r : Row) → is_unmatched all q ≡ false → row_in hosts q ≡ Some r → IfSome (received_by r.act) (IsSent all)
row_in-matched all hosts [] r matched h = cc
row_in-matched all hosts (a ∷ []) r matched h = cc
row_in-matched all hosts (a ∷ b ∷ []) r matched h = cc
row_in-matched all hosts (a ∷ b ∷ c ∷ []) r matched h = cc
row_in-matched all hosts (a ∷ b ∷ c ∷ d ∷ []) r matched h = row-matched all hosts (kind_of a) b c d r matched h
row_in-matched all hosts (a ∷ b ∷ c ∷ d ∷ x ∷ xs) r matched h = cc

-- what is received in the rows of records is sent, where no record is unmatched
rows-matched : (all : List Row) (hosts : List Host) (records : List Record) → All (λ q. is_unmatched all q ≡ false) records
    → All (λ r. IfSome (received_by r.act) (IsSent all)) (rows_after hosts records)
rows-matched all hosts [] matched = All-nil (λ r. IfSome (received_by r.act) (IsSent all))
rows-matched all hosts (q ∷ qs) matched =
    All-append (λ r. IfSome (received_by r.act) (IsSent all)) (option_to_list (row_in hosts q)) (rows_after (hosts ++ option_to_list (host_in q)) qs)
    (one (row_in hosts q) (λ r. row_in-matched all hosts q r (All-head (λ q. is_unmatched all q ≡ false) q qs matched)))
    (rows-matched all (hosts ++ option_to_list (host_in q)) qs (All-tail (λ q. is_unmatched all q ≡ false) q qs matched))
  where
    one : (o : Option Row) → ((r : Row) → o ≡ Some r → IfSome (received_by r.act) (IsSent all)) → All (λ r. IfSome (received_by r.act) (IsSent all)) (option_to_list o)
    one None is = All-nil (λ r. IfSome (received_by r.act) (IsSent all))
    one (Some r) is = All-cons (λ r. IfSome (received_by r.act) (IsSent all)) r [] (is r refl) (All-nil (λ r. IfSome (received_by r.act) (IsSent all)))

-- where no receive is unmatched, each message that is received is sent
pub all-matched : (records : List Record) → position (is_unmatched (listed records).rows) records ≡ None → All (λ r. IfSome (received_by r.act) (IsSent (listed records).rows)) (listed records).rows
all-matched records none = rows-matched (listed records).rows [] records (All-position_none (is_unmatched (listed records).rows) records none)

-- the answers of the tests after the last record
pub unmatched-is : (v : Version) (records : List Record) (i : ℕ) → first_fault v [] records ≡ None → position (is_unmatched (listed records).rows) records ≡ Some i
    → log_under_header v records ≡ Err (fault.UnmatchedReceive (i + 2))
unmatched-is v records i clear found = rw (clear, found) refl

pub no_event-is : (v : Version) (records : List Record) → first_fault v [] records ≡ None → position (is_unmatched (listed records).rows) records ≡ None → length (listed records).rows ≡ 0
    → log_under_header v records ≡ Err fault.NoEvent
no_event-is v records clear none empty = rw (clear, none, empty) refl

-- a bound of rows that there are
abbrev pub HasRows : ℕ → Extra → Type 0
HasRows rows x = (x.e < rows) × (x.f < rows)

has-rows : (rows : ℕ) (x : Extra) → lacks_row rows x ≡ false → HasRows rows x
has-rows rows x none =
    let parts = or_parts (nat_le rows x.e) (nat_le rows x.f) none in
    let first = parts.0 in
    let second = parts.1 in
    (grind (arith, nat_tests), grind (arith, nat_tests))

one-placed : (rows : ℕ) (o : Option Extra) (xs : List Extra) → option_map_or (lacks_row rows) o false ≡ false → All (HasRows rows) xs → All (HasRows rows) (cons_option o xs)
one-placed rows None xs none all = all
one-placed rows (Some x) xs none all = All-cons (HasRows rows) x xs (has-rows rows x none) all

bounds-placed : (rows : ℕ) (records : List Record) → All (λ q. names_no_row rows q ≡ false) records → All (HasRows rows) (bounds_in records)
bounds-placed rows [] all = All-nil (HasRows rows)
bounds-placed rows (q ∷ qs) all =
    let passes = λ (p : Record). names_no_row rows p ≡ false in
    one-placed rows (bound_in q) (bounds_in qs) (All-head passes q qs all) (bounds-placed rows qs (All-tail passes q qs all))

-- where no bound names a row that there isn't, each one has its rows
pub all-placed : (records : List Record) → position (names_no_row (length (listed records).rows)) records ≡ None → All (HasRows (length (listed records).rows)) (listed records).bounds
all-placed records none =
    bounds-placed (length (listed records).rows) records (All-position_none (names_no_row (length (listed records).rows)) records none)

pub no_row-is : (v : Version) (records : List Record) (i : ℕ) → first_fault v [] records ≡ None → position (is_unmatched (listed records).rows) records ≡ None → 1 ≤ length (listed records).rows
    → position (names_no_row (length (listed records).rows)) records ≡ Some i → log_under_header v records ≡ Err (fault.NoRow (i + 2))
no_row-is v records i clear none some found =
    let test : nat_le 1 (length (listed records).rows) ≡ true = grind (arith, nat_tests) in
    rw (clear, none, test, found) refl

pub log-is : (v : Version) (records : List Record) → first_fault v [] records ≡ None → position (is_unmatched (listed records).rows) records ≡ None → 1 ≤ length (listed records).rows
    → position (names_no_row (length (listed records).rows)) records ≡ None → log_under_header v records ≡ Ok (log_from (listed records))
log-is v records clear none some placed =
    let test : nat_le 1 (length (listed records).rows) ≡ true = grind (arith, nat_tests) in
    rw (clear, none, test, placed) refl

-- the records under the header
pub under-header : (records : List Record) (header : Record) → 1 ≤ length records → header ≡ get_or records 0 header
    → log_of_records records ≡ log_under (version_of header) (take (length records - 1) (drop 1 records))
under-header [] header some is = absurd (omega arith)
under-header (r ∷ rs) header some is = rw (← is, take_rest (r ∷ rs) 1) refl
