-- The spans of hosts, resync by resync and row by row.
use Rattle.std.proofs.Common.{◌≡◌, ◌∙◌, sym, refl, ap, ℕ, zero, suc, ◌+◌, ◌==◌, ◌<◌, ◌≤◌, ◌&&◌, nat_le, inl, inr, Bool, true, false, List, [], ◌∷◌, ◌++◌, length, get_or, drop, map, reverse, set, take, cond, Option, Some, None, All, pos, arith}
use Rattle.std.specs.Prelude.{find, slice_get}
use Rattle.std.specs.List.{range_with_len}
use Rattle.std.specs.Option.{option_map_or, option_or}
use Rattle.std.proofs.Math.Seq.{take-suc}
use Rattle.std.proofs.Common.{get_or-drop}
use Rattle.std.proofs.lemmas.Bool.{cases_eq, eq-eqb, le-leb, lt-leb, ne_eqb}
use Rattle.std.proofs.lemmas.List.{get_or-map, get_or-set_other, get_or-set_same, get_or-take, length-drop, length-map, length-set, length-take-le, get_or_default, reverse-append, take-append-drop}
use Rattle.std.proofs.lemmas.List.Elements.{All-head, All-tail}
use Rattle.std.proofs.lemmas.List.FromFn.{get_or-map-range_with_len, length-map-range_with_len, map-range_with_len_more}
use Rattle.std.proofs.lemmas.List.Folds.{find-append}
use Rattle.mt_model.specs.declared.log.Host.{Host}
use Rattle.mt_model.specs.declared.resync.Resync.{Resync}
use Rattle.mt_model.specs.declared.spans.Span.{Span}
use Rattle.mt_model.specs.Log.{Logged, IsLog}
use Rattle.mt_model.specs.Spans.{AreHostSpans, HavePassed, IsSpan, span_after, declared_span, resynced_span, span_of}
use Rattle.mt_model.specs.Timing.{applies_to, host_of, resync_of}
use Rattle.mt_model.proofs.Resyncs.{All-reverse, span-within}

-- tests that agree on each element find the same one
pub find-same : {X : Type 0} (p q : X → Bool) (xs : List X) → All (λ x. p x ≡ q x) xs → find p xs ≡ find q xs
find-same p q [] same = refl
find-same p q (x ∷ xs) same =
    let here : p x ≡ q x = All-head (λ x. p x ≡ q x) x xs same in
    let rest = find-same p q xs (All-tail (λ x. p x ≡ q x) x xs same) in
    rw (here, rest) refl

-- a test that no element passes finds none
pub find-none : {X : Type 0} (p : X → Bool) (xs : List X) → All (λ x. p x ≡ false) xs → find p xs ≡ None
find-none p [] fails = refl
find-none p (x ∷ xs) fails =
    let here : p x ≡ false = All-head (λ x. p x ≡ false) x xs fails in
    let rest = find-none p xs (All-tail (λ x. p x ≡ false) x xs fails) in
    rw (here, rest) refl

module _ (hosts : List Host) (resyncs : List Resync) where
  -- one resync more
  after-next : (k h : ℕ) (r : Resync) → k < length resyncs → r ≡ get_or resyncs k r
      → span_after hosts (take (k + 1) resyncs) h ≡ cond (r.host == h) (resynced_span r) (span_after hosts (take k resyncs) h)
  after-next k h r within is =
      let next : k + 1 ≡ suc k = omega arith in
      let split : take (suc k) resyncs ≡ take k resyncs ++ (r ∷ []) = take-suc resyncs k r within ∙ ap (λ y. take k resyncs ++ (y ∷ [])) (sym is) in
      let turned : reverse (take (k + 1) resyncs) ≡ r ∷ reverse (take k resyncs) = ap (λ n. reverse (take n resyncs)) next ∙ ap reverse split ∙ reverse-append (take k resyncs) (r ∷ []) in
      rw turned (chosen (r.host == h) (find (λ x. x.host == h) (reverse (take k resyncs))))
    where
      chosen : (b : Bool) (o : Option Resync) → option_map_or resynced_span (cond b (Some r) o) (option_map_or declared_span (slice_get hosts h) (record { skew = pos 0; gap = pos 0 })) ≡ cond b (resynced_span r) (option_map_or resynced_span o (option_map_or declared_span (slice_get hosts h) (record { skew = pos 0; gap = pos 0 })))
      chosen true o = refl
      chosen false o = refl

  pub host_spans-next : (k : ℕ) (r : Resync) (host_spans : List Span) → k < length resyncs → r ≡ get_or resyncs k r → r.host < length hosts → AreHostSpans hosts (take k resyncs) host_spans
      → AreHostSpans hosts (take (k + 1) resyncs) (set host_spans r.host (resynced_span r))
  host_spans-next k r host_spans within is hosted are = record {
    count = length-set host_spans r.host (resynced_span r) ∙ are.count;
    each = λ h d low. elim (cases_eq h r.host) [
      | inl same ↦ let test : (r.host == h) ≡ true = eq-eqb r.host h (sym same) in
          ap (λ j. get_or (set host_spans r.host (resynced_span r)) j d) same
          ∙ get_or-set_same host_spans r.host (resynced_span r) d (omega (arith, are.count, hosted))
          ∙ sym (after-next k h r within is ∙ ap (λ b. cond b (resynced_span r) (span_after hosts (take k resyncs) h)) test)
      | inr other ↦ let test : (r.host == h) ≡ false = ne_eqb r.host h (λ same. other (sym same)) in
          get_or-set_other host_spans r.host h (resynced_span r) d other ∙ are.each h d low
          ∙ sym (after-next k h r within is ∙ ap (λ b. cond b (resynced_span r) (span_after hosts (take k resyncs) h)) test)
    ];
  }

-- while resyncs are passed: the first k do not stand behind row e, and the host_spans are those after them
pub record IsPassing (log : Logged) (now : List Span) (k e : ℕ) : Type 0 where
  pub before : (i : ℕ) (d : Resync) → i < k → (get_or log.resyncs i d).place ≤ e
  pub host_spans : AreHostSpans log.hosts (take k log.resyncs) now

pub passed-here : (log : Logged) (host_spans : List Span) (k e : ℕ) (r : Resync) → IsPassing log host_spans k e → k < length log.resyncs → r ≡ get_or log.resyncs k r → e < r.place → HavePassed log.resyncs k e
passed-here log host_spans k e r passing within is late = record {
  within = omega (arith, within);
  before = passing.before;
  behind = λ d low. let same : get_or log.resyncs k d ≡ r = get_or_default log.resyncs k d r within ∙ sym is in rw same late;
}

pub passed-all : (log : Logged) (host_spans : List Span) (k e : ℕ) → IsPassing log host_spans k e → k ≡ length log.resyncs → HavePassed log.resyncs k e
passed-all log host_spans k e passing end = record { within = omega (arith, end); before = passing.before; behind = λ d low. absurd (omega (arith, end, low)) }

pub passing-next : (log : Logged) (host_spans : List Span) (k e : ℕ) (r : Resync) → IsLog log → IsPassing log host_spans k e → k < length log.resyncs → r ≡ get_or log.resyncs k r → r.place ≤ e
    → IsPassing log (set host_spans r.host (resynced_span r)) (k + 1) e
passing-next log host_spans k e r valid passing within is soon = record {
  before = λ i d first. elim (cases_eq i k) [
    | inl same ↦ let at : get_or log.resyncs i d ≡ r = ap (λ j. get_or log.resyncs j d) same ∙ get_or_default log.resyncs k d r within ∙ sym is in rw at soon
    | inr other ↦ passing.before i d (omega arith)
  ];
  host_spans =
      let hosted = (rw (← is) at (valid.resyncs.each k r within)).host in
      host_spans-next log.hosts log.resyncs k r host_spans within is hosted passing.host_spans;
}

and-true : (b : Bool) → (b && true) ≡ b
and-true true = refl
and-true false = refl

and-false : (b : Bool) → (b && false) ≡ false
and-false true = refl
and-false false = refl

declared-is : (o : Option Host)
    → option_map_or declared_span o (record { skew = pos 0; gap = pos 0 }) ≡ record { skew = option_map_or (λ h. h.skew) o (pos 0); gap = option_map_or (λ h. h.gap) o (pos 0) }
declared-is None = refl
declared-is (Some h) = refl

module _ (log : Logged) (valid : IsLog log) (k e : ℕ) (passed : HavePassed log.resyncs k e) where
  back-behind : All (λ r. applies_to log e r ≡ false) (drop k log.resyncs)
  back-behind i d low =
      let within : k + i < length log.resyncs = let n = rw length-drop at low in omega (arith, n) in
      let least : e < (get_or log.resyncs k d).place = passed.behind d (omega arith) in
      let later : (get_or log.resyncs k d).place ≤ (get_or log.resyncs (k + i) d).place = elim (cases_eq i 0) [
        | inl same ↦ rw (let z : k + i ≡ k = omega arith in z) (omega arith)
        | inr other ↦ valid.resyncs.in_order k (k + i) d (omega arith) within
      ] in
      let no : nat_le (get_or log.resyncs (k + i) d).place e ≡ false = lt-leb _ _ (omega (arith, least, later)) in
      rw (get_or-drop k log.resyncs i d, no) (and-false _)

  front-same : All (λ r. applies_to log e r ≡ (r.host == host_of log e)) (take k log.resyncs)
  front-same i d low =
      let within : i < k = let n = rw (length-take-le k log.resyncs passed.within) at low in n in
      let yes : nat_le (get_or log.resyncs i d).place e ≡ true = le-leb _ _ (passed.before i d within) in
      rw (get_or-take k log.resyncs i d within, yes) (and-true _)

  resync-is : resync_of log e ≡ find (λ r. r.host == host_of log e) (reverse (take k log.resyncs))
  resync-is =
      ap (λ xs. find (applies_to log e) (reverse xs)) (sym (take-append-drop k log.resyncs))
      ∙ ap (find (applies_to log e)) (reverse-append (take k log.resyncs) (drop k log.resyncs))
      ∙ find-append (applies_to log e) (reverse (drop k log.resyncs)) (reverse (take k log.resyncs))
      ∙ ap (λ o. option_or o (find (applies_to log e) (reverse (take k log.resyncs))))
      (find-none (applies_to log e) (reverse (drop k log.resyncs))
      (All-reverse (λ r. applies_to log e r ≡ false) (drop k log.resyncs) back-behind))
      ∙ find-same (applies_to log e) (λ r. r.host == host_of log e) (reverse (take k log.resyncs)) (All-reverse (λ r. applies_to log e r ≡ (r.host == host_of log e)) (take k log.resyncs) front-same)

  -- the span of a row's host after the resyncs that do not stand behind the row
  pub span-is : span_after log.hosts (take k log.resyncs) (host_of log e) ≡ span_of log e
  span-is = go (find (λ r. r.host == host_of log e) (reverse (take k log.resyncs))) resync-is
    where
      go : (o : Option Resync) → resync_of log e ≡ o
          → option_map_or resynced_span o (option_map_or declared_span (slice_get log.hosts (host_of log e)) (record { skew = pos 0; gap = pos 0 })) ≡ span_of log e
      go None is = rw is (declared-is (slice_get log.hosts (host_of log e)))
      go (Some r) is = rw is refl

-- before row e: the resyncs that were passed, the host_spans after them, and the spans of the rows before
pub record IsSpanning (log : Logged) (now made : List Span) (k e : ℕ) : Type 0 where
  pub within : k ≤ length log.resyncs
  pub before : (i : ℕ) (d : Resync) → i < k → (get_or log.resyncs i d).place ≤ e
  pub host_spans : AreHostSpans log.hosts (take k log.resyncs) now
  pub spans : made ≡ map (span_of log) (range_with_len 0 e)

pub spanning-begins : (log : Logged) (host_spans spans : List Span) → host_spans ≡ map declared_span log.hosts → spans ≡ [] → IsSpanning log host_spans spans 0 0
spanning-begins log host_spans spans declared none = record {
  within = omega arith;
  before = λ i d first. absurd (omega arith);
  host_spans = record {
    count = ap length declared ∙ length-map log.hosts declared_span;
    each = λ h d low. ap (λ cs. get_or cs h d) declared ∙ get_or-map declared_span log.hosts h (first-host log.hosts low) d low ∙ declared-at log.hosts h (first-host log.hosts low) low;
  };
  spans = none;
}
  where
    first-host : {h : ℕ} (hosts : List Host) → h < length hosts → Host
    first-host [] low = absurd (omega arith)
    first-host (x ∷ xs) low = x

    declared-at : (hosts : List Host) (h : ℕ) (d : Host) → h < length hosts → declared_span (get_or hosts h d) ≡ option_map_or declared_span (slice_get hosts h) (record { skew = pos 0; gap = pos 0 })
    declared-at [] h d low = absurd (omega arith)
    declared-at (x ∷ xs) zero d low = refl
    declared-at (x ∷ xs) (suc h) d low = declared-at xs h d (omega arith)

pub spanning-next : (log : Logged) (host_spans spans more : List Span) (k e host : ℕ) (d : Span) → IsLog log → HavePassed log.resyncs k e
    → AreHostSpans log.hosts (take k log.resyncs) host_spans → spans ≡ map (span_of log) (range_with_len 0 e)
    → host ≡ host_of log e → host < length log.hosts → more ≡ spans ++ get_or host_spans host d ∷ [] → IsSpanning log host_spans more k (e + 1)
spanning-next log host_spans spans more k e host d valid passed are before is hosted pushed = record {
  within = passed.within;
  before = λ i d first. let p = passed.before i d first in omega (arith, p);
  host_spans = are;
  spans =
      let here : get_or host_spans host d ≡ span_of log e = are.each host d hosted ∙ ap (span_after log.hosts (take k log.resyncs)) is ∙ span-is log valid k e passed in
      pushed ∙ ap (λ xs. xs ++ get_or host_spans host d ∷ []) before ∙ ap (λ x. map (span_of log) (range_with_len 0 e) ++ x ∷ []) here ∙ sym (map-range_with_len_more (span_of log) 0 e e (omega arith));
}

-- the spans are in their ranges
pub spans-within : (log : Logged) (spans : List Span) → IsLog log → spans ≡ map (span_of log) (range_with_len 0 (length log.rows)) → All IsSpan spans
spans-within log spans valid is k d low =
    let below : k < length log.rows = let n = rw (is, length-map-range_with_len) at low in n in
    rw (is, get_or-map-range_with_len (span_of log) 0 (length log.rows) k k d below (omega arith)) (span-within log valid k)
